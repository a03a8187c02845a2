use Rattle.nd_array_core.proofs.NamesFromOtherCrates.{ap, refl, ◌∙◌, size_of, sliced_shape, sliced_index, sliced_strides, step_some}
use Rattle.nd_array_core.specs.ArrayMeaning.{meaning_of, memory_layout_of}
use Rattle.nd_array_core.specs.layout.ArrayAfterMutableView.{lent_to, array_with_part}
use Rattle.nd_array_core.proofs.layout_lemmas.ElementsUnderNewLayout.{step_holds}
use Rattle.nd_array_core.proofs.layout_lemmas.ViewOfCopiedLayout.{step_from}
use Rattle.nd_array_core.proofs.layout_lemmas.TakenAndLeftStorage.{seen_part}
use Rattle.nd_array_core.proofs.lending.ElementsOutsideView.{others_keep}
use Rattle.nd_array_core.proofs.layout.slices.ArrayBase+S+D.slice_axis_mut.Goals as goal

pub lent_as-requires-clause-holds : goal.lent_as-requires-clause-holds
lent_as-requires-clause-holds g c = let same = c.copied-part.ensures in step_holds (g.S.Data.stored c.args.self.now.storage) (step_from (λ ns. sliced_index ns c.args.axis.0 c.args.slice) same.offset same.lengths same.strides c.slice_axis.ensures.step) c.args.self.now.inside

pub lent_as-requires-clause-separated : goal.lent_as-requires-clause-separated
lent_as-requires-clause-separated g c some = let same = c.copied-part.ensures in let step = step_from (λ ns. sliced_index ns c.args.axis.0 c.args.slice) same.offset same.lengths same.strides c.slice_axis.ensures.step in step.separated (c.args.self.now.separated g.met.S.DataMut.alone (step_some step some))

pub returns : goal.returns
unfolding meaning_of memory_layout_of array_with_part
returns g c =
    let array = c.args.self.now in let old = array.layout in
    let ns = g.D.Dimension.lengths old.dim in let ss = g.D.Strides.StrideList.strides_of old.strides in let m = g.S.Data.stored array.storage in
    let same = c.copied-part.ensures in let step = step_from (λ ns. sliced_index ns c.args.axis.0 c.args.slice) same.offset same.lengths same.strides c.slice_axis.ensures.step in
    let seen = c.lent_as.ensures.seen in let shaped = c.slice_axis.ensures.lengths ∙ (λ k. sliced_shape (same.lengths k) c.args.axis.0 c.args.slice) in (
      (refl, λ w. refl),
      record {
        writes_back = tt;
        part = seen_part m shaped (c.slice_axis.ensures.strides ∙ (λ k. sliced_strides (same.lengths k) (same.strides k) c.args.axis.0 c.args.slice)) (λ none. c.lent_as.ensures.offset ∙ c.slice_axis.ensures.empty (ap size_of same.lengths ∙ none) ∙ same.offset) step seen;
        refilled = c.lent_as.ensures.refilled;
        others = c.lent_as.ensures.others;
        kept = λ ws. let new = array_with_part g.S.Data.refilled g.S.Data.items array (lent_to c.lent_as.result.storage) ws in
            others_keep m old.offset ns ss old.as_many (array.separated g.met.S.DataMut.alone) step seen (g.S.Data.stored new.storage) (c.lent_as.ensures.others ws) (sliced_shape ns c.args.axis.0 c.args.slice) shaped;
      },
    )
