use Rattle.nd_array_core.proofs.NamesFromOtherCrates.{refl, ◌∙◌, shape_after, step_some}
use Rattle.nd_array_core.specs.ArrayMeaning.{meaning_of, memory_layout_of}
use Rattle.nd_array_core.specs.layout.ArrayAfterMutableView.{lent_to, array_with_part}
use Rattle.nd_array_core.proofs.layout_lemmas.ElementsUnderNewLayout.{step_holds}
use Rattle.nd_array_core.proofs.layout_lemmas.TakenAndLeftStorage.{seen_part}
use Rattle.nd_array_core.proofs.lending.ElementsOutsideView.{others_keep}
use Rattle.nd_array_core.proofs.layout.slices.ArrayBase+S+D.slice_mut.Goals as goal

pub lent_as-requires-clause-holds : goal.lent_as-requires-clause-holds
lent_as-requires-clause-holds g c = step_holds (g.S.Data.stored c.args.self.now.storage) c.sliced_by-named.ensures.list_step c.args.self.now.inside

pub lent_as-requires-clause-separated : goal.lent_as-requires-clause-separated
lent_as-requires-clause-separated g c some = let step = c.sliced_by-named.ensures.list_step in step.separated (c.args.self.now.separated g.met.S.DataMut.alone (step_some step some))

pub returns : goal.returns
unfolding meaning_of memory_layout_of array_with_part
returns g c =
    let array = c.args.self.now in let old = array.layout in
    let ns = g.D.Dimension.lengths old.dim in let ss = g.D.Strides.StrideList.strides_of old.strides in let m = g.S.Data.stored array.storage in
    let step = c.sliced_by-named.ensures.list_step in
    let seen = c.lent_as.ensures.seen in let shaped = c.sliced_by-named.ensures.lengths_are in (
      (refl, λ w. refl),
      record {
        writes_back = tt;
        part = seen_part m shaped c.sliced_by-named.ensures.strides_are (λ none. c.lent_as.ensures.offset ∙ c.sliced_by-named.ensures.empty none) step seen;
        refilled = c.lent_as.ensures.refilled;
        others = c.lent_as.ensures.others;
        kept = λ ws. let new = array_with_part g.S.Data.refilled g.S.Data.items array (lent_to c.lent_as.result.storage) ws in
            others_keep m old.offset ns ss old.as_many (array.separated g.met.S.DataMut.alone) step seen (g.S.Data.stored new.storage) (c.lent_as.ensures.others ws) (shape_after ns (g.I.SliceArg.elements_of c.args.info)) shaped;
      },
    )
