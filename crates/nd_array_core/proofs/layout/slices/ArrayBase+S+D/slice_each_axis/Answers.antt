use Rattle.nd_array_core.proofs.NamesFromOtherCrates.{refl, ◌∙◌, false≢true, fun_ext, is_some, place_of, shown_by, stored_at, inside}
use Rattle.nd_array_core.specs.ArrayMeaning.{meaning_of, memory_layout_of}
use Rattle.nd_array_core.proofs.layout_lemmas.ElementsUnderNewLayout.{step_holds}
use Rattle.nd_array_core.proofs.layout_lemmas.TakenAndLeftStorage.{seen_part}
use Rattle.nd_array_core.proofs.layout.slices.ArrayBase+S+D.slice_each_axis.Goals as goal

pub invariant_of-result : goal.invariant_of-result
invariant_of-result g c =
    let array = c.args.self.now in let ss = g.D.Strides.StrideList.strides_of array.layout.strides in
    record {
      inside = step_holds (shown_by c.borrowed.result) c.each_axis_sliced-layout.ensures.sliced.4 (λ i h. (λ k. is_some (stored_at (fun_ext c.borrowed.ensures k) (place_of array.layout.offset ss i))) ∙ array.inside i h);
      separated = λ alone. absurd (false≢true alone);
    }

pub returns : goal.returns
unfolding meaning_of memory_layout_of
returns g c =
    let new = c.each_axis_sliced-layout.result in let sliced = c.each_axis_sliced-layout.ensures.sliced in (
      sliced.0,
      sliced.1,
      sliced.2,
      seen_part (g.S.Data.stored c.args.self.now.storage) sliced.3 sliced.5 c.each_axis_sliced-layout.ensures.empty sliced.4 (record {
        shape_is = refl;
        strides_are = refl;
        elements = λ i k. inside (g.D.Dimension.lengths new.dim) i (stored_at (fun_ext c.borrowed.ensures k) (place_of new.offset (g.D.Strides.StrideList.strides_of new.strides) i));
        places = λ i. refl;
      }),
    )
