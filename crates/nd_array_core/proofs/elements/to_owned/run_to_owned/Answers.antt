use Rattle.nd_array_core.proofs.NamesFromOtherCrates.{◌≡◌, ◌∙◌, sym, subst, rules, slice_get, place_of, reach_down, inside, stored_at}
use Rattle.nd_array_core.specs.ArrayMeaning.{meaning_of, memory_layout_of}
use Rattle.nd_array_core.specs.reshape.ElementsAsSlice.{IsInMemoryOrder}
use Rattle.nd_array_core.proofs.reshape_lemmas.MemoryOrder.{lies_clones}
use Rattle.nd_array_core.proofs.elements.to_owned.run_to_owned.Goals as goal

pub clones_of_slice-requires : goal.clones_of_slice-requires
clones_of_slice-requires g c = lies_clones g.S.Elem.Clone.is_clone c.run_elements.result.now c.run_elements.ensures.order c.requires.clones

pub returns : goal.returns
unfolding meaning_of memory_layout_of
returns g c =
    let layout = c.args.array.now.layout in
    let ns = g.D.Dimension.lengths layout.dim in
    let ss = g.D.Strides.StrideList.strides_of layout.strides in
    let down : c.reach_below-below.result ≡ reach_down ns ss = rw (c.slice.ensures.lengths, c.slice-2.ensures) at c.reach_below-below.ensures in
    record {
      shape = search rules;
      elements = λ i. c.of_run.ensures.elements i
          ∙ (λ k. inside ns i (stored_at (slice_get (c.in_ok-items.ensures.items k)) (place_of (down k) ss i)))
          ∙ c.run_elements.ensures.shifted i;
      run = (
        c.of_run.ensures.strides,
        c.of_run.ensures.offset ∙ down,
        subst (IsInMemoryOrder c.args.array.now) (sym (c.of_run.ensures.stored ∙ c.in_ok-items.ensures.items)) c.run_elements.ensures.order,
      );
      refused = search rules;
    }
