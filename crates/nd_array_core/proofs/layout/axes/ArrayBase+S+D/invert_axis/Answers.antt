use Rattle.nd_array_core.proofs.NamesFromOtherCrates.{refl, ◌∙◌, rules, step_separated, inverted_index, place_of, stored_at, inside}
use Rattle.nd_array_core.proofs.layout_lemmas.ElementsUnderNewLayout.{step_holds, step_element}
use Rattle.nd_array_core.specs.ArrayMeaning.{meaning_of, memory_layout_of}
use Rattle.nd_array_core.proofs.layout.axes.ArrayBase+S+D.invert_axis.Goals as goal

pub invariant_of-self : goal.invariant_of-self
invariant_of-self g c = record {
  inside = step_holds (g.S.Data.stored c.args.self.now.storage) c.invert_axis.ensures.step c.args.self.now.inside;
  separated = step_separated c.invert_axis.ensures.step c.args.self.now.separated;
}

pub returns : goal.returns
unfolding meaning_of memory_layout_of
returns g c =
    let known = c.invert_axis.ensures in
    let old = c.args.self.now in
    let ns = g.D.Dimension.lengths old.layout.dim in let ss = g.D.Strides.StrideList.strides_of old.layout.strides in
    let source = inverted_index ns c.args.axis.0 in
    let shape = known.lengths in record {
      part = (
        (
          shape,
          known.strides,
          (λ i. step_element (g.S.Data.stored old.storage) known.step i ∙ (λ k. inside (shape k) i (inside ns (source i) (stored_at (g.S.Data.stored old.storage) (place_of old.layout.offset ss (source i)))))),
          search rules,
          known.empty,
        ),
        refl,
      );
    }
