use Rattle.nd_array_core.specs.ArrayMeaning.{meaning_of, memory_layout_of}
use Rattle.nd_array_core.proofs.NamesFromOtherCrates.{shown_by, ◌∙◌, subst, sym, ◌<◌}
use Rattle.nd_array_core.proofs.reshape_lemmas.RunElements.{standard_has, standard_elements}
use Rattle.nd_array_core.proofs.reshape.elements_as_slice.ArrayView+A+D.to_slice.Goals as goal

pub run-requires : goal.run-requires
unfolding meaning_of memory_layout_of
run-requires g c =
    let array = c.args.self.now in
    rw c.size.ensures
    (standard_has (shown_by array.storage) array.layout.offset (g.D.Dimension.lengths array.layout.dim) (g.D.Strides.StrideList.strides_of array.layout.strides) (c.is_standard_layout.ensures.0 c.if-is_standard_layout.true) array.inside)

pub returns-then-is_standard_layout-clause-elements :
    goal.returns-then-is_standard_layout-clause-elements
unfolding meaning_of memory_layout_of
returns-then-is_standard_layout-clause-elements g c =
    let array = c.args.self.now in
    let ns = g.D.Dimension.lengths array.layout.dim in
    standard_elements (shown_by array.storage) array.layout.offset ns (g.D.Strides.StrideList.strides_of array.layout.strides) (c.is_standard_layout.ensures.0 c.if-is_standard_layout.true)
    c.run.result.now (c.run.ensures.count ∙ c.size.ensures)
    (λ k d below. c.run.ensures.elements k d (subst (λ n. k < n) (sym c.size.ensures) below))
