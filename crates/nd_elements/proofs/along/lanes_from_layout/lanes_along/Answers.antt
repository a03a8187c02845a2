use Rattle.nd_elements.proofs.NamesFromOtherCrates.{◌≡◌, ◌∙◌, refl, sym, subst, pos, get_or, arith, w64, to_z, of_z, to_z-of_z, placement_of, length-le-product}
use Rattle.nd_elements.specs.along.AxisLanes.{LieAlong}
use Rattle.nd_elements.proofs.along_lemmas.PlacesOfLanesByIndex.{lie_along, lanes_reach, lanes_differ}
use Rattle.nd_elements.proofs.along.lanes_from_layout.lanes_along.Goals as goal

pub new-requires-clause-short : goal.new-requires-clause-short
new-requires-clause-short g c =
    omega (arith, length-le-product (g.D.Dimension.lengths c.args.layout.now.dim) c.args.axis.0 c.requires.axis, c.args.layout.now.checked, c.length.ensures)

pub new-requires-clause-lie : goal.new-requires-clause-lie
new-requires-clause-lie g c =
    let layout = c.args.layout.now in let firsts = c.args.firsts.now in
    let strides : to_z w64 (of_z w64 c.stride_at-stride.result) ≡ get_or (g.T.StrideList.strides_of layout.strides) c.args.axis.0 (pos 0) = to_z-of_z w64 c.stride_at-stride.result (record { sfits = c.stride_at-stride.type_inv }) ∙ (c.stride_at-stride.ensures ∙ (rw c.slice.ensures refl)) in
    lanes_reach (lie_along layout.offset (g.D.Dimension.lengths layout.dim) (g.T.StrideList.strides_of layout.strides) c.args.axis.0 c.requires.axis layout.as_many firsts.offset (g.E.Dimension.lengths firsts.dim) (g.U.StrideList.strides_of firsts.strides)
    (to_z w64 (of_z w64 c.stride_at-stride.result)) c.length.result strides c.length.ensures c.requires.lengths c.requires.step) layout.reach

pub returns-clause-along : goal.returns-clause-along
returns-clause-along g c =
    let layout = c.args.layout.now in let firsts = c.args.firsts.now in
    subst (LieAlong c.args.axis.0 (placement_of layout)) (sym c.new.ensures)
    (lie_along layout.offset (g.D.Dimension.lengths layout.dim) (g.T.StrideList.strides_of layout.strides) c.args.axis.0 c.requires.axis layout.as_many firsts.offset (g.E.Dimension.lengths firsts.dim) (g.U.StrideList.strides_of firsts.strides)
    (to_z w64 (of_z w64 c.stride_at-stride.result)) c.length.result (to_z-of_z w64 c.stride_at-stride.result (record { sfits = c.stride_at-stride.type_inv }) ∙ (c.stride_at-stride.ensures ∙ (rw c.slice.ensures refl))) c.length.ensures c.requires.lengths c.requires.step)

pub returns-clause-apart : goal.returns-clause-apart
returns-clause-apart g c apart = lanes_differ (returns-clause-along g c) c.args.layout.now.as_many apart
