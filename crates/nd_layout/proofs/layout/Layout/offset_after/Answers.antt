use Rattle.nd_layout.proofs.NamesFromOtherCrates.{arith, set, w64, inr, false≢true, to_z-of_z, size_of, length_within}
use Rattle.nd_layout.proofs.steps.AxisCollapseSplitInvert.{moved_place, offset_below, some_left}
use Rattle.nd_layout.proofs.steps.SlicingOneAxis.{none_left}
use Rattle.nd_layout.proofs.layout.Layout.offset_after.Goals as goal
use Rattle.nd_layout.proofs.order_lemmas.AxisJoins.{some_size}

pub moved_by-requires-clause-from : goal.moved_by-requires-clause-from
moved_by-requires-clause-from g c =
    let some = some_size (size_of (set (g.D.Dimension.lengths c.args.self.now.dim) c.args.axis c.args.len)) c.if-leaves_none.ensures.1 in
    let below = c.requires.within (some_left (g.D.Dimension.lengths c.args.self.now.dim) c.args.axis c.args.len c.requires.on some) in
    offset_below (g.D.Dimension.lengths c.args.self.now.dim) (g.T.StrideList.strides_of c.args.self.now.strides) c.args.axis c.args.self.now.as_many c.requires.on c.args.self.now.offset c.args.len c.args.self.now.reach some (omega (arith, below))

pub moved_by-requires-clause-few : goal.moved_by-requires-clause-few
moved_by-requires-clause-few g c =
    let some = some_size (size_of (set (g.D.Dimension.lengths c.args.self.now.dim) c.args.axis c.args.len)) c.if-leaves_none.ensures.1 in
    let below = c.requires.within (some_left (g.D.Dimension.lengths c.args.self.now.dim) c.args.axis c.args.len c.requires.on some) in
    let limit = length_within (g.D.Dimension.lengths c.args.self.now.dim) c.args.axis in
    omega (arith, below, limit, c.args.self.now.checked)

pub moved_by-requires-clause-to : goal.moved_by-requires-clause-to
moved_by-requires-clause-to g c =
    let some = some_size (size_of (set (g.D.Dimension.lengths c.args.self.now.dim) c.args.axis c.args.len)) c.if-leaves_none.ensures.1 in
    let below = c.requires.within (some_left (g.D.Dimension.lengths c.args.self.now.dim) c.args.axis c.args.len c.requires.on some) in
    rw (to_z-of_z w64 c.stride.result (record { sfits = c.stride.type_inv }), c.stride.ensures) (moved_place (g.D.Dimension.lengths c.args.self.now.dim) (g.T.StrideList.strides_of c.args.self.now.strides) c.args.axis c.args.self.now.as_many c.requires.on c.args.self.now.offset c.args.len c.args.steps c.args.self.now.reach some below)

pub returns-else-leaves_none-clause-empty : goal.returns-else-leaves_none-clause-empty
returns-else-leaves_none-clause-empty g c none =
    absurd (false≢true (c.if-leaves_none.ensures.1 (none_left (g.D.Dimension.lengths c.args.self.now.dim) c.args.axis c.args.len c.requires.on c.requires.shorter (inr none))))
