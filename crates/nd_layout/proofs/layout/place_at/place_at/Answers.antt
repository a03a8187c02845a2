use Rattle.nd_layout.proofs.NamesFromOtherCrates.{◌≡◌, ◌<◌, ◌+ℤ◌, ◌*ℤ◌, pos, arith, rules, length, get_or, w64, FitsSigned, to_z-of_z, length_within, length-in_box, coordinate_below}
use Rattle.std.proofs.lemmas.Grind.{common_steps}
use Rattle.nd_layout.proofs.steps.PlaceComputedByAxes.{at_axis, way_from, way_to, way_next, way_ends}
use Rattle.nd_layout.proofs.layout.place_at.place_at.Goals as goal

pub moved_by-place-requires-clause-from : goal.moved_by-place-requires-clause-from
moved_by-place-requires-clause-from c =
    let many = length-in_box c.args.lengths.now c.args.index.now c.requires.inside in
    let within : c.loop-axis.axis < length c.args.lengths.now = omega arith in
    let at = at_axis c.loop-axis.axis c.args.lengths.now c.args.index.now c.args.strides.now within many c.requires.as_many in
    way_from c.args.offset c.loop-axis.axis c.loop-axis.place c.args.lengths.now c.args.index.now c.args.strides.now at c.loop-axis.invariant

pub moved_by-place-requires-clause-few : goal.moved_by-place-requires-clause-few
moved_by-place-requires-clause-few c =
    let many = length-in_box c.args.lengths.now c.args.index.now c.requires.inside in
    let within : c.loop-axis.axis < length c.args.lengths.now = omega arith in
    let below = coordinate_below c.args.lengths.now c.args.index.now c.loop-axis.axis c.requires.inside within in
    let limit = length_within c.args.lengths.now c.loop-axis.axis in
    omega (arith, below, limit, c.requires.checked)

pub moved_by-place-requires-clause-to : goal.moved_by-place-requires-clause-to
moved_by-place-requires-clause-to c =
    let many = length-in_box c.args.lengths.now c.args.index.now c.requires.inside in
    let within : c.loop-axis.axis < length c.args.lengths.now = omega arith in
    let at = at_axis c.loop-axis.axis c.args.lengths.now c.args.index.now c.args.strides.now within many c.requires.as_many in
    let fits : FitsSigned w64 (get_or c.args.strides.now c.loop-axis.axis (pos 0)) = search rules in
    rw (to_z-of_z w64 (get_or c.args.strides.now c.loop-axis.axis (pos 0)) fits) (way_to c.args.offset c.loop-axis.axis c.loop-axis.place c.args.lengths.now c.args.index.now c.args.strides.now at c.loop-axis.invariant)

pub loop-axis-preserved : goal.loop-axis-preserved
loop-axis-preserved c =
    let many = length-in_box c.args.lengths.now c.args.index.now c.requires.inside in
    let within : c.loop-axis.axis < length c.args.lengths.now = omega arith in
    let at = at_axis c.loop-axis.axis c.args.lengths.now c.args.index.now c.args.strides.now within many c.requires.as_many in
    let fits : FitsSigned w64 (get_or c.args.strides.now c.loop-axis.axis (pos 0)) = search rules in
    let moved : pos c.moved_by-place.result ≡ pos c.loop-axis.place +ℤ (pos (get_or c.args.index.now c.loop-axis.axis 0) *ℤ get_or c.args.strides.now c.loop-axis.axis (pos 0)) = rw (to_z-of_z w64 (get_or c.args.strides.now c.loop-axis.axis (pos 0)) fits) at c.moved_by-place.ensures in
    way_next c.args.offset c.loop-axis.axis c.loop-axis.place c.args.lengths.now c.args.index.now c.args.strides.now at c.loop-axis.invariant c.moved_by-place.result moved

pub returns : goal.returns
returns c = way_ends c.args.offset c.loop-axis.axis c.loop-axis.place c.args.lengths.now c.args.index.now c.args.strides.now c.loop-axis-test.false c.loop-axis.invariant

pub bounds-strides-axis : goal.bounds-strides-axis
bounds-strides-axis c = grind (arith, common_steps)
