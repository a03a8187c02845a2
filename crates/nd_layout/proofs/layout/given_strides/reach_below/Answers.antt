use Rattle.nd_layout.proofs.NamesFromOtherCrates.{◌≡◌, [], ◌∷◌, arith, rules, get_or, pos, w64, FitsSigned, to_z-of_z}
use Rattle.nd_layout.specs.StridesAfterLayoutCalls.{reach_down}
use Rattle.nd_layout.proofs.AxisChange.{span_of-at}
use Rattle.nd_layout.proofs.steps.GivenStrides.{reach_down-le-span, reach_down-drop}
use Rattle.nd_layout.proofs.layout.given_strides.reach_below.Goals as goal

pub down_by-offset-requires : goal.down_by-offset-requires
down_by-offset-requires c =
    let stride = get_or c.args.strides.now c.loop-axis.axis (pos 0) in
    let fits : FitsSigned w64 stride = search rules in
    let part = span_of-at c.args.lengths.now c.args.strides.now c.loop-axis.axis c.requires.as_many c.loop-axis-test.true in
    rw (to_z-of_z w64 stride fits) (omega (arith, part, c.requires.spread))

pub overflow_add-offset : goal.overflow_add-offset
overflow_add-offset c =
    let ns = c.args.lengths.now in
    let ss = c.args.strides.now in
    let stride = get_or ss c.loop-axis.axis (pos 0) in
    let fits : FitsSigned w64 stride = search rules in
    let here : c.down_by-offset.result ≡ reach_down (get_or ns c.loop-axis.axis 0 ∷ []) (stride ∷ []) = rw (to_z-of_z w64 stride fits) at c.down_by-offset.ensures in
    let parts = reach_down-drop ns ss c.loop-axis.axis c.requires.as_many c.loop-axis-test.true in
    let whole = reach_down-le-span ns ss in
    omega (arith, here, parts, whole, c.requires.spread, c.loop-axis.invariant)

pub loop-axis-preserved : goal.loop-axis-preserved
loop-axis-preserved c =
    let ns = c.args.lengths.now in
    let ss = c.args.strides.now in
    let stride = get_or ss c.loop-axis.axis (pos 0) in
    let fits : FitsSigned w64 stride = search rules in
    let here : c.down_by-offset.result ≡ reach_down (get_or ns c.loop-axis.axis 0 ∷ []) (stride ∷ []) = rw (to_z-of_z w64 stride fits) at c.down_by-offset.ensures in
    let parts = reach_down-drop ns ss c.loop-axis.axis c.requires.as_many c.loop-axis-test.true in
    omega (arith, here, parts, c.loop-axis.invariant)
