use Rattle.nd_shape_and_slice.proofs.NamesFromOtherCrates.{arith, nat_tests}
use Rattle.nd_shape_and_slice.proofs.SeenAxes.{none_seen, seen_past, seen_more, seen_twice, all_seen, seen_all}
use Rattle.nd_shape_and_slice.proofs.axis_numbers_and_permutations.marks_each_axis.Goals as goal
use Rattle.nd_shape_and_slice.proofs.axis_numbers_and_permutations.marks_each_axis.Goals.{then-axis-ndim+else-seen-mark-ne0, else-axis-ndim}

pub loop-axis-init : goal.loop-axis-init
loop-axis-init c = none_seen c.args.axes.now c.args.ndim

pub returns-then-seen-mark-ne0 : goal.returns-then-seen-mark-ne0
returns-then-seen-mark-ne0 c =
    (λ no. cc, λ each. absurd (seen_twice c.args.axes.now c.args.ndim c.loop-axis.seen c.loop-axis.axis-index c.requires c.loop-axis-test.true c.if-axis-ndim.true c.if-seen-mark-ne0.true c.loop-axis.invariant each))

pub loop-axis-preserved : goal.loop-axis-preserved
loop-axis-preserved c =
    elim c.if-axis-ndim.branch [
      | then-axis-ndim+else-seen-mark-ne0 w ↦
          rw (w.seen-is) (seen_more c.args.axes.now c.args.ndim c.loop-axis.seen c.loop-axis.axis-index c.requires c.loop-axis-test.true w.if-axis-ndim.true w.if-seen-mark-ne0.false c.loop-axis.invariant)
      | else-axis-ndim w ↦
          rw (w.seen-is) (seen_past c.args.axes.now c.args.ndim c.loop-axis.seen c.loop-axis.axis-index c.loop-axis-test.true (omega (arith, w.if-axis-ndim.false)) c.loop-axis.invariant)
    ]

pub returns : goal.returns
returns c = (
  λ yes. all_seen c.args.axes.now c.args.ndim c.loop-axis.seen c.loop-axis.axis-index c.requires (omega (arith, c.loop-axis-test.false)) c.loop-axis.invariant (grind (arith, nat_tests, yes)),
  λ each. grind (arith, nat_tests, seen_all c.args.axes.now c.args.ndim c.loop-axis.seen c.loop-axis.axis-index c.requires (omega (arith, c.loop-axis-test.false)) c.loop-axis.invariant each),
)
