use Rattle.nd_layout.proofs.NamesFromOtherCrates.{◌≤◌, ◌^◌, arith, rules, subst, sym, get_or, pos, w64, FitsSigned, to_z-of_z, span_of}
use Rattle.nd_layout.specs.NonOverlappingStrides.{IsNumberBelow}
use Rattle.nd_layout.proofs.SpanFromAxisOn.{span_next}
use Rattle.nd_layout.proofs.spans_and_overlaps.span.Goals as goal

pub loop-axis-init : goal.loop-axis-init
loop-axis-init c = omega arith

pub loop-axis-preserved : goal.loop-axis-preserved
loop-axis-preserved c =
    let stride = get_or c.args.strides.now c.loop-axis.axis (pos 0) in
    let fits : FitsSigned w64 stride = search rules in
    let reach = rw (to_z-of_z w64 stride fits) at (c.in_ok-reach.ensures) in
    let next = span_next c.args.lengths.now c.args.strides.now c.loop-axis.axis c.requires.as_many c.loop-axis-test.true in
    omega (arith, reach, next, c.loop-axis.invariant, (c.in_ok-total.ensures).1)

pub returns-in_err-reach : goal.returns-in_err-reach
returns-in_err-reach c =
    let stride = get_or c.args.strides.now c.loop-axis.axis (pos 0) in
    let fits : FitsSigned w64 stride = search rules in
    let reach = rw (to_z-of_z w64 stride fits) at (c.in_err-reach.ensures) in
    let next = span_next c.args.lengths.now c.args.strides.now c.loop-axis.axis c.requires.as_many c.loop-axis-test.true in
    let whole = span_of c.args.lengths.now c.args.strides.now in
    let far : 2 ^ 63 ≤ whole = omega (arith, reach, next, c.loop-axis.invariant) in
    subst (IsNumberBelow (2 ^ 63) whole) (sym c.from_residual.ensures) far

pub returns-in_err-total : goal.returns-in_err-total
returns-in_err-total c =
    let stride = get_or c.args.strides.now c.loop-axis.axis (pos 0) in
    let fits : FitsSigned w64 stride = search rules in
    let reach = rw (to_z-of_z w64 stride fits) at (c.in_ok-reach.ensures) in
    let next = span_next c.args.lengths.now c.args.strides.now c.loop-axis.axis c.requires.as_many c.loop-axis-test.true in
    let whole = span_of c.args.lengths.now c.args.strides.now in
    let far : 2 ^ 63 ≤ whole = omega (arith, reach, next, c.loop-axis.invariant, c.in_err-total.ensures) in
    subst (IsNumberBelow (2 ^ 63) whole) (sym c.from_residual-in_err-total.ensures) far
