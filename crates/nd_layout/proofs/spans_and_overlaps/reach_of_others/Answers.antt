use Rattle.nd_layout.proofs.NamesFromOtherCrates.{◌≡◌, ◌≤◌, ◌^◌, arith, rules, subst, sym, get_or, set, pos, w64, FitsSigned, to_z-of_z, length-set, span_within}
use Rattle.std.specs.Option.{MatchOption}
use Rattle.nd_layout.proofs.SpanFromAxisOn.{within_next}
use Rattle.nd_layout.proofs.spans_and_overlaps.reach_of_others.Goals as goal

pub loop-other-init : goal.loop-other-init
loop-other-init c = omega arith

pub loop-other-preserved : goal.loop-other-preserved
loop-other-preserved c =
    let others = set c.args.lengths.now c.args.axis 1 in
    let stride = get_or c.args.strides.now c.loop-other.other (pos 0) in
    let fits : FitsSigned w64 stride = search rules in
    let long = length-set c.args.lengths.now c.args.axis 1 in
    let reach = rw (to_z-of_z w64 stride fits, c.length_without-length.ensures) at (c.in_ok-reach_within.ensures) in
    let next = within_next others c.args.strides.now c.loop-other.other (omega (arith, long, c.requires)) (omega (arith, long)) c.args.magnitude in
    omega (arith, reach, next, c.loop-other.invariant, (c.in_ok-total.ensures).1)

pub returns-in_err-reach_within : goal.returns-in_err-reach_within
returns-in_err-reach_within c =
    let others = set c.args.lengths.now c.args.axis 1 in
    let stride = get_or c.args.strides.now c.loop-other.other (pos 0) in
    let fits : FitsSigned w64 stride = search rules in
    let long = length-set c.args.lengths.now c.args.axis 1 in
    let reach = rw (to_z-of_z w64 stride fits, c.length_without-length.ensures) at (c.in_err-reach_within.ensures) in
    let next = within_next others c.args.strides.now c.loop-other.other (omega (arith, long, c.requires)) (omega (arith, long)) c.args.magnitude in
    let whole = span_within c.args.magnitude others c.args.strides.now in
    let far : 2 ^ 64 ≤ whole = omega (arith, reach, next, c.loop-other.invariant) in
    subst (λ r. MatchOption r (2 ^ 64 ≤ whole) (λ n. n ≡ whole)) (sym c.from_residual.ensures) far

pub returns-in_err-total : goal.returns-in_err-total
returns-in_err-total c =
    let others = set c.args.lengths.now c.args.axis 1 in
    let stride = get_or c.args.strides.now c.loop-other.other (pos 0) in
    let fits : FitsSigned w64 stride = search rules in
    let long = length-set c.args.lengths.now c.args.axis 1 in
    let reach = rw (to_z-of_z w64 stride fits, c.length_without-length.ensures) at (c.in_ok-reach_within.ensures) in
    let next = within_next others c.args.strides.now c.loop-other.other (omega (arith, long, c.requires)) (omega (arith, long)) c.args.magnitude in
    let whole = span_within c.args.magnitude others c.args.strides.now in
    let far : 2 ^ 64 ≤ whole = omega (arith, reach, next, c.loop-other.invariant, c.in_err-total.ensures) in
    subst (λ r. MatchOption r (2 ^ 64 ≤ whole) (λ n. n ≡ whole)) (sym c.from_residual-in_err-total.ensures) far
