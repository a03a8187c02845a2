use Rattle.nd_layout.proofs.NamesFromOtherCrates.{◌≡◌, ◌∙◌, max, arith, rules, cond, ltb, get_or, set, pos, nat_abs, w64, FitsSigned, to_z-of_z, length-set}
use Rattle.nd_layout.proofs.SpanFromAxisOn.{step_next, step_larger, step_smaller, step_short}
use Rattle.nd_layout.proofs.growing.memory_order_for_growth.greatest_step_of_others.Goals.{then-length_without-gt1+then-step-greatest, else-length_without-gt1, else-length_without-gt1-via-then-length_without-gt1+else-step-greatest, else-length_without-gt1-via-else-length_without-gt1}
use Rattle.nd_layout.proofs.growing.memory_order_for_growth.greatest_step_of_others.Goals as goal

pub loop-other-preserved : goal.loop-other-preserved
loop-other-preserved c =
    let others = set c.args.lengths.now c.args.axis 1 in
    let stride = get_or c.args.strides.now c.loop-other.other (pos 0) in
    let n = get_or others c.loop-other.other 0 in
    let s = nat_abs stride in
    let g = c.loop-other.greatest in
    let fits : FitsSigned w64 stride = search rules in
    let long = length-set c.args.lengths.now c.args.axis 1 in
    let step = rw (to_z-of_z w64 stride fits) at c.unsigned_abs-step.ensures.value in
    let len : c.length_without.result ≡ n = c.length_without.ensures in
    let next = step_next others c.args.strides.now c.loop-other.other (omega (arith, long, c.requires.as_many)) (omega (arith, long)) in
    let taken : c.if-length_without-gt1.greatest ≡ max g (cond (ltb 1 n) s 0) =
    elim c.if-length_without-gt1.branch [
      | then-length_without-gt1+then-step-greatest w ↦ w.greatest-is ∙ step ∙ step_larger g n s (omega (arith, len, w.if-length_without-gt1.true)) (omega (arith, step, w.if-step-greatest.true))
      | else-length_without-gt1 w ↦
          elim w.else-length_without-gt1.branch [
            | else-length_without-gt1-via-then-length_without-gt1+else-step-greatest v ↦ w.greatest-is ∙ step_smaller g n s (omega (arith, len, v.if-length_without-gt1.true)) (omega (arith, step, v.if-step-greatest.false))
            | else-length_without-gt1-via-else-length_without-gt1 v ↦ w.greatest-is ∙ step_short g n s (omega (arith, len, v.if-length_without-gt1.false))
          ]
    ] in
    omega (arith, taken, next, c.loop-other.invariant)
