use Rattle.nd_layout.proofs.NamesFromOtherCrates.{◌-◌, ◌∙◌, arith, rules, sym, ap, length, get_or, cond, pos, w64, FitsSigned, to_z-of_z, eq-eqb, ne_eqb}
use Rattle.nd_layout.proofs.steps.BroadcastStep.{stride_old}
use Rattle.nd_layout.proofs.layout.broadcast.stride_under.Goals as goal

pub returns-then-from-axis : goal.returns-then-from-axis
returns-then-from-axis c =
    let from = c.args.from.now in
    let to = c.args.to.now in
    let k = c.args.axis - (length to - length from) in
    let stride = get_or c.args.strides.now k (pos 0) in
    let fits : FitsSigned w64 stride = search rules in
    let old = stride_old from to c.args.strides.now c.requires.as_many c.requires.more c.args.axis (omega (arith, c.if-axis-added.false)) c.requires.on in
    to_z-of_z w64 stride fits ∙ sym (old ∙ ap (λ b. cond b stride (pos 0)) (eq-eqb (get_or from k 0) (get_or to c.args.axis 0) c.if-from-axis.true))

pub returns-else-from-axis : goal.returns-else-from-axis
returns-else-from-axis c =
    let from = c.args.from.now in
    let to = c.args.to.now in
    let k = c.args.axis - (length to - length from) in
    let stride = get_or c.args.strides.now k (pos 0) in
    let old = stride_old from to c.args.strides.now c.requires.as_many c.requires.more c.args.axis (omega (arith, c.if-axis-added.false)) c.requires.on in
    sym (old ∙ ap (λ b. cond b stride (pos 0)) (ne_eqb (get_or from k 0) (get_or to c.args.axis 0) c.if-from-axis.false))
