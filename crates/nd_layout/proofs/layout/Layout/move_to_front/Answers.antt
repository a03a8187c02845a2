use Rattle.nd_layout.proofs.NamesFromOtherCrates.{◌≡◌, ◌+◌, ◌-◌, ◌<◌, ◌∙◌, length, pos, refl, ap, sym, arith, slice_index, slice_index_or, remove, insert, swap, length-insert, length-remove, insert-removed}
use Rattle.nd_layout.proofs.growing_lemmas.FreshStorageAxisOrder.{moved_forward}
use Rattle.nd_layout.proofs.layout.Layout.move_to_front.Goals as goal

pub loop-at-init : goal.loop-at-init
loop-at-init g c =
    let ns = g.D.Dimension.lengths c.args.self.now.dim in let ss = g.T.StrideList.strides_of c.args.self.now.strides in
    let many = c.args.self.now.as_many in let on = c.requires in
    (sym (insert-removed ns c.args.axis 0 on), sym (insert-removed ss c.args.axis (pos 0) (omega (arith, many, on))), refl, omega arith)

pub loop-at-preserved : goal.loop-at-preserved
loop-at-preserved g c =
    let ns = g.D.Dimension.lengths c.args.self.now.dim in let ss = g.T.StrideList.strides_of c.args.self.now.strides in
    let a = c.args.axis in let at = c.loop-at.at in let so_far = c.loop-at.invariant in let many = c.args.self.now.as_many in
    let on = c.requires in let within = so_far.3 in let some = c.loop-at-test.true in
    let on_strides : a < length ss = omega (arith, many, on) in let l = length-remove ns a on in
    let m = length-remove ss a on_strides in
    let back : at - 1 + 1 ≡ at = omega (arith, some) in (
      c.swap_axes.ensures.lengths ∙ (ap (λ xs. swap xs (at - 1) at) so_far.0 ∙ moved_forward (remove ns a) at (at - 1) (slice_index ns a) back (omega (arith, l, on, within))),
      c.swap_axes.ensures.strides ∙ (ap (λ xs. swap xs (at - 1) at) so_far.1 ∙ moved_forward (remove ss a) at (at - 1) (slice_index_or ss a (pos 0)) back (omega (arith, m, on_strides, within))),
      c.swap_axes.ensures.offset ∙ so_far.2,
      omega (arith, within),
    )

pub returns-clause-strides : goal.returns-clause-strides
returns-clause-strides g c =
    let ss = g.T.StrideList.strides_of c.args.self.now.strides in let end = c.loop-at-test.false in
    let none : c.loop-at.at ≡ 0 = omega (arith, end) in
    c.loop-at.invariant.1 ∙ ap (λ n. insert (remove ss c.args.axis) n (slice_index_or ss c.args.axis (pos 0))) none

pub swap_axes-requires-clause-a : goal.swap_axes-requires-clause-a
swap_axes-requires-clause-a g c =
    let ns = g.D.Dimension.lengths c.args.self.now.dim in let on = c.requires in let within = c.loop-at.invariant.3 in
    let fewer = length-remove ns c.args.axis on in
    let long = ap length c.loop-at.invariant.0 ∙ length-insert (remove ns c.args.axis) c.loop-at.at (slice_index ns c.args.axis) (omega (arith, fewer, on, within)) in
    omega (arith, long, fewer, on, within)

pub swap_axes-requires-clause-b : goal.swap_axes-requires-clause-b
swap_axes-requires-clause-b g c =
    let ns = g.D.Dimension.lengths c.args.self.now.dim in let on = c.requires in let within = c.loop-at.invariant.3 in
    let fewer = length-remove ns c.args.axis on in
    let long = ap length c.loop-at.invariant.0 ∙ length-insert (remove ns c.args.axis) c.loop-at.at (slice_index ns c.args.axis) (omega (arith, fewer, on, within)) in
    omega (arith, long, fewer, on, within)
