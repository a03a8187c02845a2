use Rattle.nd_layout.proofs.NamesFromOtherCrates.{◌≡◌, ◌+◌, ◌-◌, ◌∙◌, arith, subst, sym, get_or, pos, w64, to_z-of_z, get_or-insert_below, get_or-insert_at, get_or-insert_above, insert}
use Rattle.nd_layout.proofs.layout.axes_inserted_or_removed.stride_with.Goals as goal

pub returns-then-k-axis : goal.returns-then-k-axis
returns-then-k-axis c =
    to_z-of_z w64 c.stride_at.result (record { sfits = c.stride_at.type_inv }) ∙ c.stride_at.ensures ∙ sym (get_or-insert_below c.args.list.now c.args.axis (pos 1) (pos 0) c.args.k c.if-k-axis.true c.requires.on)

pub returns-then-k-axis-2 : goal.returns-then-k-axis-2
returns-then-k-axis-2 c =
    subst (λ k. pos 1 ≡ get_or (insert c.args.list.now c.args.axis (pos 1)) k (pos 0)) (sym c.if-k-axis-2.true) (sym (get_or-insert_at c.args.list.now c.args.axis (pos 1) (pos 0) c.requires.on))

pub returns-else-k-axis-2 : goal.returns-else-k-axis-2
returns-else-k-axis-2 c =
    let stays = to_z-of_z w64 c.stride_at-else-k-axis-2.result (record { sfits = c.stride_at-else-k-axis-2.type_inv }) in
    let before = c.args.k - 1 in let next : before + 1 ≡ c.args.k = omega arith in
    let above = rw next at (get_or-insert_above c.args.list.now c.args.axis (pos 1) (pos 0) before (omega arith) c.requires.on) in
    stays ∙ c.stride_at-else-k-axis-2.ensures ∙ sym above
