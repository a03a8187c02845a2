use Rattle.nd_layout.proofs.NamesFromOtherCrates.{◌∙◌, sym, pos, w64, to_z-of_z, get_or-remove_below, get_or-remove_above}
use Rattle.nd_layout.proofs.layout.axes_inserted_or_removed.stride_without.Goals as goal

pub returns-then-k-axis : goal.returns-then-k-axis
returns-then-k-axis c =
    to_z-of_z w64 c.stride_at.result (record { sfits = c.stride_at.type_inv }) ∙ c.stride_at.ensures ∙ sym (get_or-remove_below c.args.list.now c.args.axis (pos 0) c.args.k c.if-k-axis.true c.requires.on)

pub returns-else-k-axis : goal.returns-else-k-axis
returns-else-k-axis c =
    to_z-of_z w64 c.stride_at-else-k-axis.result (record { sfits = c.stride_at-else-k-axis.type_inv }) ∙ c.stride_at-else-k-axis.ensures ∙ sym (get_or-remove_above c.args.list.now c.args.axis (pos 0) c.args.k c.if-k-axis.false c.requires.on)
