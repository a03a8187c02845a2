use Rattle.std.proofs.Common.{◌≡◌, length, take, All}
use Rattle.nd_npy.proofs.raw_items.have_their_size.Given as goal

-- the items so far
abbrev pub invariant-loop-item : goal.invariant-loop-item
invariant-loop-item g l = All (λ item. length item ≡ g.row.N) (take l.item-index l.items)
