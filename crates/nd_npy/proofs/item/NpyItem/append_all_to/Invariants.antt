use Rattle.std.proofs.Common.{◌≡◌, ◌++◌, take, All}
use Rattle.std.specs.List.{flat_map}
use Rattle.nd_npy.proofs.item.NpyItem.append_all_to.Given as goal

-- the bytes of the items so far
abbrev pub invariant-loop-item : goal.invariant-loop-item
invariant-loop-item g l = record {
  written : l.bytes.items ≡ l.fn.bytes.items ++ flat_map (g.Self.NpyItem.bytes_of l.order) (take l.item-index l.items);
  fits : All g.Self.NpyItem.fits (take l.item-index l.items);
}
