use Rattle.nd_elements.proofs.NamesFromOtherCrates.{◌≡◌, ◌+◌, ◌<◌, ◌≤◌, pos, ◌+ℤ◌, ◌*ℤ◌}
use Rattle.nd_elements.specs.along.RemovedIndex.{rotated, IsMovedBy}
use Rattle.nd_elements.proofs.along.remove_index.rotate_lane.Given as goal

abbrev pub invariant-loop-nth : goal.invariant-loop-nth
invariant-loop-nth g l =
    IsMovedBy (g.S.Data.stored l.fn.storage) (g.S.Data.stored l.storage) (λ k. pos l.fn.lane.place +ℤ (pos k *ℤ l.fn.lane.stride)) l.fn.lane.count (rotated l.fn.from (l.nth + 1))
    × (g.S.DataMut.frame l.storage ≡ g.S.DataMut.frame l.fn.storage)
    × (l.fn.from ≤ l.nth)
    × (l.nth < l.fn.lane.count)
