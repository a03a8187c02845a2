use Rattle.nd_elements.proofs.NamesFromOtherCrates.{◌≡◌, ◌≤◌, ℕ, slice_get}
use Rattle.nd_elements.specs.along.FoldOfLanes.{FoldsInParallel}
use Rattle.nd_elements.proofs.along.fold_lanes_together.fold_parallel_slice.Given as goal

abbrev pub invariant-loop-nth : goal.invariant-loop-nth
invariant-loop-nth g l = FoldsInParallel g.F.FnMut (slice_get l.fn.totals) (slice_get l.fn.items) (slice_get l.totals) l.fn.f l.nth l.f × ((j : ℕ) → l.nth ≤ j → slice_get l.totals j ≡ slice_get l.fn.totals j)
