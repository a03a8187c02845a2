use Rattle.nd_elements.proofs.NamesFromOtherCrates.{◌≡◌, ◌≤◌, ℕ, slice_get}
use Rattle.nd_elements.specs.along.AccumulateAlongAxis.{ChangesRow}
use Rattle.nd_elements.proofs.along.accumulate_lanes_together.change_parallel_slice.Given as goal

abbrev pub invariant-loop-nth : goal.invariant-loop-nth
invariant-loop-nth g l = ChangesRow g.F.FnMut (slice_get l.fn.before) (slice_get l.fn.items) (slice_get l.items) l.fn.f l.nth l.f × ((j : ℕ) → l.nth ≤ j → slice_get l.items j ≡ slice_get l.fn.items j)
