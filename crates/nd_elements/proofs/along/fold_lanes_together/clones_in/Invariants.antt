use Rattle.nd_elements.proofs.NamesFromOtherCrates.{◌≡◌, ◌<◌, ◌≤◌, ℕ, Some, length, slice_get, vec_len, vec_capacity}
use Rattle.nd_elements.proofs.along.fold_lanes_together.clones_in.Given as goal

abbrev pub invariant-loop : goal.invariant-loop
invariant-loop g l = (vec_len l.items ≡ l.counter) × (l.fn.count ≤ vec_capacity l.items) × (length l.items.items ≡ l.counter) × ((k : ℕ) → k < l.counter → slice_get l.items.items k ≡ Some l.fn.value)
