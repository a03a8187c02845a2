use Rattle.nd_elements.proofs.NamesFromOtherCrates.{◌≡◌, ◌≤◌, vec_len, vec_capacity, All}
use Rattle.nd_elements.proofs.base.from_elem.defaults.Given as goal

abbrev pub invariant-loop : goal.invariant-loop
invariant-loop g l = (vec_len l.items ≡ l.counter) × (l.fn.count ≤ vec_capacity l.items) × All g.A.Default.is_default l.items.items
