use Rattle.nd_elements.proofs.NamesFromOtherCrates.{◌≡◌, ◌+◌, ◌++◌, slice_get, vec_len, vec_capacity}
use Rattle.nd_elements.specs.CollectedElements.{collected}
use Rattle.nd_elements.proofs.elements.to_vec.clone_slice.Given as goal

abbrev pub invariant-loop-nth : goal.invariant-loop-nth
invariant-loop-nth g l =
    (l.items.items ≡ l.fn.items.items ++ collected (slice_get l.run) l.nth)
    × (vec_len l.items ≡ vec_len l.fn.items + l.nth)
    × (vec_capacity l.items ≡ vec_capacity l.fn.items)
