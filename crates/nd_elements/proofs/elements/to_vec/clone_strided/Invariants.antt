use Rattle.nd_elements.proofs.NamesFromOtherCrates.{◌≡◌, ◌+◌, ◌++◌, vec_len, vec_capacity, along}
use Rattle.nd_elements.specs.CollectedElements.{collected}
use Rattle.nd_elements.specs.ElementsAtNumberedPlaces.{elements_at}
use Rattle.nd_elements.proofs.elements.to_vec.clone_strided.Given as goal

abbrev pub invariant-loop-nth : goal.invariant-loop-nth
invariant-loop-nth g l =
    (l.items.items ≡ l.fn.items.items ++ collected (elements_at g.S.Data.stored (along l.fn.lane) l.fn.storage) l.nth)
    × (vec_len l.items ≡ vec_len l.fn.items + l.nth)
    × (vec_capacity l.items ≡ vec_capacity l.fn.items)
