use Rattle.nd_elements.proofs.NamesFromOtherCrates.{◌≡◌, ◌+◌, ◌*◌, ◌++◌, vec_len, vec_capacity}
use Rattle.nd_elements.specs.CollectedElements.{collected}
use Rattle.nd_elements.specs.ElementsAtNumberedPlaces.{elements_at}
use Rattle.nd_elements.specs.elements.TransposedRowParts.{rows_by_parts}
use Rattle.nd_elements.proofs.elements.to_vec_by_parts_of_rows.clones_by_parts.Given as goal

abbrev pub invariant-loop-nth : goal.invariant-loop-nth
invariant-loop-nth g l =
    (l.items.items ≡ l.fn.items.items ++ collected (elements_at g.S.Data.stored (rows_by_parts l.fn.lanes l.fn.part l.fn.width) l.fn.storage) (l.nth * l.fn.width))
    × (vec_len l.items ≡ vec_len l.fn.items + l.nth * l.fn.width)
    × (vec_capacity l.items ≡ vec_capacity l.fn.items)
