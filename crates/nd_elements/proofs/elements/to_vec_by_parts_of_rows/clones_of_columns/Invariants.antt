use Rattle.nd_elements.proofs.NamesFromOtherCrates.{◌≡◌, ◌+◌, ◌*◌, ◌++◌, vec_len, vec_capacity}
use Rattle.nd_elements.specs.CollectedElements.{collected}
use Rattle.nd_elements.specs.ElementsAtNumberedPlaces.{elements_at}
use Rattle.nd_elements.specs.elements.TransposedRowParts.{columns_of_lanes}
use Rattle.nd_elements.proofs.elements.to_vec_by_parts_of_rows.clones_of_columns.Given as goal

abbrev pub invariant-loop-nth : goal.invariant-loop-nth
invariant-loop-nth g l =
    (l.items.items ≡ l.fn.items.items ++ collected (elements_at g.S.Data.stored (columns_of_lanes l.fn.lanes l.fn.from l.fn.count) l.fn.storage) (l.nth * l.fn.count))
    × (vec_len l.items ≡ vec_len l.fn.items + l.nth * l.fn.count)
    × (vec_capacity l.items ≡ vec_capacity l.fn.items)
