use Rattle.nd_elements.proofs.NamesFromOtherCrates.{◌≡◌, ◌*◌, ◌<◌, ℕ, length, ranked, AreLanesOf}
use Rattle.nd_elements.specs.elements.TransposedRowParts.{IsRowAt}
use Rattle.nd_elements.proofs.elements.to_vec_by_parts_of_rows.rows_in.Given as goal

abbrev pub invariant-loop-nth : goal.invariant-loop-nth
invariant-loop-nth l =
    AreLanesOf l.fn.places l.lanes
    × (l.lanes.rank ≡ l.nth * l.fn.width)
    × (length l.rows ≡ length l.fn.rows)
    × ((a : ℕ) → a < l.nth → IsRowAt (ranked l.fn.places) l.fn.width a l.rows)
