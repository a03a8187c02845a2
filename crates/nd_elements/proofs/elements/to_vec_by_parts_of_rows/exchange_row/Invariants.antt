use Rattle.nd_elements.proofs.NamesFromOtherCrates.{◌≡◌, ◌+◌, ◌*◌, length}
use Rattle.nd_elements.specs.elements.TransposedRowParts.{TurnsFurther}
use Rattle.nd_elements.proofs.elements.to_vec_by_parts_of_rows.exchange_row.Given as goal

abbrev pub invariant-loop-other : goal.invariant-loop-other
invariant-loop-other g l =
    TurnsFurther l.fn.rows l.fn.part l.fn.width (l.fn.row * l.fn.width) (l.fn.row * l.fn.width + l.other * l.fn.part) l.fn.items l.items
    × (length l.items ≡ length l.fn.items)
