use Rattle.nd_elements.proofs.NamesFromOtherCrates.{◌*◌}
use Rattle.nd_elements.specs.elements.TransposedRowParts.{IsTurnedBelow}
use Rattle.nd_elements.proofs.elements.to_vec_by_parts_of_rows.exchange_parts.Given as goal

abbrev pub invariant-loop-row : goal.invariant-loop-row
invariant-loop-row g l = IsTurnedBelow l.fn.rows l.fn.part l.fn.width (l.row * l.fn.width) l.fn.items l.items
