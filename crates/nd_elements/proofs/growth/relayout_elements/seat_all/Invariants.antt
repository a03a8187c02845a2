use Rattle.nd_elements.proofs.NamesFromOtherCrates.{vec_len, SamePlaces}
use Rattle.nd_elements.specs.growth.ElementsMovedOut.{seated}
use Rattle.nd_elements.proofs.growth_lemmas.ElementsMovedToSeats.{IsSeatedAfter}
use Rattle.nd_elements.proofs.growth.relayout_elements.seat_all.Given as goal

abbrev pub invariant-loop-item : goal.invariant-loop-item
invariant-loop-item g l = IsSeatedAfter l.marks l.fn.items.items l.items.items (seated l.seats) × SamePlaces l.fn.seats l.seats

abbrev pub decreases-loop-item : goal.decreases-loop-item
decreases-loop-item g l = vec_len l.items
