use Rattle.nd_elements.proofs.NamesFromOtherCrates.{◌∙◌, ap, sym, slice_get}
use Rattle.nd_elements.specs.StoragePlaces.{stored_at}
use Rattle.nd_elements.specs.growth.ElementsMovedOut.{is_kept}
use Rattle.nd_elements.proofs.growth_lemmas.ElementsMovedToSeats.{marked}
use Rattle.nd_elements.proofs.growth.relayout_elements.marks_of.Goals as goal

pub returns-then-items-size : goal.returns-then-items-size
returns-then-items-size g c = record { kept = λ k p below at. ap (λ xs. is_kept xs p) c.new.ensures.items }

pub returns : goal.returns
returns g c =
    let marks = c.fill_places.new.storage.items.items in
    record { kept = λ k p below at. marked marks p (ap (stored_at (slice_get marks)) (sym at) ∙ c.in_ok-fill_places.ensures.filled.done k below) }
