use Rattle.nd_elements.proofs.NamesFromOtherCrates.{◌∙◌, ap, is_some, size_of, place_at_rank}
use Rattle.nd_elements.specs.growth.ElementsMovedOut.{seated}
use Rattle.nd_elements.proofs.growth_lemmas.ElementsMovedToSeats.{seated_places}
use Rattle.nd_elements.proofs.growth_lemmas.ElementsTakenFromSeats.{all_taken}
use Rattle.nd_elements.proofs.growth.relayout_elements.move_in_order.Goals as goal

pub take_all-requires-clause-holds : goal.take_all-requires-clause-holds
take_all-requires-clause-holds g c rank below =
    ap is_some
    (seated_places (place_at_rank c.args.places.first c.args.places.lengths.now c.args.places.strides.now) (size_of c.args.places.lengths.now) c.in_ok-marks.marks.items c.as_slice-3.result.now c.replace-old.result.items c.args.items.now.items
    (seated c.seat_all-seats.result) c.in_ok-marks.ensures.kept c.as_slice-3.ensures.value (ap (λ v. v.items) c.replace-old.ensures.value) c.seat_all-seats.ensures.seated rank below)
    ∙ c.requires.holds rank below

pub returns-clause-moved : goal.returns-clause-moved
returns-clause-moved g c =
    all_taken (place_at_rank c.args.places.first c.args.places.lengths.now c.args.places.strides.now) (size_of c.args.places.lengths.now) c.args.items.now.items c.in_ok-moved.moved.items c.take_all.new.items.items
    (seated c.seat_all-seats.result) (seated c.take_all.new.seats) c.in_ok-moved.ensures.none.0
    (seated_places (place_at_rank c.args.places.first c.args.places.lengths.now c.args.places.strides.now) (size_of c.args.places.lengths.now) c.in_ok-marks.marks.items c.as_slice-3.result.now c.replace-old.result.items c.args.items.now.items
    (seated c.seat_all-seats.result) c.in_ok-marks.ensures.kept c.as_slice-3.ensures.value (ap (λ v. v.items) c.replace-old.ensures.value) c.seat_all-seats.ensures.seated)
    c.take_all.ensures.taken
