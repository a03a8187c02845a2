use Rattle.nd_elements.proofs.NamesFromOtherCrates.{◌∙◌, refl, arith}
use Rattle.nd_elements.specs.growth.ElementsMovedOut.{seated}
use Rattle.nd_elements.proofs.growth_lemmas.ElementsMovedToSeats.{none_past, seated_none, seated_more}
use Rattle.nd_elements.proofs.growth_lemmas.ElementsTakenFromSeats.{seats_stay}
use Rattle.nd_elements.proofs.growth.relayout_elements.seat_all.Goals as goal

pub loop-item-init : goal.loop-item-init
loop-item-init g c =
    let seats = c.args.seats in
    (seated_none c.args.marks.now c.args.items.items (seated seats) (λ p past. none_past seats.items seats.filled p (omega (arith, seats.ok.0, c.requires, c.args.items.ok.0, past))), record { start = refl; count = refl })

pub loop-item-preserved : goal.loop-item-preserved
loop-item-preserved g c = (
  seated_more c.args.marks.now c.args.items.items c.loop-item.items.items c.pop.new.self.items (seated c.loop-item.seats) (seated c.seat_if.new.seats) c.in-Some.item c.len-place.result c.loop-item.invariant.0
      c.in-Some.ensures.items (c.len-place.ensures ∙ c.pop.new.self.ok.0) (λ kept. c.seat_if.ensures.seated (c.keeps.ensures ∙ kept)) c.seat_if.ensures.left,
  seats_stay c.args.seats c.loop-item.seats c.seat_if.new.seats c.loop-item.invariant.1 c.seat_if.ensures.places,
)
