use Rattle.nd_elements.proofs.NamesFromOtherCrates.{◌∙◌, pos, ◌+ℤ◌, ◌*ℤ◌, arith}
use Rattle.nd_elements.specs.growth.ElementsMovedOut.{seated}
use Rattle.nd_elements.proofs.growth_lemmas.ElementsTakenFromSeats.{seats_stay, taken_more}
use Rattle.nd_elements.proofs.growth.relayout_elements.take_lane.Goals as goal

pub loop-nth-preserved : goal.loop-nth-preserved
loop-nth-preserved g c =
    let so_far = c.loop-nth.invariant in (
      taken_more (λ k. pos c.args.lane.place +ℤ (pos k *ℤ c.args.lane.stride)) c.args.lane.count c.loop-nth.nth c.place_of.result (omega (arith, c.loop-nth-test.true)) c.requires.apart c.place_of.ensures
          (seated c.args.seats.now) (seated c.loop-nth.seats) (seated c.take_at.new.seats) c.args.items.now.items c.loop-nth.items.items c.push_reserved.new.self.items c.take_at.result
          so_far.0 c.take_at.ensures.value c.take_at.ensures.left c.push_reserved.ensures.items,
      (let e = so_far.1 in let l = c.push_reserved.ensures.len in omega (arith, e, l)),
      c.push_reserved.ensures.capacity ∙ so_far.2,
      seats_stay c.args.seats.now c.loop-nth.seats c.take_at.new.seats so_far.3 c.take_at.ensures.places,
    )
