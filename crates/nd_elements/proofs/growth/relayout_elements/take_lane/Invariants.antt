use Rattle.nd_elements.proofs.NamesFromOtherCrates.{◌≡◌, ◌+◌, pos, ◌+ℤ◌, ◌*ℤ◌, vec_len, vec_capacity, SamePlaces}
use Rattle.nd_elements.specs.growth.ElementsMovedOut.{seated, IsTakenTo}
use Rattle.nd_elements.proofs.growth.relayout_elements.take_lane.Given as goal

abbrev pub invariant-loop-nth : goal.invariant-loop-nth
invariant-loop-nth g l =
    IsTakenTo (λ k. pos l.fn.lane.place +ℤ (pos k *ℤ l.fn.lane.stride)) l.nth (seated l.fn.seats) (seated l.seats) l.fn.items.items l.items.items
    × (vec_len l.items ≡ vec_len l.fn.items + l.nth)
    × (vec_capacity l.items ≡ vec_capacity l.fn.items)
    × SamePlaces l.fn.seats l.seats
