use Rattle.nd_elements.proofs.NamesFromOtherCrates.{◌≡◌, ◌≤◌, ◌-◌, true, pointwise}
use Rattle.nd_elements.specs.CollectedElements.{collected, stored_along}
use Rattle.nd_elements.proofs.elements.eq.equal_strided.Given as goal

abbrev pub invariant-loop-from : goal.invariant-loop-from
invariant-loop-from g l =
    (l.from ≤ l.fn.ours.count)
    × (pointwise g.S.Elem.PartialEq.eq
    (collected (stored_along (g.S.Data.stored l.fn.a) l.fn.ours.place l.fn.ours.stride) l.from)
    (collected (stored_along (g.S.Data.stored l.fn.b) l.fn.theirs.place l.fn.theirs.stride) l.from) ≡ true)

abbrev pub decreases-loop-from : goal.decreases-loop-from
decreases-loop-from g l = l.fn.ours.count - l.from
