use Rattle.nd_elements.proofs.NamesFromOtherCrates.{◌≡◌, ◌+◌, true, pointwise}
use Rattle.nd_elements.specs.CollectedElements.{collected, stored_along}
use Rattle.nd_elements.proofs.elements.eq.few_equal_strided.Given as goal

abbrev pub invariant-loop-nth : goal.invariant-loop-nth
invariant-loop-nth g l =
    true ≡ pointwise g.S.Elem.PartialEq.eq
    (collected (λ k. stored_along (g.S.Data.stored l.fn.a) l.fn.ours.place l.fn.ours.stride (l.fn.from + k)) l.nth)
    (collected (λ k. stored_along (g.S.Data.stored l.fn.b) l.fn.theirs.place l.fn.theirs.stride (l.fn.from + k)) l.nth)
