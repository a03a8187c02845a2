use Rattle.nd_elements.proofs.NamesFromOtherCrates.{◌≡◌, ◌∙◌, ℕ, ◌+◌, arith, pointwise}
use Rattle.nd_elements.specs.CollectedElements.{collected, stored_along}
use Rattle.nd_elements.proofs.elements.eq.lanes_equal.Goals as goal

pub returns-then-ours-lt-ELEMENTS_BETWEEN_TESTS : goal.returns-then-ours-lt-ELEMENTS_BETWEEN_TESTS
returns-then-ours-lt-ELEMENTS_BETWEEN_TESTS g c =
    let same : (k : ℕ) → 0 + k ≡ k = λ k. omega arith in
    c.few_equal_strided.ensures
    ∙ λ i. pointwise g.S.Elem.PartialEq.eq
    (collected (λ k. stored_along (g.S.Data.stored c.args.a.now) c.args.ours.place c.args.ours.stride (same k i)) c.args.ours.count)
    (collected (λ k. stored_along (g.S.Data.stored c.args.b.now) c.args.theirs.place c.args.theirs.stride (same k i)) c.args.ours.count)
