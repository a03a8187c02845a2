use Rattle.nd_elements.proofs.NamesFromOtherCrates.{◌≡◌, ◌∙◌, ◌&&◌, ℕ, Bool, true, false, List, length, sym, ap, rules, take, drop, pointwise}
use Rattle.nd_elements.proofs.elements_lemmas.ComparedElements.{front_then}
use Rattle.nd_elements.proofs.elements.eq.equal_slice.Goals as goal

module _ {A : Type 0} (E : A → A → Bool) (n : ℕ) (xs ys bs cs rs ws : List A) (as_long : length ys ≡ length xs)
    (b : bs ≡ take n xs) (c : cs ≡ take n ys) (r : rs ≡ drop n xs) (w : ws ≡ drop n ys) where
  parted : (t : Bool) → t ≡ pointwise E bs cs → pointwise E xs ys ≡ (t && pointwise E rs ws)
  parted t e =
      front_then E n xs ys as_long
      ∙ ap (λ p. p && pointwise E (drop n xs) (drop n ys)) (sym (λ i. pointwise E (b i) (c i)) ∙ sym e)
      ∙ ap (λ p. t && p) (sym (λ i. pointwise E (r i) (w i)))

pub returns-then-not-block_equal_slice : goal.returns-then-not-block_equal_slice
returns-then-not-block_equal_slice g c =
    sym
    (c.loop-ours.invariant.1
    ∙ parted g.A.PartialEq.eq 64 c.loop-ours.ours.now c.loop-ours.theirs.now _ _ _ _ c.loop-ours.invariant.0
    c.split_at.ensures.front c.split_at-in-loop-ours.ensures.front c.split_at.ensures.back c.split_at-in-loop-ours.ensures.back
    false (sym c.if-not-block_equal_slice.true ∙ c.block_equal_slice.ensures))

pub loop-ours-preserved : goal.loop-ours-preserved
loop-ours-preserved g c = (
  search rules,
  c.loop-ours.invariant.1
      ∙ parted g.A.PartialEq.eq 64 c.loop-ours.ours.now c.loop-ours.theirs.now _ _ _ _ c.loop-ours.invariant.0
      c.split_at.ensures.front c.split_at-in-loop-ours.ensures.front c.split_at.ensures.back c.split_at-in-loop-ours.ensures.back
      true (sym c.if-not-block_equal_slice.false ∙ c.block_equal_slice.ensures),
)
