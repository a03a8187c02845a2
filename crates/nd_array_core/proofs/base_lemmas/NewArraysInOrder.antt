-- The elements of a new array in an order lie at their ranks.
use Rattle.nd_array_core.proofs.NamesFromOtherCrates.{◌≡◌, ℕ, ◌<◌, Bool, true, false, List, ℤ, refl, ap, ◌∙◌, Option, IsSome, in_box, size_of, place_of, stored_at, names_place, HoldsAll, inside, IsRanked, ranked_place}

module _ {ns : List ℕ} {ss : List ℤ} {rank : List ℕ → ℕ} (ranked : IsRanked ns ss rank) where
  module _ {A : Type 0} (stored : ℕ → Option A) where
    -- the storage holds an element at each index where it holds as many as the shape has
    pub ranked_holds : ((p : ℕ) → p < size_of ns → IsSome (stored p)) → HoldsAll stored 0 ns ss
    ranked_holds holds i h = ap (names_place stored) (ranked_place ranked i h) ∙ holds (rank i) (ranked.below i h)

    -- the element at an index is the one at its rank
    pub ranked_element : (i : List ℕ) → inside ns i (stored_at stored (place_of 0 ss i)) ≡ inside ns i (stored (rank i))
    ranked_element i = at (in_box ns i) refl
      where
        at : (b : Bool) → in_box ns i ≡ b → inside ns i (stored_at stored (place_of 0 ss i)) ≡ inside ns i (stored (rank i))
        at true h = ap (λ z. inside ns i (stored_at stored z)) (ranked_place ranked i h)
        at false h = rw h refl
