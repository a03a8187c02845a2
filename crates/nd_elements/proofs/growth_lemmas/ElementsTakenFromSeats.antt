-- Elements taken out of their seats, one place after another.
use Rattle.nd_elements.proofs.NamesFromOtherCrates.{◌≡◌, ℕ, ◌+◌, ◌<◌, ◌≤◌, List, [], ◌∷◌, ◌++◌, ℤ, pos, ap, sym, ◌∙◌, arith, append_assoc, Option, Some, slice_get, SamePlaces, Slots}
use Rattle.nd_elements.specs.StoragePlaces.{stored_at}
use Rattle.nd_elements.specs.CollectedElements.{collected}
use Rattle.nd_elements.specs.elements.ElementChanges.{AreDistinct}
use Rattle.nd_elements.specs.growth.ElementsMovedOut.{IsTakenTo}
use Rattle.nd_elements.proofs.RewrittenElements.{later_same}
use Rattle.nd_elements.proofs.elements_lemmas.ElementsCollectedInOrder.{collected_alike, collected_more, collected_then}

module _ {A : Type 0} where
  -- the seats stay where they are
  pub seats_stay : (old now new : Slots A) → SamePlaces old now → SamePlaces now new → SamePlaces old new
  seats_stay old now new so_far later = record { start = later.start ∙ so_far.start; count = later.count ∙ so_far.count }

  -- the places after those that were taken from have what they had
  pub still_sits : (place : ℕ → ℤ) (k n m : ℕ) → k ≤ m → m < n → AreDistinct place n → (old now : ℕ → Option A) (before items : List A) → IsTakenTo place k old now before items → stored_at now (place m) ≡ stored_at old (place m)
  still_sits place k n m from below apart old now before items so_far =
      later_same place k n apart old now so_far.left m from below

  -- one place more
  pub taken_more : (place : ℕ → ℤ) (n k p : ℕ) → k < n → AreDistinct place n → pos p ≡ place k → (old now new : ℕ → Option A) (before items after : List A) (x : A)
      → IsTakenTo place k old now before items → now p ≡ Some x → ((q : ℕ) → (q ≡ p → ⊥) → new q ≡ now q) → after ≡ items ++ x ∷ [] → IsTakenTo place (k + 1) old new before after
  taken_more place n k p below apart at old now new before items after x so_far there others put = record {
    put =
        put
        ∙ ap (λ xs. xs ++ x ∷ []) so_far.put
        ∙ append_assoc before (collected (λ j. stored_at old (place j)) k) (x ∷ [])
        ∙ ap (λ xs. before ++ xs) (sym (collected_more (λ j. stored_at old (place j)) k x here));
    left = λ q nowhere. others q (λ same. nowhere k (omega arith) (sym at ∙ ap pos (sym same))) ∙ so_far.left q (λ j under. nowhere j (omega (arith, under)));
  }
    where
      here : stored_at old (place k) ≡ Some x
      here = sym (still_sits place k n k (omega arith) below apart old now before items so_far) ∙ (ap (stored_at now) (sym at) ∙ there)

  -- a lane more: its places are the next ones
  module _ (place lane : ℕ → ℤ) (k count n : ℕ) (within : k + count ≤ n) (apart : AreDistinct place n) (goes_on : (j : ℕ) → j < count → lane j ≡ place (k + j)) where
    module _ (old now : ℕ → Option A) (before items : List A) (so_far : IsTakenTo place k old now before items) where
      lane_sits : (j : ℕ) → j < count → stored_at now (lane j) ≡ stored_at old (place (k + j))
      lane_sits j below = ap (stored_at now) (goes_on j below) ∙ still_sits place k n (k + j) (omega arith) (omega (arith, below, within)) apart old now before items so_far

      pub taken_then : (new : ℕ → Option A) (after : List A) → IsTakenTo lane count now new items after → IsTakenTo place (k + count) old new before after
      taken_then new after later = record {
        put =
            later.put
            ∙ ap (λ xs. xs ++ collected (λ j. stored_at now (lane j)) count) so_far.put
            ∙ append_assoc before (collected (λ j. stored_at old (place j)) k) (collected (λ j. stored_at now (lane j)) count)
            ∙ ap (λ xs. before ++ (collected (λ j. stored_at old (place j)) k ++ xs)) (collected_alike (λ j. stored_at now (lane j)) (λ j. stored_at old (place (k + j))) count lane_sits)
            ∙ ap (λ xs. before ++ xs) (sym (collected_then (λ j. stored_at old (place j)) k count));
        left = λ p nowhere. later.left p (λ j below e. nowhere (k + j) (omega (arith, below)) (sym (goes_on j below) ∙ e)) ∙ so_far.left p (λ j below. nowhere j (omega (arith, below)));
      }

  -- all taken: the elements by number
  pub all_taken : (place : ℕ → ℤ) (count : ℕ) (xs before after : List A) (old new : ℕ → Option A) → before ≡ [] → ((k : ℕ) → k < count → stored_at old (place k) ≡ stored_at (slice_get xs) (place k))
      → IsTakenTo place count old new before after → after ≡ collected (λ k. stored_at (slice_get xs) (place k)) count
  all_taken place count xs before after old new none seats taken =
      taken.put
      ∙ ap (λ zs. zs ++ collected (λ k. stored_at old (place k)) count) none
      ∙ collected_alike (λ k. stored_at old (place k)) (λ k. stored_at (slice_get xs) (place k)) count seats
