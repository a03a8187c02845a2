-- What follows where each index of a new box names an old index that has the same place.
use Rattle.nd_elements.proofs.NamesFromOtherCrates.{◌≡◌, ℕ, Bool, true, false, List, ℤ, refl, ap, ◌∙◌, Option, in_box, place_of, IsViewStep}
use Rattle.nd_elements.specs.StoragePlaces.{stored_at, names_place, HoldsAll}
use Rattle.nd_elements.specs.ShapeAndElements.{inside}

module _ {offset : ℕ} {ns : List ℕ} {ss : List ℤ} {offset' : ℕ} {ns' : List ℕ} {ss' : List ℤ} {source : List ℕ → List ℕ} where
  pub seen_holds : {A : Type 0} (stored : ℕ → Option A) → IsViewStep offset ns ss offset' ns' ss' source → HoldsAll stored offset ns ss → HoldsAll stored offset' ns' ss'
  seen_holds stored seen holds i h = ap (names_place stored) (seen.same i h) ∙ holds (source i) (seen.within i h)

  -- the element at a new index is the one at the old index that it names
  pub seen_element : {A : Type 0} (stored : ℕ → Option A) → IsViewStep offset ns ss offset' ns' ss' source → (i : List ℕ) → inside ns' i (stored_at stored (place_of offset' ss' i)) ≡ inside ns' i (inside ns (source i) (stored_at stored (place_of offset ss (source i))))
  seen_element stored seen i = at (in_box ns' i) refl
    where
      at : (b : Bool) → in_box ns' i ≡ b → inside ns' i (stored_at stored (place_of offset' ss' i)) ≡ inside ns' i (inside ns (source i) (stored_at stored (place_of offset ss (source i))))
      at true h = rw (h, seen.within i h, seen.same i h) refl
      at false h = rw h refl
