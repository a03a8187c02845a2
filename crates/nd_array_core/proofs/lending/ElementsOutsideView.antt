-- What an array shows at the indexes that a view of a part of it doesn't name, where the places of the others are as they were.
use Rattle.nd_array_core.proofs.NamesFromOtherCrates.{◌≡◌, ℕ, ◌<◌, Bool, true, false, List, length, ℤ, pos, negsuc, refl, ap, sym, ◌∙◌, Option, in_box, size_of, place_of, IsSeparated, IsStep, stored_at, inside, OthersStay, one_index}
use Rattle.nd_array_core.specs.layout.ViewsOfStorageParts.{IsViewUnder}
use Rattle.nd_array_core.specs.scoped.ViewTasks.{OthersKeep}
use Rattle.nd_array_core.proofs.layout_lemmas.TakenAndLeftStorage.{has_place}

module _ {A : Type 0} (m : ℕ → Option A) (offset : ℕ) (ns : List ℕ) (ss : List ℤ) {offset' : ℕ} {ns' : List ℕ} {ss' : List ℤ} {source : List ℕ → List ℕ} {shape : List ℕ} {strides : List ℤ} {at : List ℕ → Option A} {place : List ℕ → Option ℕ}
    (as_many : length ss ≡ length ns) (separated : 0 < size_of ns → IsSeparated ns ss) (step : IsStep offset ns ss offset' ns' ss' source) (seen : IsViewUnder m offset' ns' ss' shape strides at place) where
  module _ (new : ℕ → Option A) (others : OthersStay place m new) where
    same_there : (z : ℤ) (i : List ℕ) → in_box ns i ≡ true → place_of offset ss i ≡ z → ((j : List ℕ) → in_box ns' j ≡ true → source j ≡ i → ⊥) → stored_at new z ≡ stored_at m z
    same_there (pos p) i h e none = others p (λ j at_p.
        let there = has_place ns' j (place_of offset' ss' j) p (sym (seen.places j) ∙ at_p) in
        none j there.0 (one_index ns ss offset (source j) i as_many separated (step.within j there.0) h (sym (step.same j there.0) ∙ there.1 ∙ sym e)))
    same_there (negsuc n) i h e none = refl

    same_shown : (i : List ℕ) (b : Bool) → in_box ns i ≡ b → ((j : List ℕ) → in_box ns' j ≡ true → source j ≡ i → ⊥) → inside ns i (stored_at new (place_of offset ss i)) ≡ inside ns i (stored_at m (place_of offset ss i))
    same_shown i true h none = rw h (same_there (place_of offset ss i) i h refl none)
    same_shown i false h none = rw h refl

    pub others_keep : (box : List ℕ) → ns' ≡ box → OthersKeep box source (λ i. inside ns i (stored_at m (place_of offset ss i))) (λ i. inside ns i (stored_at new (place_of offset ss i)))
    others_keep box shaped i none = same_shown i (in_box ns i) refl (λ j h. none j (ap (λ l. in_box l j) (sym shaped) ∙ h))
