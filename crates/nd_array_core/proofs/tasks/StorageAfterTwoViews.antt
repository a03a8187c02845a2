-- A task on two views of parts of a storage, whose places are among those of a whole: what the storage holds afterwards.
use Rattle.nd_array_core.proofs.NamesFromOtherCrates.{◌≡◌, ℕ, Bool, true, false, List, ℤ, refl, ap, sym, ◌∙◌, Option, None, if◌then◌else◌, names, with_named}
use Rattle.nd_array_core.specs.scoped.ViewTasks.{IsNamedMap, AgreesOnNamed}

-- ---- layouts whose places are among those of a whole
module _ {A : Type 0} (m : ℕ → Option A) (offset : ℕ) (ns : List ℕ) (ss : List ℤ) (offset' : ℕ) (ns' : List ℕ) (ss' : List ℤ) (within : (p : ℕ) → names offset' ns' ss' p ≡ true → names offset ns ss p ≡ true) where
  pub within_agrees : (k : ℕ → Option A) → IsNamedMap m offset ns ss k → AgreesOnNamed m offset' ns' ss' k
  within_agrees k named p e = named p ∙ ap (λ (b : Bool). if b then m p else None) (within p e)

  pub within_left : (new w k : ℕ → Option A) → ((p : ℕ) → new p ≡ with_named m offset ns ss w p) → AgreesOnNamed w offset' ns' ss' k → AgreesOnNamed new offset' ns' ss' k
  within_left new w k is agrees p e = agrees p e ∙ sym (is p ∙ ap (λ (b : Bool). if b then w p else m p) (within p e))

pub unnamed_left : {A : Type 0} (m new w : ℕ → Option A) (offset : ℕ) (ns : List ℕ) (ss : List ℤ) → ((p : ℕ) → new p ≡ with_named m offset ns ss w p) → (p : ℕ) → names offset ns ss p ≡ false → new p ≡ m p
unnamed_left m new w offset ns ss is p e = is p ∙ ap (λ (b : Bool). if b then w p else m p) e

-- a place that the part keeps stays, and so does one outside the part
pub named_left : {A : Type 0} (m new k w : ℕ → Option A) (offset : ℕ) (ns : List ℕ) (ss : List ℤ) → IsNamedMap m offset ns ss k → ((p : ℕ) → new p ≡ with_named m offset ns ss w p) → (p : ℕ) → w p ≡ k p → new p ≡ m p
named_left m new k w offset ns ss named is p same = is p ∙ by_test (names offset ns ss p) refl
  where
    by_test : (b : Bool) → names offset ns ss p ≡ b → (if b then w p else m p) ≡ m p
    by_test true e = same ∙ named p ∙ ap (λ (b : Bool). if b then m p else None) e
    by_test false e = refl
