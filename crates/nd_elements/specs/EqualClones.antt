-- Clones that equal what they are made of.
use Rattle.std.specs.Prelude.{◌≡◌, ℕ, List, Option, Some, slice_get}

-- Every clone of `x` equals `x`, where `is_clone x copy` says that `copy` is a clone of `x`.
abbrev pub ClonesAreEqual : {A : Type 0} → (A → A → Type 0) → A → Type 0
ClonesAreEqual {A} is_clone x = (copy : A) → is_clone x copy → copy ≡ x

-- Every clone of every value equals that value.
abbrev pub EachCloneIsEqual : {A : Type 0} → (A → A → Type 0) → Type 0
EachCloneIsEqual {A} is_clone = (x : A) → ClonesAreEqual is_clone x

-- Every clone of an element that `at` has at some index equals that element.
abbrev pub ClonesOfAllAreEqual : {A : Type 0} → (A → A → Type 0) → (List ℕ → Option A) → Type 0
ClonesOfAllAreEqual {A} is_clone at = (i : List ℕ) (x : A) → at i ≡ Some x → ClonesAreEqual is_clone x

-- Every clone of an item of the list equals that item.
abbrev pub StoredClonesAreEqual : {A : Type 0} → (A → A → Type 0) → List A → Type 0
StoredClonesAreEqual {A} is_clone items = (place : ℕ) (x : A) → slice_get items place ≡ Some x → ClonesAreEqual is_clone x
