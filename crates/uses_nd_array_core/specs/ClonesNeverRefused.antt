-- Elements whose clones are never refused.
use Rattle.std.specs.Prelude.{ℕ, ◌≡◌, List, Option, Some, slice_get}
use Rattle.nd_array_core.specs.ArrayMeaning.{Meaning}

-- Says that no clone of an element is refused.
abbrev pub AreAlwaysCloned : {A : Type 0} → (A → Type 0) → (List ℕ → Option A) → Type 0
AreAlwaysCloned {A} is_infallible at = (i : List ℕ) (x : A) → at i ≡ Some x → is_infallible x

-- Says that no clone of an element of any array in the list is refused.
abbrev pub AreAllCloned : {A : Type 0} → (A → Type 0) → List (Meaning A) → Type 0
AreAllCloned {A} is_infallible ms = (nth : ℕ) (m : Meaning A) → slice_get ms nth ≡ Some m → AreAlwaysCloned is_infallible m.at
