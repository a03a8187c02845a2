-- What a write leaves of elements by index: another one at an index, two exchanged, and every other as it was.
use Rattle.std.specs.Prelude.{◌≡◌, ◌⊎◌, ℕ, nat_eq, Bool, true, false, ◌&&◌, List, [], ◌∷◌, Option, Some, if◌then◌else◌}
use Rattle.nd_elements.specs.ShapeAndElements.{inside}

-- Says that two indexes have the same coordinates.
abbrev pub is_index : List ℕ → List ℕ → Bool
is_index [] [] = true
is_index [] (j ∷ js) = false
is_index (i ∷ is) [] = false
is_index (i ∷ is) (j ∷ js) = nat_eq i j && is_index is js

-- Returns the element at the index `i` once that at `index` is `x`.
abbrev pub with_element_at : {A : Type 0} → (List ℕ → Option A) → List ℕ → A → List ℕ → Option A
with_element_at at index x i = if is_index i index then Some x else at i

-- Returns the element at the index `i` once those at `a` and `b` are exchanged.
abbrev pub with_swapped_at : {A : Type 0} → (List ℕ → Option A) → List ℕ → List ℕ → List ℕ → Option A
with_swapped_at at a b i = if is_index i b then at a else (if is_index i a then at b else at i)

-- Every place that no index names has in `new` what it has in `old`, where `place` tells the place of an index.
abbrev pub OthersStay : {A : Type 0} → (List ℕ → Option ℕ) → (ℕ → Option A) → (ℕ → Option A) → Type 0
OthersStay place old new = (p : ℕ) → ((i : List ℕ) → ¬ (place i ≡ Some p)) → new p ≡ old p

-- Each index of the shape has in `new` its element in `old` or `x`, and every other index what it has in `old` or
-- nothing.
abbrev pub IsOldOrNew : {A : Type 0} → List ℕ → (List ℕ → Option A) → A → (List ℕ → Option A) → Type 0
IsOldOrNew shape old x new = (i : List ℕ) → (new i ≡ old i) ⊎ (new i ≡ inside shape i (Some x))
