-- How an array lies in its storage: what a task that is handed a view learns of the view.
use Rattle.std.specs.Prelude.{ℕ, List, Option, None, Some}

-- A placed array has a shape, the place of each index of its box, and what its storage holds at each place.
pub record PlacedArray (A : Type 0) : Type 0 where
  pub placed_shape : List ℕ
  pub place : List ℕ → Option ℕ
  pub stored : ℕ → Option A

-- Returns what is stored at a place, or None where no place is given.
abbrev pub found_at : {A : Type 0} → (ℕ → Option A) → Option ℕ → Option A
found_at stored None = None
found_at stored (Some p) = stored p

-- Returns the element at an index.
abbrev pub element_placed : {A : Type 0} → PlacedArray A → List ℕ → Option A
element_placed v i = found_at v.stored (v.place i)

-- Returns what the storage of `w` holds at the place that the index `i` has in `v`.
abbrev pub left_at : {A : Type 0} → PlacedArray A → PlacedArray A → List ℕ → Option A
left_at v w i = found_at w.stored (v.place i)
