-- Elements as a list, in the order of their numbers, which are ranks of a layout or numbers along a lane.
use Rattle.std.specs.Prelude.{ℕ, zero, suc, ◌≡◌, List, [], ◌++◌, ℤ, pos, ◌+ℤ◌, ◌*ℤ◌, Option}
use Rattle.std.specs.List.{cons_option}
use Rattle.nd_layout.specs.RowMajorWalk.{place_at_rank}
use Rattle.nd_elements.specs.StoragePlaces.{stored_at}

-- Returns the list of what `at` has at the numbers below a bound, in rising order. A number without an element is
-- skipped.
abbrev pub collected : {A : Type 0} → (ℕ → Option A) → ℕ → List A
collected at zero = []
collected at (suc n) = collected at n ++ cons_option (at n) []

-- Returns what `stored` has at the place that lies `n` strides after `place`.
abbrev pub stored_along : {A : Type 0} → (ℕ → Option A) → ℕ → ℤ → ℕ → Option A
stored_along stored place stride n = stored_at stored (pos place +ℤ (pos n *ℤ stride))

-- Returns what `stored` has at the place of the index with the row-major rank `rank`, in a layout with the offset
-- `first`.
abbrev pub stored_by_rank : {A : Type 0} → (ℕ → Option A) → ℕ → List ℕ → List ℤ → ℕ → Option A
stored_by_rank stored first lengths strides rank = stored_at stored (place_at_rank first lengths strides rank)

-- Says that the list `xs` begins with the list `front`.
abbrev pub IsFront : {A : Type 0} → List A → List A → Type 0
IsFront {A} front xs = (rest : List A) × (xs ≡ front ++ rest)
