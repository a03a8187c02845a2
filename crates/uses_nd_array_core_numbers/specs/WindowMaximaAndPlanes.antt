-- What callers compute of the numbers of a list, and of the elements of an array as a list.
use Rattle.std.specs.Prelude.{◌≡◌, ◌+◌, ◌-◌, ◌*◌, ◌%◌, ◌^◌, ◌<◌, ℕ, List, [], ◌∷◌, length, slice_index, Some}
use Rattle.nd_array_core.specs.ArrayMeaning.{Meaning}
use Rattle.nd_array_core.specs.Prelude.{max_below, value_or_0, row_major_elements}

-- Returns the greatest of `width` numbers of the list from the position `from` on; one that isn't there counts as 0.
abbrev pub greatest_from : ℕ → Meaning ℕ → ℕ → ℕ
greatest_from width list from = max_below 0 (λ k. value_or_0 (list.at ((from + k) ∷ []))) width

-- Says that `windows` has at each position the greatest number of the window of `width` numbers of `list` that begins
-- there.
abbrev pub HasWindowMaxima : ℕ → Meaning ℕ → Meaning ℕ → Type 0
HasWindowMaxima width list windows = (from : ℕ) → from < slice_index list.shape 0 + 1 - width → windows.at (from ∷ []) ≡ Some (greatest_from width list from)

-- Returns number `i` of the list times the number of the table at a row and a column, wrapped to 64 bits.
abbrev pub weighted : Meaning ℕ → Meaning ℕ → ℕ → ℕ → ℕ → ℕ
weighted list table i row column = value_or_0 (list.at (i ∷ [])) * value_or_0 (table.at (row ∷ column ∷ [])) % 2 ^ 64

-- Says that `planes` has for each number of the list a plane with all numbers of the table times this number.
abbrev pub HasWeightedPlanes : Meaning ℕ → Meaning ℕ → Meaning ℕ → Type 0
HasWeightedPlanes list table planes =
    (i row column : ℕ) → i < slice_index list.shape 0 → row < slice_index table.shape 0 → column < slice_index table.shape 1
    → planes.at (i ∷ row ∷ column ∷ []) ≡ Some (weighted list table i row column)

-- Says that both arrays have the same elements in row-major order.
abbrev pub ListsTheSame : {A : Type 0} → Meaning A → Meaning A → Type 0
ListsTheSame one other = row_major_elements other ≡ row_major_elements one

-- Returns the length of the last axis.
abbrev pub last_length : List ℕ → ℕ
last_length shape = slice_index shape (length shape - 1)
