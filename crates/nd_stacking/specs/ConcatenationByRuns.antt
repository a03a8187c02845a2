-- Arrays joined along an axis as runs of their row-major elements: what each gives to a row of the result.
use Rattle.std.specs.Prelude.{◌≡◌, ℕ, ◌+◌, ◌*◌, ◌≤◌, List, [], ◌++◌, zero, suc, drop, take, length, Some, slice_get, slice_index}
use Rattle.std.specs.List.{flat_map}
use Rattle.nd_shape_and_slice.specs.ShapesAndIndexOrders.{size_of}
use Rattle.nd_array_core.specs.ConcatenationAndSplit.{row_major_elements}
use Rattle.nd_array_core.specs.ArrayMeaning.{Meaning}
use Rattle.nd_array_core.specs.reshape.ReshapeLaws.{ListsByRank}

-- Returns the product of the lengths of the axes before `axis`.
abbrev pub size_before : ℕ → List ℕ → ℕ
size_before axis shape = size_of (take axis shape)

-- Returns the product of the lengths of the axes after `axis`.
abbrev pub size_after : ℕ → List ℕ → ℕ
size_after axis shape = size_of (drop (suc axis) shape)

-- Says that `P` holds of each item of a list.
abbrev pub EachIs : {X : Type 0} → (X → Type 0) → List X → Type 0
EachIs {X} P xs = (nth : ℕ) (x : X) → slice_get xs nth ≡ Some x → P x

module _ {A : Type 0} where
  -- Returns `len` items of the list `xs`, from the item `row * len` on.
  abbrev pub run_in : ℕ → ℕ → List A → List A
  run_in row len xs = take len (drop (row * len) xs)

  -- Returns how many elements `m` gives to each row: its length along `axis` times `after`, the product of the lengths
  -- of the axes after it.
  abbrev pub run_length : ℕ → ℕ → Meaning A → ℕ
  run_length axis after m = slice_index m.shape axis * after

  -- Returns the elements that `m` gives to the row numbered `row`.
  abbrev pub given_to_row : ℕ → ℕ → ℕ → Meaning A → List A
  given_to_row axis after row m = run_in row (run_length axis after m) (row_major_elements m)

  -- Returns the row numbered `row`: what each array gives to it, one after the other.
  abbrev pub joined_row : ℕ → ℕ → ℕ → List (Meaning A) → List A
  joined_row axis after row ms = flat_map (given_to_row axis after row) ms

  -- Returns the rows with numbers below a bound, one after the other.
  abbrev pub rows_below : (ℕ → List A) → ℕ → List A
  rows_below row zero = []
  rows_below row (suc n) = rows_below row n ++ row n

  -- Returns `rows` rows of the result, one after the other.
  abbrev pub woven : ℕ → ℕ → ℕ → List (Meaning A) → List A
  woven axis after rows ms = rows_below (λ row. joined_row axis after row ms) rows

  -- Says that `m` has all the elements that it gives to the row numbered `row` and to those before it.
  abbrev pub HasWholeRun : ℕ → ℕ → ℕ → Meaning A → Type 0
  HasWholeRun axis after row m = row * run_length axis after m + run_length axis after m ≤ size_of m.shape

  -- Says that the row-major list of the elements of `m` has as many items as its shape has indexes, with the element of
  -- each index at its rank.
  abbrev pub IsByRank : Meaning A → Type 0
  IsByRank m = (length (row_major_elements m) ≡ size_of m.shape) × ListsByRank m

  -- Says that each item of `xs` is an element of `m`.
  abbrev pub AreElementsOf : Meaning A → List A → Type 0
  AreElementsOf m xs = (place : ℕ) (x : A) → slice_get xs place ≡ Some x → (i : List ℕ) × (m.at i ≡ Some x)
