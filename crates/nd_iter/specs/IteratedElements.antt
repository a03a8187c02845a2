-- What the iterators over an array show of it, one after another.
use Rattle.std.specs.Prelude.{◌≡◌, ◌+◌, ◌-◌, ◌<◌, ◌≤◌, ◌++◌, ℕ, List, drop, length, map, take, slice_index, Option, Some}
use Rattle.std.specs.List.{range_with_len}
use Rattle.std.specs.Option.{option_map}
use Rattle.nd_shape_and_slice.specs.LayoutIndexMaps.{indexed_shape, indexed_index}
use Rattle.nd_shape_and_slice.specs.ShapesAndIndexOrders.{size_of}
use Rattle.nd_array_core.specs.ArrayMeaning.{Meaning, meaning_through}
use Rattle.nd_array_core.specs.ConcatenationAndSplit.{row_major_elements}

-- Says that both bounds of a size hint are `count`.
abbrev pub IsExactly : ℕ × Option ℕ → ℕ → Type 0
IsExactly hint count = (hint.0 ≡ count) × (hint.1 ≡ Some count)

-- Returns the shape of an array and its elements in row-major order.
abbrev pub listing : {A : Type 0} → Meaning A → List ℕ × List A
listing m = (m.shape, row_major_elements m)

module _ {A : Type 0} (m : Meaning A) (axis : ℕ) where
  -- Returns what lies at the coordinate `k` of `axis`, without this axis.
  abbrev pub at_coordinate : ℕ → Meaning A
  at_coordinate k = meaning_through (indexed_shape m.shape axis) (indexed_index axis k) m

  -- Returns the shape and the elements at each coordinate of `axis` from `from` up to, but not including, `to`.
  abbrev pub at_coordinates : ℕ → ℕ → List (List ℕ × List A)
  at_coordinates from to = map (λ k. listing (at_coordinate k)) (range_with_len from (to - from))

  -- Returns the shape and the elements at each coordinate of `axis`.
  abbrev pub along_axis : List (List ℕ × List A)
  along_axis = at_coordinates 0 (slice_index m.shape axis)

-- Says that `axis` is an axis of `ns`, and that the coordinates from `from` up to `to` lie on it.
pub record CanGoAlong (ns : List ℕ) (axis from to : ℕ) : Type 0 where
  pub is_axis : axis < length ns
  pub ahead : from ≤ to
  pub ends_within : to ≤ slice_index ns axis

-- Returns the elements with the row-major ranks from `from` up to, but not including, `to`.
abbrev pub elements_left : {A : Type 0} → Meaning A → ℕ → ℕ → List A
elements_left m from to = drop from (take to (row_major_elements m))

-- Says that `xs` are the first of the elements with the row-major ranks from `from` up to `to`.
abbrev pub IsTakenAhead : {A : Type 0} → Meaning A → ℕ → ℕ → List A → Type 0
IsTakenAhead m from to xs = elements_left m from to ≡ xs ++ elements_left m (from + length xs) to

-- Says that `xs` are the last of the elements with the row-major ranks from `from` up to `to`.
abbrev pub IsTakenAfter : {A : Type 0} → Meaning A → ℕ → ℕ → List A → Type 0
IsTakenAfter m from to xs = elements_left m from to ≡ elements_left m from (to - length xs) ++ xs

-- Says that the ranks from `from` up to `to` are those of indexes of the shape `ns`.
pub record AreRanks (ns : List ℕ) (from to : ℕ) : Type 0 where
  pub ahead : from ≤ to
  pub ends_within : to ≤ size_of ns

-- Returns the array that has at each index the index together with the element.
abbrev pub with_indexes : {A : Type 0} → Meaning A → Meaning (List ℕ × A)
with_indexes m = record { shape = m.shape; at = λ i. option_map (λ x. (i, x)) (m.at i) }
