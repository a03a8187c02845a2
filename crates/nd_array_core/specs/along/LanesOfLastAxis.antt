-- A lane of the last axis, by the row-major ranks of its elements.
use Rattle.std.specs.Prelude.{◌≡◌, ◌+◌, ◌<◌, ◌≤◌, ◌+ℤ◌, ◌*ℤ◌, ℕ, ℤ, pos, [], ◌∷◌, Option, slice_get, slice_index, ◌-◌, ◌*◌, List, length, slice_index_or}
use Rattle.nd_shape_and_slice.specs.declared.dimension.Dimension as dimension
use Rattle.nd_shape_and_slice.specs.declared.dimension.AxisCount as axis_count
use Rattle.nd_shape_and_slice.specs.declared.dimension.StrideList as stride_list
use Rattle.nd_shape_and_slice.specs.ShapesAndIndexOrders.{size_of}
use Rattle.nd_layout.specs.declared.walk.lane.Lane.{Lane}
use Rattle.nd_elements.specs.declared.storage.Data as data_trait
use Rattle.nd_elements.specs.ShapeAndElements.{Meaning, row_major_elements}
use Rattle.nd_array_core.specs.declared.base.array.ArrayBase.{ArrayBase}
use Rattle.nd_array_core.specs.ArrayMeaning.{layout_strides}
use Rattle.nd_array_core.specs.declared.along.lane_view.LaneView.{LaneView}
use Rattle.nd_array_core.specs.along.AxisMaps.{lane_seen}

module _ {A : Type 0} (v : LaneView A) where
  -- Returns the number of elements of the lane.
  abbrev pub lane_length : ℕ
  lane_length = slice_index (lane_seen v).shape 0

  -- Returns the element of the lane with the number `k`, or None where the lane isn't so long.
  abbrev pub lane_element : ℕ → Option A
  lane_element k = (lane_seen v).at (k ∷ [])

  -- Says that the elements of the lane are the elements of `m` in row-major order from the rank `from` on.
  abbrev pub ListsFrom : ℕ → Meaning A → Type 0
  ListsFrom from m = (k : ℕ) → k < lane_length → lane_element k ≡ slice_get (row_major_elements m) (from + k)

  -- Says that the elements of the lane `w` are those of the lane `v` from the number `from` on.
  abbrev pub GoesOnFrom : ℕ → LaneView A → Type 0
  GoesOnFrom from w = (k : ℕ) → k < slice_index (lane_seen w).shape 0 → (lane_seen w).at (k ∷ []) ≡ lane_element (from + k)

  -- Says that the lane is a whole lane of the last axis: it is as long as the last axis of `lengths`, or 1 without
  -- axes, and its first rank `from` is a multiple of its length.
  abbrev pub IsWholeLane : ℕ → List ℕ → Type 0
  IsWholeLane from lengths = (lane_length ≡ slice_index_or lengths (length lengths - 1) 1) × ((row : ℕ) × (from ≡ row * lane_length))

-- Says that the places of the lane `part` are those of `lane` from the number `from` on.
abbrev pub LiesFrom : Lane → ℕ → Lane → Type 0
LiesFrom lane from part = (k : ℕ) → k < part.count → pos part.place +ℤ (pos k *ℤ part.stride) ≡ pos lane.place +ℤ (pos (from + k) *ℤ lane.stride)

module _ {S D T A R : Type 0} {s : data_trait.Ghosts S A} {d : dimension.Ghosts D R} {n : axis_count.Ghosts D} {r : stride_list.Ghosts R} {t : stride_list.Ghosts T} where
  -- Returns the stride of the last axis, or 1 where there is no axis.
  abbrev pub last_stride : ArrayBase S D T A R s d n r t → ℤ
  last_stride a = slice_index_or (layout_strides a) (length (layout_strides a) - 1) (pos 1)

  -- Says that the last axis has the stride 1, or that there is no axis, so that the elements of each row are
  -- contiguous.
  abbrev pub RowsLieSideBySide : ArrayBase S D T A R s d n r t → Type 0
  RowsLieSideBySide a = last_stride a ≡ pos 1

-- Says that the list `xs` has the elements of `m` in row-major order from the rank `start` on, as many as the last axis
-- is long (one without axes), and that `rank` is the rank of one of them.
pub record IsRowOf {A : Type 0} (m : Meaning A) (rank : ℕ) (xs : List A) (start : ℕ) : Type 0 where
  pub from : start ≤ rank
  pub upto : rank < start + length xs
  pub within : start + length xs ≤ size_of m.shape
  pub elements : (k : ℕ) → k < length xs → slice_get xs k ≡ slice_get (row_major_elements m) (start + k)
  pub whole_row : length xs ≡ slice_index_or m.shape (length m.shape - 1) 1
