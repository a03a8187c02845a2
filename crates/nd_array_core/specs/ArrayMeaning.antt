-- What an array means: a shape, and one element for each index of its box.
use Rattle.std.specs.Prelude.{ℕ, List, ℤ, Option}
use Rattle.nd_shape_and_slice.specs.declared.dimension.Dimension as dimension
use Rattle.nd_shape_and_slice.specs.declared.dimension.AxisCount as axis_count
use Rattle.nd_shape_and_slice.specs.declared.dimension.StrideList as stride_list
use Rattle.nd_shape_and_slice.specs.PlacesAndOverlaps.{place_of}
use Rattle.nd_elements.specs.declared.storage.Data as data_trait
use Rattle.nd_array_core.specs.declared.base.array.ArrayBase.{ArrayBase}
use Rattle.nd_elements.specs.StoragePlaces.{stored_at, place_number}
use Rattle.nd_array_core.specs.ArrayInStorage.{PlacedArray}
pub use Rattle.nd_elements.specs.ShapeAndElements.{Meaning, inside}

-- Returns what is seen of `m` under another shape, where each new index `i` names the old index `source i`.
abbrev pub meaning_through : {A : Type 0} → List ℕ → (List ℕ → List ℕ) → Meaning A → Meaning A
meaning_through shape source m = record { shape = shape; at = λ i. inside shape i (m.at (source i)) }

-- How an array lies in memory, which its shape and its elements don't tell: the storage that holds its elements, the
-- place there of each index's element (None outside the shape), the stride of each axis, and the offset, which is the
-- place of the index of zeros where there are elements.
pub record MemoryLayout (S : Type 0) : Type 0 where
  pub storage : S
  pub place : List ℕ → Option ℕ
  pub axis_strides : List ℤ
  pub origin : ℕ

module _ {S D T A R : Type 0} {s : data_trait.Ghosts S A} {d : dimension.Ghosts D R} {n : axis_count.Ghosts D} {r : stride_list.Ghosts R} {t : stride_list.Ghosts T} where
  -- Returns what is seen of an array: its shape, and the element at each index. This function and `memory_layout_of`
  -- are opaque above this crate, and all that callers read of an array is a field of one of them, because the proof
  -- search looks through a field, but not through the arguments of an opaque function.
  unfoldable pub meaning_of : ArrayBase S D T A R s d n r t → Meaning A
  meaning_of a = record {
    shape = d.lengths a.layout.dim;
    at = λ i. inside (d.lengths a.layout.dim) i (stored_at (s.stored a.storage) (place_of a.layout.offset (t.strides_of a.layout.strides) i));
  }

  -- Returns how an array lies in memory.
  unfoldable pub memory_layout_of : ArrayBase S D T A R s d n r t → MemoryLayout S
  memory_layout_of a = record {
    storage = a.storage;
    place = λ i. inside (d.lengths a.layout.dim) i (place_number (place_of a.layout.offset (t.strides_of a.layout.strides) i));
    axis_strides = t.strides_of a.layout.strides;
    origin = a.layout.offset;
  }

  -- Returns the length of each axis.
  abbrev pub shape_of : ArrayBase S D T A R s d n r t → List ℕ
  shape_of a = (meaning_of a).shape

  -- Returns the element at an index, or None outside the shape.
  abbrev pub element_at : ArrayBase S D T A R s d n r t → List ℕ → Option A
  element_at a i = (meaning_of a).at i

  -- Returns the stride of each axis.
  abbrev pub layout_strides : ArrayBase S D T A R s d n r t → List ℤ
  layout_strides a = (memory_layout_of a).axis_strides

  -- Returns the offset, which is the place of the index of zeros where there are elements.
  abbrev pub layout_offset : ArrayBase S D T A R s d n r t → ℕ
  layout_offset a = (memory_layout_of a).origin

  -- Returns the storage of an array, which holds its elements, each at a place.
  abbrev pub storage_of : ArrayBase S D T A R s d n r t → S
  storage_of a = (memory_layout_of a).storage

  -- Returns the place in the storage of an index's element, or None outside the shape.
  abbrev pub place_at : ArrayBase S D T A R s d n r t → List ℕ → Option ℕ
  place_at a i = (memory_layout_of a).place i

  -- Returns the shape, the places and what the storage holds, as one value.
  abbrev pub placed_array : ArrayBase S D T A R s d n r t → PlacedArray A
  placed_array a = record { placed_shape = shape_of a; place = place_at a; stored = s.stored (storage_of a) }
