-- What a write leaves of an array's elements: one is replaced, or two are exchanged, and every other is as it was.
use Rattle.std.specs.Prelude.{◌≡◌, ℕ, List}
use Rattle.nd_shape_and_slice.specs.declared.dimension.Dimension as dimension
use Rattle.nd_shape_and_slice.specs.declared.dimension.AxisCount as axis_count
use Rattle.nd_shape_and_slice.specs.declared.dimension.StrideList as stride_list
use Rattle.nd_elements.specs.declared.storage.Data as data_trait
use Rattle.nd_array_core.specs.declared.base.array.ArrayBase.{ArrayBase}
use Rattle.nd_array_core.specs.ArrayMeaning.{shape_of, element_at, storage_of, place_at, layout_strides, layout_offset}
pub use Rattle.nd_elements.specs.WritesByIndex.{IsOldOrNew, OthersStay, is_index, with_element_at, with_swapped_at}

module _ {S D T A R : Type 0} {s : data_trait.Ghosts S A} {d : dimension.Ghosts D R} {n : axis_count.Ghosts D} {r : stride_list.Ghosts R} {t : stride_list.Ghosts T} where
  -- Says that `new` is `old` but for the elements at its indexes: it has the same shape, strides, offset and places,
  -- the same contents at every place that no index names, and the same of what the storage keeps while elements change,
  -- as `frame` gives it.
  abbrev pub KeepsFrame : {F : Type 0} → (S → F) → ArrayBase S D T A R s d n r t → ArrayBase S D T A R s d n r t → Type 0
  KeepsFrame frame old new =
      (shape_of new ≡ shape_of old)
      × (layout_strides new ≡ layout_strides old)
      × ((i : List ℕ) → place_at new i ≡ place_at old i)
      × OthersStay (place_at old) (s.stored (storage_of old)) (s.stored (storage_of new))
      × (frame (storage_of new) ≡ frame (storage_of old))
      × (layout_offset new ≡ layout_offset old)

  -- Says that `new` is `old` with `x` at `index`: every other element, and all else, is as it was.
  abbrev pub IsWrittenAt : {F : Type 0} → (S → F) → ArrayBase S D T A R s d n r t → List ℕ → A → ArrayBase S D T A R s d n r t → Type 0
  IsWrittenAt frame old index x new = ((i : List ℕ) → element_at new i ≡ with_element_at (element_at old) index x i) × KeepsFrame frame old new

  -- Says that, for every element `x`, the array `written x` is `old` with `x` at `index`.
  abbrev pub IsAnyWrittenAt : {F : Type 0} → (S → F) → ArrayBase S D T A R s d n r t → List ℕ → (A → ArrayBase S D T A R s d n r t) → Type 0
  IsAnyWrittenAt frame old index written = (x : A) → IsWrittenAt frame old index x (written x)

  -- Says that `new` is `old` with the elements at the indexes `a` and `b` exchanged.
  abbrev pub IsSwappedAt : {F : Type 0} → (S → F) → ArrayBase S D T A R s d n r t → List ℕ → List ℕ → ArrayBase S D T A R s d n r t → Type 0
  IsSwappedAt frame old a b new = ((i : List ℕ) → element_at new i ≡ with_swapped_at (element_at old) a b i) × KeepsFrame frame old new
