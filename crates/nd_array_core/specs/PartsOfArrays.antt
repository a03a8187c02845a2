-- Parts of an array: what a layout call leaves of it, and when another array is such a part.
use Rattle.std.specs.Prelude.{◌≡◌, ℕ, List, [], ◌∷◌, reverse, swap, pos, ℤ, IsTrue}
use Rattle.std.specs.List.{remove, insert}
use Rattle.nd_shape_and_slice.specs.declared.dimension.Dimension as dimension
use Rattle.nd_shape_and_slice.specs.declared.dimension.AxisCount as axis_count
use Rattle.nd_shape_and_slice.specs.declared.dimension.StrideList as stride_list
use Rattle.nd_shape_and_slice.specs.declared.slice.Slice.{Slice}
use Rattle.nd_shape_and_slice.specs.ShapesAndIndexOrders.{in_box, size_of}
use Rattle.nd_shape_and_slice.specs.AxisPermutations.{permuted_list, unpermuted_list}
use Rattle.nd_shape_and_slice.specs.Broadcast.{broadcast_index}
use Rattle.nd_shape_and_slice.specs.LayoutIndexMaps.{inverted_index, collapsed_shape, collapsed_index, lower_shape, upper_shape, upper_index, indexed_shape, indexed_index, inserted_shape, inserted_index, diagonal_length, diagonal_index}
use Rattle.nd_shape_and_slice.specs.AxisDescriptions.{axes_from}
use Rattle.nd_shape_and_slice.specs.SliceEachAxis.{each_sliced_shape, each_sliced_index}
use Rattle.nd_shape_and_slice.specs.Slice.{sliced_shape, sliced_index}
use Rattle.nd_shape_and_slice.specs.SliceInfo.{shape_after, index_before}
use Rattle.nd_shape_and_slice.specs.SlicingInTwoPasses.{collapsed_after, collapsed_before}
use Rattle.nd_shape_and_slice.specs.Squeeze.{squeezed_shape, squeezed_index}
use Rattle.nd_shape_and_slice.specs.declared.axis_descriptions.AxisDescription.{AxisDescription}
use Rattle.nd_shape_and_slice.specs.declared.slice_info.SliceInfoElem.{SliceInfoElem}
use Rattle.nd_layout.specs.MergedAxes.{merged_shape, merged_strides, merged_index}
use Rattle.nd_layout.specs.StridesAfterLayoutCalls.{permuted_strides, inverted_strides, sliced_strides, diagonal_stride, broadcast_strides, strides_after, collapsed_strides, each_sliced_strides, squeezed_strides}
use Rattle.nd_elements.specs.declared.storage.Data as data_trait
use Rattle.nd_array_core.specs.declared.base.array.ArrayBase.{ArrayBase}
use Rattle.nd_array_core.specs.ArrayMeaning.{shape_of, element_at, storage_of, place_at, layout_strides, layout_offset}
use Rattle.nd_elements.specs.ShapeAndElements.{inside}

-- A part has a shape, the stride of each of its axes, and for each of its indexes the index of the array that it names.
pub record Part : Type 0 where
  pub part_shape : List ℕ
  pub part_strides : List ℤ
  pub index_named : List ℕ → List ℕ

-- Says that no index of the part names the index `i` of the array.
abbrev pub NamesNot : Part → List ℕ → Type 0
NamesNot part i = (j : List ℕ) → IsTrue (in_box part.part_shape j) → ¬ (part.index_named j ≡ i)

module _ {S D A T R : Type 0} {s : data_trait.Ghosts S A} {d : dimension.Ghosts D R} {n : axis_count.Ghosts D} {r : stride_list.Ghosts R} {t : stride_list.Ghosts T} where
  -- Returns the part that a slice of one axis names.
  abbrev pub axis_part : ArrayBase S D T A R s d n r t → ℕ → Slice → Part
  axis_part a axis slice = record { part_shape = sliced_shape (shape_of a) axis slice; part_strides = sliced_strides (shape_of a) (layout_strides a) axis slice; index_named = sliced_index (shape_of a) axis slice }

  -- Returns the part that a list of slices names.
  abbrev pub sliced_part : ArrayBase S D T A R s d n r t → List SliceInfoElem → Part
  sliced_part a list = record { part_shape = shape_after (shape_of a) list; part_strides = strides_after (shape_of a) (layout_strides a) list; index_named = index_before (shape_of a) list }

  -- Returns the part that a list of slices names where an indexed axis stays, with length 1.
  abbrev pub collapsed_by_part : ArrayBase S D T A R s d n r t → List SliceInfoElem → Part
  collapsed_by_part a list = record { part_shape = collapsed_after (shape_of a) list; part_strides = collapsed_strides (shape_of a) (layout_strides a) list; index_named = collapsed_before (shape_of a) list }

  -- Returns the part that one slice for each axis names.
  abbrev pub each_sliced_part : ArrayBase S D T A R s d n r t → List Slice → Part
  each_sliced_part a slices = record { part_shape = each_sliced_shape (shape_of a) slices; part_strides = each_sliced_strides (shape_of a) (layout_strides a) slices; index_named = each_sliced_index (shape_of a) slices }

  -- Returns the axes with their numbers, lengths and strides.
  abbrev pub axes_of : ArrayBase S D T A R s d n r t → List AxisDescription
  axes_of a = axes_from 0 (shape_of a) (layout_strides a)

  -- Returns the part that has the axes in another order: its axis `k` is the axis of `a` at position `k` of the list.
  abbrev pub permuted_part : ArrayBase S D T A R s d n r t → List ℕ → Part
  permuted_part a axes = record { part_shape = permuted_list axes (shape_of a); part_strides = permuted_strides axes (layout_strides a); index_named = unpermuted_list axes }

  -- Returns the part in which the coordinates of one axis count from its other end.
  abbrev pub inverted_part : ArrayBase S D T A R s d n r t → ℕ → Part
  inverted_part a axis = record { part_shape = shape_of a; part_strides = inverted_strides (layout_strides a) axis; index_named = inverted_index (shape_of a) axis }

  -- Returns the part at the coordinate `k` of an axis, which stays with length 1.
  abbrev pub collapsed_part : ArrayBase S D T A R s d n r t → ℕ → ℕ → Part
  collapsed_part a axis k = record { part_shape = collapsed_shape (shape_of a) axis; part_strides = layout_strides a; index_named = collapsed_index axis k }

  -- Returns the part that has the axes `x` and `y` exchanged.
  abbrev pub swapped_part : ArrayBase S D T A R s d n r t → ℕ → ℕ → Part
  swapped_part a x y = record { part_shape = swap (shape_of a) x y; part_strides = swap (layout_strides a) x y; index_named = λ i. swap i x y }

  -- Returns the part that has the axes in the opposite order.
  abbrev pub reversed_part : ArrayBase S D T A R s d n r t → Part
  reversed_part a = record { part_shape = reverse (shape_of a); part_strides = reverse (layout_strides a); index_named = reverse }

  -- Returns the part of one axis that names the indexes whose coordinates are all the same.
  abbrev pub diagonal_part : ArrayBase S D T A R s d n r t → Part
  diagonal_part a = record { part_shape = diagonal_length (shape_of a) ∷ []; part_strides = diagonal_stride (shape_of a) (layout_strides a) ∷ []; index_named = diagonal_index (shape_of a) }

  -- Returns the part at the coordinate `k` of an axis, without the axis.
  abbrev pub coordinate_part : ArrayBase S D T A R s d n r t → ℕ → ℕ → Part
  coordinate_part a axis k = record { part_shape = indexed_shape (shape_of a) axis; part_strides = remove (layout_strides a) axis; index_named = indexed_index axis k }

  -- Returns the part that has one more axis, of length 1.
  abbrev pub inserted_part : ArrayBase S D T A R s d n r t → ℕ → Part
  inserted_part a axis = record { part_shape = inserted_shape (shape_of a) axis; part_strides = insert (layout_strides a) axis (pos 1); index_named = inserted_index axis }

  -- Returns the part without the axes of length 1. Where all axes have length 1, the first one stays.
  abbrev pub squeezed_part : ArrayBase S D T A R s d n r t → Part
  squeezed_part a = record { part_shape = squeezed_shape (shape_of a); part_strides = squeezed_strides (shape_of a) (layout_strides a); index_named = squeezed_index (shape_of a) }

  -- Returns the part in which the axis `take` is merged into the axis `into`.
  abbrev pub merged_part : ArrayBase S D T A R s d n r t → ℕ → ℕ → Part
  merged_part a take into = record { part_shape = merged_shape (shape_of a) take into; part_strides = merged_strides (shape_of a) (layout_strides a) take into; index_named = merged_index (shape_of a) take into }

  -- Returns the part that has the coordinates of an axis below `k`.
  abbrev pub lower_part : ArrayBase S D T A R s d n r t → ℕ → ℕ → Part
  lower_part a axis k = record { part_shape = lower_shape (shape_of a) axis k; part_strides = layout_strides a; index_named = λ i. i }

  -- Returns the part that has the coordinates of an axis from `k` on.
  abbrev pub upper_part : ArrayBase S D T A R s d n r t → ℕ → ℕ → Part
  upper_part a axis k = record { part_shape = upper_shape (shape_of a) axis k; part_strides = layout_strides a; index_named = upper_index axis k }

  -- Returns the part of the shape `to`, in which the elements are repeated by a broadcast.
  abbrev pub broadcast_part : ArrayBase S D T A R s d n r t → List ℕ → Part
  broadcast_part a to = record { part_shape = to; part_strides = broadcast_strides (shape_of a) (layout_strides a) to; index_named = broadcast_index (shape_of a) to }

module _
    {S D A T R : Type 0} {s : data_trait.Ghosts S A} {d : dimension.Ghosts D R} {n : axis_count.Ghosts D} {r : stride_list.Ghosts R} {t : stride_list.Ghosts T}
    {Z E U X : Type 0} {z : data_trait.Ghosts Z A} {e : dimension.Ghosts E X} {k : axis_count.Ghosts E} {x : stride_list.Ghosts X} {u : stride_list.Ghosts U} where
  -- Says that `b` is the part of `a`: it has the part's shape and strides, and each index of `b` has the element and
  -- the place of the index of `a` that it names. Where `a` has no elements, so that no place tells where `b` lies, `b`
  -- has the offset of `a`.
  abbrev pub ShowsPart : ArrayBase S D T A R s d n r t → Part → ArrayBase Z E U A X z e k x u → Type 0
  ShowsPart a part b =
      (shape_of b ≡ part.part_shape)
      × (layout_strides b ≡ part.part_strides)
      × ((i : List ℕ) → element_at b i ≡ inside part.part_shape i (element_at a (part.index_named i)))
      × ((i : List ℕ) → place_at b i ≡ inside part.part_shape i (place_at a (part.index_named i)))
      × (size_of (shape_of a) ≡ 0 → layout_offset b ≡ layout_offset a)

  -- Says that `b` has the shape, the strides, the elements, the places and the offset of `a`.
  abbrev pub ShowsWhole : ArrayBase S D T A R s d n r t → ArrayBase Z E U A X z e k x u → Type 0
  ShowsWhole a b =
      (shape_of b ≡ shape_of a)
      × (layout_strides b ≡ layout_strides a)
      × ((i : List ℕ) → element_at b i ≡ element_at a i)
      × ((i : List ℕ) → place_at b i ≡ place_at a i)
      × (layout_offset b ≡ layout_offset a)

module _
    {S D A T R : Type 0} {s : data_trait.Ghosts S A} {d : dimension.Ghosts D R} {n : axis_count.Ghosts D} {r : stride_list.Ghosts R} {t : stride_list.Ghosts T}
    {E U X : Type 0} {e : dimension.Ghosts E X} {k : axis_count.Ghosts E} {x : stride_list.Ghosts X} {u : stride_list.Ghosts U} where
  -- Says that `b` is the part of `a`, and has the storage of `a`.
  abbrev pub BecomesPart : ArrayBase S D T A R s d n r t → Part → ArrayBase S E U A X s e k x u → Type 0
  BecomesPart a part b = ShowsPart a part b × (storage_of b ≡ storage_of a)

  -- Says that `b` has the shape, the strides, the elements, the places, the offset and the storage of `a`.
  abbrev pub BecomesWhole : ArrayBase S D T A R s d n r t → ArrayBase S E U A X s e k x u → Type 0
  BecomesWhole a b = ShowsWhole a b × (storage_of b ≡ storage_of a)
