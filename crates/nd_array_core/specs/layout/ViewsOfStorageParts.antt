-- Parts of a storage, each seen under a layout of its own.
use Rattle.std.specs.Prelude.{◌≡◌, ◌<◌, ℕ, List, ℤ, Option}
use Rattle.nd_shape_and_slice.specs.ShapesAndIndexOrders.{size_of}
use Rattle.nd_shape_and_slice.specs.PlacesAndOverlaps.{place_of, IsSeparated}
use Rattle.nd_shape_and_slice.specs.SliceInfo.{shape_after}
use Rattle.nd_shape_and_slice.specs.declared.slice_info.SliceInfoElem.{SliceInfoElem}
use Rattle.nd_layout.specs.LayoutStepsOfCalls.{Placement, HasListStrides, IsListStep}
use Rattle.nd_region.specs.RegionPlaces.{names_not}
use Rattle.nd_elements.specs.ShapeAndElements.{inside}
use Rattle.nd_elements.specs.StoragePlaces.{HoldsAll, kept_at, stored_at, place_number}
use Rattle.nd_shape_and_slice.specs.declared.dimension.Dimension as dimension
use Rattle.nd_shape_and_slice.specs.declared.dimension.AxisCount as axis_count
use Rattle.nd_shape_and_slice.specs.declared.dimension.StrideList as stride_list
use Rattle.nd_elements.specs.declared.storage.Data as data_trait
use Rattle.nd_array_core.specs.declared.base.array.ArrayBase.{ArrayBase}
use Rattle.nd_array_core.specs.ArrayMeaning.{shape_of, element_at, place_at, layout_strides}

-- Says that the storage holds an element for each index of the layout, and that the strides give each index a place of
-- its own.
pub record HoldsEachOnce {A : Type 0} (stored : ℕ → Option A) (offset : ℕ) (lengths : List ℕ) (strides : List ℤ) : Type 0 where
  pub holds : HoldsAll stored offset lengths strides
  pub own_places : 0 < size_of lengths → IsSeparated lengths strides

-- Says that an array with the shape `shape`, the strides `shape_strides`, the elements `at` and the places `place`
-- shows what lies in the storage under the layout of `offset`, `lengths` and `strides`.
pub record IsViewUnder {A : Type 0} (stored : ℕ → Option A) (offset : ℕ) (lengths : List ℕ) (strides : List ℤ) (shape : List ℕ) (shape_strides : List ℤ) (at : List ℕ → Option A) (place : List ℕ → Option ℕ) : Type 0 where
  pub shape_is : shape ≡ lengths
  pub strides_are : shape_strides ≡ strides
  pub elements : (i : List ℕ) → at i ≡ inside lengths i (stored_at stored (place_of offset strides i))
  pub places : (i : List ℕ) → place i ≡ inside lengths i (place_number (place_of offset strides i))

-- Says that an array with the shape `shape`, the strides `shape_strides`, the elements `at` and the places `place`
-- shows what lies in the storage by the placement `l`.
abbrev pub IsViewBy : {A : Type 0} → (ℕ → Option A) → Placement → List ℕ → List ℤ → (List ℕ → Option A) → (List ℕ → Option ℕ) → Type 0
IsViewBy stored l shape shape_strides at place = IsViewUnder stored l.offset l.lengths l.strides shape shape_strides at place

-- Says that the placement `part` is what the list of slices `list` selects of the placement `whole`.
pub record IsListed (whole : Placement) (list : List SliceInfoElem) (part : Placement) : Type 0 where
  pub lengths_are : part.lengths ≡ shape_after whole.lengths list
  pub list_step : IsListStep whole part list
  pub strides_are : HasListStrides whole part list
  pub empty : size_of whole.lengths ≡ 0 → part.offset ≡ whole.offset

-- Says that `new` is the storage `old` without what lies at the places of `l`: it holds nothing there, and at every
-- other place what `old` holds.
abbrev pub LeavesOutside : {A : Type 0} → (ℕ → Option A) → (ℕ → Option A) → Placement → Type 0
LeavesOutside old new l = (place : ℕ) → new place ≡ kept_at (names_not l.offset l.lengths l.strides) old place

module _ {S D T A R : Type 0} {s : data_trait.Ghosts S A} {d : dimension.Ghosts D R} {n : axis_count.Ghosts D} {r : stride_list.Ghosts R} {t : stride_list.Ghosts T} where
  -- Says that the array `a` shows what lies by the placement `l` in the storage.
  abbrev pub ViewsBy : (ℕ → Option A) → Placement → ArrayBase S D T A R s d n r t → Type 0
  ViewsBy stored l a = IsViewBy stored l (shape_of a) (layout_strides a) (element_at a) (place_at a)
