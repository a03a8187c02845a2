-- Which arrays show their elements as one slice, and in which order.
use Rattle.std.specs.Prelude.{ℕ, ◌≡◌, ◌<◌, ◌+◌, ◌-◌, ◌⊎◌, List, length, Option, Some, slice_get, IsPermutation, IsTrue}
use Rattle.nd_shape_and_slice.specs.declared.dimension.Dimension as dimension
use Rattle.nd_shape_and_slice.specs.declared.dimension.AxisCount as axis_count
use Rattle.nd_shape_and_slice.specs.declared.dimension.StrideList as stride_list
use Rattle.nd_shape_and_slice.specs.ShapesAndIndexOrders.{in_box, size_of, row_rank}
use Rattle.nd_layout.specs.LayoutStepsOfCalls.{Placement, as_placement}
use Rattle.nd_layout.specs.RanksAndReshapeStrides.{IsStandard, IsRun}
use Rattle.nd_elements.specs.declared.storage.Data as data_trait
use Rattle.nd_array_core.specs.declared.base.array.ArrayBase.{ArrayBase}
use Rattle.nd_region.specs.declared.divided_mutable_borrow.Region.{Region}
use Rattle.nd_region.specs.Region.{IsRunOf}
use Rattle.nd_elements.specs.StorageByLayout.{shown_at}
use Rattle.nd_elements.specs.ShapeAndElements.{Meaning, row_major_elements}
use Rattle.nd_array_core.specs.ArrayMeaning.{meaning_of, shape_of, layout_strides, layout_offset, element_at, place_at, storage_of}
use Rattle.nd_layout.specs.StridesAfterLayoutCalls.{reach_down}
use Rattle.nd_elements.specs.BorrowedAndOwnedStorages.{stored_list}
use Rattle.nd_elements.specs.declared.storage.OwnedRepr.{OwnedRepr}

-- Says that the elements of a shape are `xs`, contiguous from the place `first` on: the element of each index is the
-- item of `xs` as far from the front as its place from `first`, each item is that of an index, and no two indexes share
-- a place.
pub record LiesAlong {A : Type 0} (shape : List ℕ) (first : ℕ) (place : List ℕ → Option ℕ) (at : List ℕ → Option A) (xs : List A) : Type 0 where
  pub count : length xs ≡ size_of shape
  pub within : (i : List ℕ) → IsTrue (in_box shape i) → (k : ℕ) × (k < size_of shape) × (place i ≡ Some (first + k)) × (at i ≡ slice_get xs k)
  pub each : (k : ℕ) → k < size_of shape → (i : List ℕ) × IsTrue (in_box shape i) × (place i ≡ Some (first + k)) × (at i ≡ slice_get xs k)
  pub own_places : (i j : List ℕ) → IsTrue (in_box shape i) → IsTrue (in_box shape j) → place i ≡ place j → i ≡ j

-- Says that every list of the elements of `m` in the order of contiguous places is a permutation of their row-major
-- list.
abbrev pub MemoryOrderReorders : Type 0 → Type 0
MemoryOrderReorders A = (m : Meaning A) (first : ℕ) (place : List ℕ → Option ℕ) (xs : List A) → LiesAlong m.shape first place m.at xs → IsPermutation (row_major_elements m) xs

-- Says that the places of any two indexes differ by as much as their row-major ranks do.
abbrev pub LiesByRank : List ℕ → (List ℕ → Option ℕ) → Type 0
LiesByRank shape place = (i j : List ℕ) (p q : ℕ) → IsTrue (in_box shape i) → IsTrue (in_box shape j) → place i ≡ Some p → place j ≡ Some q → p + row_rank shape j ≡ q + row_rank shape i

-- Says that `is_such` holds of every list of `count` items that a region holds from the place `first` on.
abbrev pub RunIs : {A : Type 0} → Region A → ℕ → ℕ → (List A → Type 0) → Type 0
RunIs {A} region first count is_such = (xs : List A) → IsRunOf region first count xs → is_such xs

-- Says that the placement `l` has no index, or that the places of its indexes are consecutive, each of one index.
abbrev pub IsRunUnder : Placement → Type 0
IsRunUnder l = (size_of l.lengths ≡ 0) ⊎ IsRun l.lengths l.strides

module _ {S D T A R : Type 0} {s : data_trait.Ghosts S A} {d : dimension.Ghosts D R} {n : axis_count.Ghosts D} {r : stride_list.Ghosts R} {t : stride_list.Ghosts T} where
  -- Says that `a` shows the items of `xs` by the lengths and strides of the placement `l`, from `offset` on instead of
  -- its own.
  abbrev pub ShowsListFrom : ℕ → Placement → List A → ArrayBase S D T A R s d n r t → Type 0
  ShowsListFrom offset l xs a = (i : List ℕ) → element_at a i ≡ shown_at (slice_get xs) (as_placement offset l.lengths l.strides) i

  -- Says that `xs` has the element of each index of `a` at the distance of its place from the lowest place.
  abbrev pub IsListedFromLowest : ArrayBase S D T A R s d n r t → List A → Type 0
  IsListedFromLowest a xs = (i : List ℕ) → shown_at (slice_get xs) (as_placement (reach_down (shape_of a) (layout_strides a)) (shape_of a) (layout_strides a)) i ≡ element_at a i

  -- Says that `a` is in standard layout: each index lies as far from the offset as its row-major rank.
  abbrev pub IsStandardArray : ArrayBase S D T A R s d n r t → Type 0
  IsStandardArray a = IsStandard (shape_of a) (layout_strides a)

  -- Says that `a` has no element, or that the places of its indexes are consecutive, each of one index.
  abbrev pub IsRunArray : ArrayBase S D T A R s d n r t → Type 0
  IsRunArray a = (size_of (shape_of a) ≡ 0) ⊎ IsRun (shape_of a) (layout_strides a)

  -- Returns the lowest place that an index of `a` has, where there are elements.
  abbrev pub lowest_place : ArrayBase S D T A R s d n r t → ℕ
  lowest_place a = layout_offset a - reach_down (shape_of a) (layout_strides a)

  -- Says that the elements of `a` lie at consecutive places, and that `xs` has them in the order of these.
  abbrev pub IsInMemoryOrder : ArrayBase S D T A R s d n r t → List A → Type 0
  IsInMemoryOrder a xs = LiesAlong (shape_of a) (lowest_place a) (place_at a) (element_at a) xs

  -- Says that `xs` has the elements of `a` in row-major order.
  abbrev pub IsInRowMajorOrder : ArrayBase S D T A R s d n r t → List A → Type 0
  IsInRowMajorOrder a xs = xs ≡ row_major_elements (meaning_of a)

  -- Says that `xs` is a permutation of the elements of `a`.
  abbrev pub IsReordering : ArrayBase S D T A R s d n r t → List A → Type 0
  IsReordering a xs = IsPermutation (row_major_elements (meaning_of a)) xs

module _
    {S D A T R : Type 0} {s : data_trait.Ghosts S A} {d : dimension.Ghosts D R} {n : axis_count.Ghosts D} {r : stride_list.Ghosts R} {t : stride_list.Ghosts T}
    {U : Type 0} {z : data_trait.Ghosts (OwnedRepr A) A} {u : stride_list.Ghosts U} where
  -- Says that `b` owns just the elements of `a` in the order of their places, which are consecutive, and has the
  -- strides of `a` and the offset that puts the lowest place at 0.
  abbrev pub CopiesRun : ArrayBase S D T A R s d n r t → ArrayBase (OwnedRepr A) D U A R z d n r u → Type 0
  CopiesRun a b = (layout_strides b ≡ layout_strides a) × (layout_offset b ≡ reach_down (shape_of a) (layout_strides a)) × IsInMemoryOrder a (stored_list (storage_of b))

module _
    {S D T A R : Type 0} {s : data_trait.Ghosts S A} {d : dimension.Ghosts D R} {n : axis_count.Ghosts D} {r : stride_list.Ghosts R} {t : stride_list.Ghosts T}
    {E U X : Type 0} {z : data_trait.Ghosts (OwnedRepr A) A} {e : dimension.Ghosts E X} {k : axis_count.Ghosts E} {x : stride_list.Ghosts X} {u : stride_list.Ghosts U} where
  -- Says that `b` owns just the elements of `a` in row-major order.
  abbrev pub StoresInRowMajorOrder : ArrayBase S D T A R s d n r t → ArrayBase (OwnedRepr A) E U A X z e k x u → Type 0
  StoresInRowMajorOrder a b = stored_list (storage_of b) ≡ row_major_elements (meaning_of a)
