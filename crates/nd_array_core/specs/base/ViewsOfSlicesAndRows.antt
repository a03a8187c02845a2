-- What a view of a slice or of rows is.
use Rattle.std.specs.Prelude.{◌≡◌, ◌<◌, ℕ, pos, List, length, replicate, slice_get, Option, IsSome}
use Rattle.nd_shape_and_slice.specs.declared.dimension.Dimension as dimension
use Rattle.nd_shape_and_slice.specs.declared.dimension.AxisCount as axis_count
use Rattle.nd_shape_and_slice.specs.declared.dimension.StrideList as stride_list
use Rattle.nd_shape_and_slice.specs.ShapesAndIndexOrders.{row_rank, HasCheckedSize}
use Rattle.nd_shape_and_slice.specs.DefaultAndFortranStrides.{c_strides}
use Rattle.nd_elements.specs.declared.storage.Data as data_trait
use Rattle.nd_array_core.specs.declared.base.array.ArrayBase.{ArrayBase}
use Rattle.nd_array_core.specs.ArrayMeaning.{shape_of, element_at, layout_strides, layout_offset}
use Rattle.nd_elements.specs.ShapeAndElements.{inside}
use Rattle.nd_shape_and_slice.specs.PlacesAndOverlaps.{place_of}
use Rattle.nd_layout.specs.LayoutStepsOfCalls.{Placement, as_placement}
use Rattle.nd_layout.specs.RanksAndReshapeStrides.{rank_in}
use Rattle.nd_layout.specs.GivenStrides.{given_place}
use Rattle.nd_elements.specs.StoragePlaces.{stored_at}
use Rattle.nd_elements.specs.ElementsByRank.{BuiltShape}
use Rattle.nd_array_core.specs.scoped.SlicesLentAsViews.{GivenShape}

-- Says that something is stored at each place below `count`.
abbrev pub HoldsBelow : {A : Type 0} → ℕ → (ℕ → Option A) → Type 0
HoldsBelow count stored = (place : ℕ) → place < count → IsSome (stored place)

module _ {S D T A R : Type 0} {s : data_trait.Ghosts S A} {d : dimension.Ghosts D R} {n : axis_count.Ghosts D} {r : stride_list.Ghosts R} {t : stride_list.Ghosts T} where
  -- Says that the array has `axes` axes, and all its lengths and strides are 0.
  abbrev pub IsAllZero : ℕ → ArrayBase S D T A R s d n r t → Type 0
  IsAllZero axes a = (shape_of a ≡ replicate axes 0) × (layout_strides a ≡ replicate axes (pos 0))

  -- Says that the view shows the elements `xs` under the lengths `ns` in row-major order. Where the lengths have no
  -- checked size, all lengths and strides of the view are 0.
  abbrev pub IsRowMajorOf : List ℕ → List A → ArrayBase S D T A R s d n r t → Type 0
  IsRowMajorOf ns xs view =
      (HasCheckedSize ns → (shape_of view ≡ ns) × (layout_strides view ≡ c_strides ns) × ((i : List ℕ) → element_at view i ≡ inside ns i (slice_get xs (row_rank ns i))))
      × (¬ (HasCheckedSize ns) → IsAllZero (length ns) view)

  -- Says that the array shows at each index what the map `stored` has at the index's rank in an order.
  abbrev pub ShowsRanked : BuiltShape → (ℕ → Option A) → ArrayBase S D T A R s d n r t → Type 0
  ShowsRanked built stored a = (i : List ℕ) → element_at a i ≡ inside built.0 i (stored (rank_in built.1 built.0 i))

  -- Says that the array shows at each index what the map `stored` has at the place that the caller's shape gives the
  -- index.
  abbrev pub ShowsGiven : GivenShape → (ℕ → Option A) → ArrayBase S D T A R s d n r t → Type 0
  ShowsGiven given stored a = (i : List ℕ) → element_at a i ≡ inside given.0 i (stored_at stored (given_place given.0 given.1 given.2 i))

  -- Says that the array shows at each index what the map `stored` has at the place that the array's own layout gives
  -- the index.
  abbrev pub ShowsPlaces : (ℕ → Option A) → ArrayBase S D T A R s d n r t → Type 0
  ShowsPlaces stored a = (i : List ℕ) → element_at a i ≡ inside (shape_of a) i (stored_at stored (place_of (layout_offset a) (layout_strides a) i))

  -- Says that, if the lengths `ns` have a checked size, then the array has these lengths and the strides of row-major
  -- order, and shows at each index what the map `stored` has at the index's row-major rank.
  abbrev pub IsRowMajorIn : List ℕ → (ℕ → Option A) → ArrayBase S D T A R s d n r t → Type 0
  IsRowMajorIn ns stored a = HasCheckedSize ns → (shape_of a ≡ ns) × (layout_strides a ≡ c_strides ns) × ((i : List ℕ) → element_at a i ≡ inside ns i (stored (row_rank ns i)))

  -- Says that the array has the offset, the lengths and the strides of the placement `l`.
  abbrev pub HasPlacement : Placement → ArrayBase S D T A R s d n r t → Type 0
  HasPlacement l a = as_placement (layout_offset a) (shape_of a) (layout_strides a) ≡ l
