-- Closures that fold the lanes of an axis, each lane from a first value on.
use Rattle.std.specs.Prelude.{◌≡◌, ℕ, suc, List, Option, Some, slice_index, IsTrue}
use Rattle.std.specs.Borrow.{Bor}
use Rattle.std.specs.Fn.{Mut, Called}
use Rattle.std.specs.List.{fold, insert, remove}
use Rattle.nd_shape_and_slice.specs.ShapesAndIndexOrders.{in_box}
use Rattle.nd_shape_and_slice.specs.LayoutIndexMaps.{indexed_shape}
use Rattle.nd_shape_and_slice.specs.declared.dimension.Dimension as dimension
use Rattle.nd_shape_and_slice.specs.declared.dimension.AxisCount as axis_count
use Rattle.nd_shape_and_slice.specs.declared.dimension.StrideList as stride_list
use Rattle.nd_elements.specs.declared.storage.Data as data_trait
use Rattle.nd_array_core.specs.declared.base.array.ArrayBase.{ArrayBase}
use Rattle.nd_elements.specs.ShapeAndElements.{inside}
use Rattle.nd_array_core.specs.ArrayMeaning.{shape_of, element_at}
use Rattle.nd_elements.specs.CollectedElements.{collected}
use Rattle.nd_elements.specs.along.FoldOfLanes.{FoldsBetween, MayFold}
use Rattle.nd_elements.specs.along.CallsRisingAlongLanes.{VisitedAlong, CallableAlong}

-- Returns the element at the coordinate `k` of the axis `a` in the lane at the index `i` of the other axes.
abbrev pub lane_at : {A : Type 0} → (List ℕ → Option A) → ℕ → List ℕ → ℕ → Option A
lane_at at a i k = at (insert i a k)

-- Returns the elements of the lane of the axis `a` at the index `i` of the other axes, by rising coordinate below `n`.
abbrev pub lane_elements : {A : Type 0} → (List ℕ → Option A) → ℕ → ℕ → List ℕ → List A
lane_elements at a n i = collected (lane_at at a i) n

-- What calls change is the closure. `totals j k` is the total of the lane at the index `j` of the other axes before its
-- coordinate `k`.
module _ {F B A : Type 0} (g : Mut F (Bor B × (Bor A × Unit {0})) B) where
  -- Says that the closure answers what the function `h` gives of the total and the element, and stays as it is.
  abbrev pub FoldsShownBy : (B → A → B) → F → Type 0
  FoldsShownBy h f = (b : Bor B) (x : Bor A) (r : B) (f' : F) → Called g f (b, (x, tt)) r f' → (f' ≡ f) × (r ≡ h b.now x.now)

  -- Says that a call for the index `i` led the closure from `p` to `q`: it was shown the total of the lane before the
  -- index and the element at the index, and answered the total after it.
  abbrev pub FoldsAt : (List ℕ → Option A) → ℕ → (List ℕ → ℕ → Option B) → F → List ℕ → F → Type 0
  FoldsAt at a totals p i q = FoldsBetween g (totals (remove i a) (slice_index i a)) (at i) (totals (remove i a) (suc (slice_index i a))) p q

  -- Each lane of the axis `a`, by the index of the other axes, is folded from the value `init` on, with one call for
  -- each index of the array.
  module _ (shape : List ℕ) (at : List ℕ → Option A) (a : ℕ) (init : B) where
    -- Says that the total of each lane before the coordinate 0 is the first value `init`.
    abbrev pub BeginsWith : (List ℕ → ℕ → Option B) → Type 0
    BeginsWith totals = (j : List ℕ) → IsTrue (in_box (indexed_shape shape a) j) → totals j 0 ≡ Some init

    -- Says that `result` gives for each lane the total after its last coordinate.
    abbrev pub EndsWith : (List ℕ → Option B) → (List ℕ → ℕ → Option B) → Type 0
    EndsWith result totals = (j : List ℕ) → IsTrue (in_box (indexed_shape shape a) j) → result j ≡ totals j (slice_index shape a)

    -- Says that one call for each index of the array, with each lane in rising order, folded the lanes to `result`.
    abbrev pub FoldsAxis : F → (List ℕ → Option B) → Type 0
    FoldsAxis f result = (totals : List ℕ → ℕ → Option B) × BeginsWith totals × EndsWith result totals × ((last : F) × VisitedAlong shape a (FoldsAt at a totals) f last)

    -- Says that, whichever elements were shown before, with each lane in rising order, the closure may be called for
    -- the next element.
    abbrev pub AxisFoldable : F → Type 0
    AxisFoldable f = CallableAlong shape a BeginsWith (FoldsAt at a) (λ totals p i. MayFold g (totals (remove i a) (slice_index i a)) (at i) p) f

-- Says that `result` gives at each index of the axes other than `a` the fold of the lane there by the function `h`,
-- from `init` on.
abbrev pub AreFoldedBy : {A B : Type 0} → (B → A → B) → List ℕ → (List ℕ → Option A) → ℕ → B → (List ℕ → Option B) → Type 0
AreFoldedBy h shape at a init result = (i : List ℕ) → result i ≡ inside (indexed_shape shape a) i (Some (fold h init (lane_elements at a (slice_index shape a) i)))

-- The lanes of the axis `a` of an array, folded by the closure `f` from the value `init` on.
module _ {S D T A R : Type 0} {s : data_trait.Ghosts S A} {d : dimension.Ghosts D R} {n : axis_count.Ghosts D} {r : stride_list.Ghosts R} {t : stride_list.Ghosts T} {F B : Type 0} (g : Mut F (Bor B × (Bor A × Unit {0})) B) (array : ArrayBase S D T A R s d n r t) (a : ℕ) (init : B) (f : F) where
  -- Says that one call for each index of the array, with each lane in rising order, folded the lanes to `result`.
  abbrev pub FoldsLanes : (List ℕ → Option B) → Type 0
  FoldsLanes result = FoldsAxis g (shape_of array) (element_at array) a init f result

  -- Says that, if the closure answers what a function `h` gives of the total and the element and stays as it is, then
  -- `result` gives the fold of each lane by `h`.
  abbrev pub FoldsLanesAlike : (List ℕ → Option B) → Type 0
  FoldsLanesAlike result = (h : B → A → B) → FoldsShownBy g h f → AreFoldedBy h (shape_of array) (element_at array) a init result
