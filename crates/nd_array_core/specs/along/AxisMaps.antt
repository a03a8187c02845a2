-- Closures that are shown the lanes of an axis, each lane once, in an order that is free.
use Rattle.std.specs.Prelude.{◌≡◌, ℕ, List, [], ◌∷◌, Option, Some, slice_index}
use Rattle.std.specs.Fn.{Mut, Called}
use Rattle.std.specs.List.{insert}
use Rattle.nd_shape_and_slice.specs.LayoutIndexMaps.{indexed_shape}
use Rattle.nd_shape_and_slice.specs.declared.shape_builder.Order.TheVariants.{RowMajor}
use Rattle.nd_elements.specs.ElementsByRank.{found_by_rank}
use Rattle.nd_array_core.specs.declared.along.lane_view.LaneView.{LaneView}
use Rattle.nd_elements.specs.BorrowedAndOwnedStorages.{shown_by}
use Rattle.nd_elements.specs.CollectedElements.{stored_along}
use Rattle.nd_elements.specs.ShapeAndElements.{Meaning, inside}
use Rattle.nd_array_core.specs.ArrayMeaning.{meaning_through}
use Rattle.nd_elements.specs.ShapeAndElements.{row_major_elements}
use Rattle.nd_array_core.specs.along.AxisFolds.{lane_elements}
use Rattle.nd_elements.specs.elements.ElementMaps.{AskableOfAll, HasAnswersOfAll, IsMappedBy}

-- Returns the lane at the index `i` of the other axes: it has one axis, and along it the elements that differ only in
-- their coordinate on the axis `a`.
abbrev pub lane_of : {A : Type 0} → Meaning A → ℕ → List ℕ → Meaning A
lane_of m a i = meaning_through (slice_index m.shape a ∷ []) (λ k. insert i a (slice_index k 0)) m

-- Returns the lanes of the axis `a`, each at its index of the other axes.
abbrev pub lanes_of : {A : Type 0} → Meaning A → ℕ → Meaning (Meaning A)
lanes_of m a = record { shape = indexed_shape m.shape a; at = λ i. inside (indexed_shape m.shape a) i (Some (lane_of m a i)) }

-- The elements of a lane in row-major order are its elements by rising coordinate.
abbrev pub LanesAreListed : Type 0 → Type 0
LanesAreListed A = (m : Meaning A) (axis : ℕ) (i : List ℕ) → row_major_elements (lane_of m axis i) ≡ lane_elements m.at axis (slice_index m.shape axis) i

-- Returns what a lane shows while it is shown to a closure: one axis, and along it the elements of the lane.
unfoldable pub lane_seen : {A : Type 0} → LaneView A → Meaning A
lane_seen v = record {
  shape = v.lane.count ∷ [];
  at = λ k. inside (v.lane.count ∷ []) k (stored_along (shown_by v.storage) v.lane.place v.lane.stride (slice_index k 0));
}

module _ {F A B : Type 0} (g : Mut F (LaneView A × Unit {0}) B) where
  -- Says that a call of the closure for `lane` answered `y` and led from `f` to `f'`.
  abbrev pub AnswersLane : F → Option (Meaning A) → B → F → Type 0
  AnswersLane f lane y f' = (v : LaneView A) × (lane ≡ Some (lane_seen v)) × Called g f (v, tt) y f'

  -- Says that the closure `f` may be called for `lane`.
  abbrev pub MayBeShownLane : F → Option (Meaning A) → Type 0
  MayBeShownLane f lane = (v : LaneView A) → lane ≡ Some (lane_seen v) → g.pre f (v, tt)

  -- Says that the closure answers what the function `h` gives of what the lane shows, and stays as it is.
  abbrev pub AnswersLanesBy : (Meaning A → B) → F → Type 0
  AnswersLanesBy h f = (v : LaneView A) (y : B) (f' : F) → Called g f (v, tt) y f' → (f' ≡ f) × (y ≡ h (lane_seen v))

  -- Says that the closure may be called for each lane of the axis `a`, whichever lanes came before.
  abbrev pub AskableOfLanes : Meaning A → ℕ → F → Type 0
  AskableOfLanes m a f = AskableOfAll AnswersLane MayBeShownLane (lanes_of m a) f

  -- Says that `answers` gives at each index of the other axes what the closure answered for the lane there, with one
  -- call for each lane.
  abbrev pub HasAnswersOfLanes : Meaning A → ℕ → F → (List ℕ → Option B) → Type 0
  HasAnswersOfLanes m a f answers = HasAnswersOfAll AnswersLane (lanes_of m a) f answers

  -- Says that the list `items` has what the closure answered for each lane, in row-major order of the indexes of the
  -- other axes.
  abbrev pub ListsAnswersOfLanes : Meaning A → ℕ → F → List B → Type 0
  ListsAnswersOfLanes m a f items = HasAnswersOfLanes m a f (found_by_rank (indexed_shape m.shape a, RowMajor) items)

  -- Says that, if the closure answers what a function `h` gives of each lane and stays as it is, then `answers` gives
  -- the values of `h` at the indexes of the other axes.
  abbrev pub MapsLanesAlike : Meaning A → ℕ → F → (List ℕ → Option B) → Type 0
  MapsLanesAlike m a f answers = (h : Meaning A → B) → AnswersLanesBy h f → IsMappedBy h (lanes_of m a).at answers
