-- How an owned array lies in memory before and after another one is appended to it along an axis.
use Rattle.std.specs.Prelude.{ℕ, ◌≡◌, ◌+◌, ◌<◌, ◌≤◌, ◌⊎◌, false, List, length, nat_eq, slice_index, Option, ⊤, IsTrue}
use Rattle.nd_shape_and_slice.specs.declared.dimension.Dimension as dimension
use Rattle.nd_shape_and_slice.specs.declared.dimension.AxisCount as axis_count
use Rattle.nd_shape_and_slice.specs.declared.dimension.StrideList as stride_list
use Rattle.nd_shape_and_slice.specs.ShapesAndIndexOrders.{in_box, size_of}
use Rattle.nd_shape_and_slice.specs.PlacesAndOverlaps.{place_of}
use Rattle.nd_layout.specs.GrowthAlongAxis.{GrowthCase, Empty, Unchanged, Fresh, Moved, After, growth_case, must_move, strides_in_case}
use Rattle.nd_layout.specs.LayoutStepsOfCalls.{Placement}
use Rattle.nd_elements.specs.declared.storage.Data as data_trait
use Rattle.nd_elements.specs.declared.storage.OwnedRepr.{OwnedRepr}
use Rattle.nd_array_core.specs.declared.base.array.ArrayBase.{ArrayBase}
use Rattle.nd_array_core.specs.declared.base.array_error.ArrayError.{ArrayError}
use Rattle.nd_array_core.specs.declared.base.array_error.ArrayError.TheVariants.{Shape, NoMemory}
use Rattle.nd_elements.specs.CollectedElements.{IsFront}
use Rattle.nd_elements.specs.ShapeAndElements.{Meaning}
use Rattle.nd_array_core.specs.ArrayMeaning.{shape_of, storage_of, layout_strides, layout_offset}
use Rattle.nd_array_core.specs.PartsOfArrays.{ShowsWhole, BecomesWhole}
use Rattle.nd_elements.specs.LackOfMemory.{MayLackForClone}
use Rattle.nd_elements.specs.growth.StorageReadyToGrow.{IsLaidToGrow}
use Rattle.nd_elements.specs.BorrowedAndOwnedStorages.{stored_list, room_of}
use Rattle.nd_array_core.specs.growth.ReservedAlongAxis.{added_elements, HasRoomAlong}

-- Says that `items` has as many elements as the layout `l` has indexes, and that there are none or `axis` can grow at
-- the end of the storage without a move.
abbrev pub IsReadyUnder : {A : Type 0} → ℕ → Placement → List A → Type 0
IsReadyUnder axis l items = (length items ≡ size_of l.lengths) × ((size_of l.lengths ≡ 0) ⊎ (must_move l.lengths l.strides axis ≡ false))

-- Returns which case of growth applies when `axis` grows by `added`; the storage is full where `items` has as many
-- elements as the layout `l` has indexes.
abbrev pub case_under : {A : Type 0} → ℕ → ℕ → Placement → List A → GrowthCase
case_under axis added l items = growth_case l.lengths l.strides (nat_eq (length items) (size_of l.lengths)) axis added

-- Returns the offset after growth in each case: 0 in fresh storage, and otherwise the offset before.
abbrev pub offset_in_case : GrowthCase → ℕ → ℕ
offset_in_case Empty offset = offset
offset_in_case Unchanged offset = offset
offset_in_case Fresh offset = 0
offset_in_case Moved offset = 0
offset_in_case After offset = offset

-- Says what is stored after growth in each case: the elements of `old` where none were added, and otherwise as many as
-- the layout `l` has indexes, those of `old` first where nothing moved.
abbrev pub IsStoredInCase : {A : Type 0} → GrowthCase → Placement → List A → List A → Type 0
IsStoredInCase Empty l old new = new ≡ old
IsStoredInCase Unchanged l old new = new ≡ old
IsStoredInCase Fresh l old new = length new ≡ size_of l.lengths
IsStoredInCase Moved l old new = length new ≡ size_of l.lengths
IsStoredInCase After l old new = (length new ≡ size_of l.lengths) × IsFront old new

-- Says how an array with the layout `l` and the stored elements `old` lies after `axis` has grown by `added`: with the
-- strides, the offset and the stored elements of the case of growth that applies.
pub record IsLaidInCase {A : Type 0} (axis added : ℕ) (l : Placement) (old : List A) (m : Placement) (new : List A) : Type 0 where
  pub strides_are : m.strides ≡ strides_in_case (case_under axis added l old) l.lengths l.strides axis added
  pub offset_is : m.offset ≡ offset_in_case (case_under axis added l old) l.offset
  pub stored : IsStoredInCase (case_under axis added l old) m old new

-- Says that an array grew in place: `new` begins with `old`, each index of the layout `l` has the same place in `m`,
-- and `axis` can grow on.
pub record GoesOnUnder {A : Type 0} (axis : ℕ) (l : Placement) (old : List A) (m : Placement) (new : List A) : Type 0 where
  pub front : IsFront old new
  pub places : (i : List ℕ) → IsTrue (in_box l.lengths i) → place_of m.offset m.strides i ≡ place_of l.offset l.strides i
  pub grows_on : IsReadyUnder axis m new

-- Says that the error is `NoMemory` only if a clone of some element may be refused: one of which `is_infallible`
-- doesn't hold.
abbrev pub IsNotForMemory : {A : Type 0} → (A → Type 0) → (List ℕ → Option A) → ArrayError → Type 0
IsNotForMemory is_infallible at (Shape kind) = ⊤
IsNotForMemory is_infallible at NoMemory = MayLackForClone is_infallible at

module _ {D T A R : Type 0} {s : data_trait.Ghosts (OwnedRepr A) A} {d : dimension.Ghosts D R} {n : axis_count.Ghosts D} {r : stride_list.Ghosts R} {t : stride_list.Ghosts T} where
  -- Returns the offset, the shape and the strides of an array.
  abbrev pub array_placement : ArrayBase (OwnedRepr A) D T A R s d n r t → Placement
  array_placement a = record { offset = layout_offset a; lengths = shape_of a; strides = layout_strides a }

  -- Says that the storage holds as many elements as `a` has indexes, and that `axis` can grow at its end without a
  -- move.
  abbrev pub CanGrowOn : ℕ → ArrayBase (OwnedRepr A) D T A R s d n r t → Type 0
  CanGrowOn axis a = (length (stored_list (storage_of a)) ≡ size_of (shape_of a)) × (must_move (shape_of a) (layout_strides a) axis ≡ false)

  -- Says that the storage holds as many elements as `a` has indexes, and that there are none or `axis` can grow at its
  -- end without a move.
  abbrev pub IsReadyAlong : ℕ → ArrayBase (OwnedRepr A) D T A R s d n r t → Type 0
  IsReadyAlong axis a = IsReadyUnder axis (array_placement a) (stored_list (storage_of a))

  -- Says that `b` lies as `a` does after `axis` has grown by `added`, in the case of growth that applies.
  abbrev pub IsGrownBy : ℕ → ℕ → ArrayBase (OwnedRepr A) D T A R s d n r t → ArrayBase (OwnedRepr A) D T A R s d n r t → Type 0
  IsGrownBy axis added a b = IsLaidInCase axis added (array_placement a) (stored_list (storage_of a)) (array_placement b) (stored_list (storage_of b))

  -- Says that `b` is `a` grown in place: it stores the elements of `a` first, each index of `a` keeps its place, and
  -- `axis` can grow on.
  abbrev pub GoesOn : ℕ → ArrayBase (OwnedRepr A) D T A R s d n r t → ArrayBase (OwnedRepr A) D T A R s d n r t → Type 0
  GoesOn axis a b = GoesOnUnder axis (array_placement a) (stored_list (storage_of a)) (array_placement b) (stored_list (storage_of b))

  -- Says that `b` lies as fresh storage of the shape of `a` does that is to grow along `axis`, with capacity for `more`
  -- more elements.
  abbrev pub IsRelaidOut : ℕ → ℕ → ArrayBase (OwnedRepr A) D T A R s d n r t → ArrayBase (OwnedRepr A) D T A R s d n r t → Type 0
  IsRelaidOut axis more a b = IsLaidToGrow axis more (shape_of a) (layout_offset b) (layout_strides b) (storage_of b)

  -- Says that `a` has no element, or that `axis` can grow at the end of the storage without a move.
  abbrev pub NeedsNoMove : ℕ → ArrayBase (OwnedRepr A) D T A R s d n r t → Type 0
  NeedsNoMove axis a = (size_of (shape_of a) ≡ 0) ⊎ CanGrowOn axis a

  -- Says what a refused append leaves. A shape error leaves `a` as it was. `NoMemory` leaves all elements of `a` in
  -- their places where none had to move, and leaves what is stored where `a` was ready to grow along `axis`.
  abbrev pub IsLeft : ℕ → ArrayBase (OwnedRepr A) D T A R s d n r t → ArrayBase (OwnedRepr A) D T A R s d n r t → ArrayError → Type 0
  IsLeft axis a b (Shape kind) = BecomesWhole a b
  IsLeft axis a b NoMemory = (NeedsNoMove axis a → ShowsWhole a b) × (IsReadyAlong axis a → stored_list (storage_of b) ≡ stored_list (storage_of a))

  -- Says that `a` is ready to grow along `axis`, and has capacity to grow there by `lengths`.
  abbrev pub IsReadyFor : ℕ → ℕ → ArrayBase (OwnedRepr A) D T A R s d n r t → Type 0
  IsReadyFor axis lengths a = IsReadyAlong axis a × HasRoomAlong axis lengths a

  -- Says that, where `a` is ready to grow along `axis` and has capacity for all of `m`, the error `e` is `NoMemory`
  -- only if a clone of an element of `m` may be refused.
  abbrev pub NeedsOnlyClones : (A → Type 0) → ℕ → ArrayBase (OwnedRepr A) D T A R s d n r t → Meaning A → ArrayError → Type 0
  NeedsOnlyClones is_infallible axis a m e = IsReadyFor axis (slice_index m.shape axis) a → IsNotForMemory is_infallible m.at e

  -- Says that `b` has capacity to grow along `axis` by `more` wherever `a` has capacity to grow by `more + used`.
  abbrev pub LeavesRoom : ℕ → ℕ → ArrayBase (OwnedRepr A) D T A R s d n r t → ArrayBase (OwnedRepr A) D T A R s d n r t → Type 0
  LeavesRoom axis used a b = (more : ℕ) → HasRoomAlong axis (more + used) a → HasRoomAlong axis more b

  -- Says that `b` has no less capacity than `a`, where growing `axis` by `added` adds no element or moves none.
  abbrev pub KeepsRoom : ℕ → ℕ → ArrayBase (OwnedRepr A) D T A R s d n r t → ArrayBase (OwnedRepr A) D T A R s d n r t → Type 0
  KeepsRoom axis added a b = (added_elements (shape_of a) axis added ≡ 0) ⊎ NeedsNoMove axis a → room_of (storage_of a) ≤ room_of (storage_of b)

  -- Says that `b` is ready to grow along `axis`, where growing this axis of `a` by `added` adds an element.
  abbrev pub BecomesReady : ℕ → ℕ → ArrayBase (OwnedRepr A) D T A R s d n r t → ArrayBase (OwnedRepr A) D T A R s d n r t → Type 0
  BecomesReady axis added a b = 0 < added_elements (shape_of a) axis added → IsReadyAlong axis b

  -- Says that, where `a` is ready to grow along `axis`, `b` has the capacity that is left once an array of shape
  -- `shape` has been appended to `a`.
  abbrev pub LeavesRoomAfter : ℕ → List ℕ → ArrayBase (OwnedRepr A) D T A R s d n r t → ArrayBase (OwnedRepr A) D T A R s d n r t → Type 0
  LeavesRoomAfter axis shape a b = IsReadyAlong axis a → LeavesRoom axis (slice_index shape axis) a b
