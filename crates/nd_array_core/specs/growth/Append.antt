-- One array appended to another along an axis, in the storage of the first.
use Rattle.std.specs.Prelude.{ℕ, ◌+◌, ◌<◌, ◌≡◌, List, length, slice_get, slice_index, slice_set, Option, ◌≤◌, [], vec_len, vec_capacity, IsTrue}
use Rattle.nd_shape_and_slice.specs.ShapesAndIndexOrders.{in_box, size_of, HasCheckedSize}
use Rattle.nd_shape_and_slice.specs.PlacesAndOverlaps.{place_of}
use Rattle.nd_shape_and_slice.specs.Broadcast.{stretches}
use Rattle.nd_shape_and_slice.specs.LayoutIndexMaps.{inserted_shape, upper_index}
use Rattle.nd_shape_and_slice.specs.declared.errors.ErrorKind.{ErrorKind}
use Rattle.nd_shape_and_slice.specs.declared.errors.ErrorKind.TheVariants.{IncompatibleShape, Overflow}
use Rattle.nd_array_core.specs.declared.base.array_error.ArrayError.{ArrayError}
use Rattle.nd_array_core.specs.declared.base.array_error.ArrayError.TheVariants.{Shape, NoMemory}
use Rattle.nd_layout.specs.LayoutStepsOfCalls.{Placement, as_placement, placement_of}
use Rattle.nd_elements.specs.CollectedElements.{IsFront}
use Rattle.nd_array_core.specs.ConcatenationAndSplit.{concatenated, concatenated_alike, concatenated_shape, appended_shape}
use Rattle.nd_array_core.specs.LayoutLaws.{with_axis_inserted}
use Rattle.nd_array_core.specs.growth.ReservedAlongAxis.{added_elements, HasRoomFor}
use Rattle.nd_elements.specs.ShapeAndElements.{Meaning}
use Rattle.nd_elements.specs.StoragePlaces.{stored_at}
use Rattle.std.specs.declared.vec.Vec.{Vec}
use Rattle.nd_layout.specs.GrowthAlongAxis.{growing_strides}
use Rattle.nd_layout.specs.OrderOfAppendedPlaces.{IsGrown}
use Rattle.nd_layout.specs.declared.layout.Layout.{Layout}
use Rattle.nd_elements.specs.declared.storage.OwnedRepr.{OwnedRepr}
use Rattle.nd_elements.specs.BorrowedAndOwnedStorages.{stored_list, room_of}
use Rattle.nd_array_core.specs.ArrayMeaning.{shape_of, element_at}
use Rattle.nd_array_core.specs.PartsOfArrays.{Part, broadcast_part}
use Rattle.nd_array_core.specs.declared.base.array.ArrayBase.{ArrayBase}
use Rattle.nd_shape_and_slice.specs.declared.dimension.Dimension as dimension
use Rattle.nd_shape_and_slice.specs.declared.dimension.AxisCount as axis_count
use Rattle.nd_shape_and_slice.specs.declared.dimension.StrideList as stride_list
use Rattle.nd_elements.specs.declared.storage.Data as data_trait
use Rattle.nd_elements.specs.LackOfMemory.{MayLackForClone}

-- Says that an array of shape `ms` can be broadcast and appended to one of shape `ns` along `axis`: both have as many
-- axes, of which there is one at least, and each other length of `ms` is that of `ns`, or 1.
abbrev pub FitsAfter : List ℕ → List ℕ → ℕ → Type 0
FitsAfter ns ms axis = (0 < length ns) × IsTrue (stretches ms (appended_shape ns ms axis))

-- Says that `ns` has an axis, and that the shapes `ns` and `ms` are equal except for the length along `axis`, so that
-- an append needs no broadcast.
abbrev pub IsAlikeOnOtherAxes : List ℕ → List ℕ → ℕ → Type 0
IsAlikeOnOtherAxes ns ms axis = (0 < length ns) × (slice_set ms axis (slice_index ns axis) ≡ ns)

-- Returns how many elements are added when an array of shape `ms` is appended to one of shape `ns` along `axis`.
abbrev pub elements_after : List ℕ → List ℕ → ℕ → ℕ
elements_after ns ms axis = added_elements ns axis (slice_index ms axis)

-- Says that an array of shape `ms` fits after one of shape `ns` along `axis`, and that the shape of both together has a
-- checked size: the product of its nonzero lengths is at most `isize::MAX`.
abbrev pub CanComeAfter : List ℕ → List ℕ → ℕ → Type 0
CanComeAfter ns ms axis = FitsAfter ns ms axis × HasCheckedSize (concatenated_shape ns ms axis)

-- The errors with which an append of shape `ms` to shape `ns` along `axis` is refused: `IncompatibleShape` where it
-- doesn't fit, and `Overflow` where it fits but the shape of both together has no checked size.
pub data IsJoiningRefused (ns ms : List ℕ) (axis : ℕ) : ErrorKind → Type 0 where
  NotFitting : ¬ (FitsAfter ns ms axis) → IsJoiningRefused ns ms axis IncompatibleShape
  TooLarge : FitsAfter ns ms axis → ¬ (HasCheckedSize (concatenated_shape ns ms axis)) → IsJoiningRefused ns ms axis Overflow

-- Says that an append of shape `ms` to shape `ns` along `axis` is refused with the given error: with a shape error for
-- the cause that `IsJoiningRefused` tells, and with `NoMemory` only where the append is possible and adds an element.
abbrev pub IsAppendRefused : List ℕ → List ℕ → ℕ → ArrayError → Type 0
IsAppendRefused ns ms axis (Shape kind) = IsJoiningRefused ns ms axis kind
IsAppendRefused ns ms axis NoMemory = CanComeAfter ns ms axis × (0 < elements_after ns ms axis)

-- Says that, where `m` and `n` differ in shape at most along `axis`, `joined` is `n` appended to `m` without broadcast.
abbrev pub JoinsAlike : {A : Type 0} → ℕ → Meaning A → Meaning A → Meaning A → Type 0
JoinsAlike axis m n joined = IsAlikeOnOtherAxes m.shape n.shape axis → joined ≡ concatenated_alike axis m n

-- Returns `m` with `n` appended along `axis`, where `n` lacks this axis and first gets it with length 1.
abbrev pub pushed : {A : Type 0} → ℕ → Meaning A → Meaning A → Meaning A
pushed axis m n = concatenated axis m (with_axis_inserted axis n)

-- Says that, where `n` with `axis` inserted differs in shape from `m` at most along `axis`, `joined` is this appended
-- to `m` without broadcast.
abbrev pub PushesAlike : {A : Type 0} → ℕ → Meaning A → Meaning A → Meaning A → Type 0
PushesAlike axis m n joined = JoinsAlike axis m (with_axis_inserted axis n) joined

-- Says that an array of shape `ms`, with `axis` inserted as one of length 1, can be appended to one of shape `ns`.
abbrev pub CanBePushed : List ℕ → List ℕ → ℕ → Type 0
CanBePushed ns ms axis = CanComeAfter ns (inserted_shape ms axis) axis

-- Says that a push of shape `ms`, with `axis` inserted as one of length 1, onto shape `ns` is refused with the given
-- error.
abbrev pub IsPushRefused : List ℕ → List ℕ → ℕ → ArrayError → Type 0
IsPushRefused ns ms axis = IsAppendRefused ns (inserted_shape ms axis) axis

-- Says that `new` is the stored list `old` with the elements `at` of an array of shape `shape` after it: each index has
-- its element at the place that the layout `grown` gives it, once its coordinate on `axis` is raised by `from`.
pub record ArePutAfter {A : Type 0} (grown : Placement) (axis from : ℕ) (shape : List ℕ) (at : List ℕ → Option A) (old new : List A) : Type 0 where
  pub front : IsFront old new
  pub count : length new ≡ length old + size_of shape
  pub elements_put : (i : List ℕ) → IsTrue (in_box shape i) → stored_at (slice_get new) (place_of grown.offset grown.strides (upper_index axis from i)) ≡ at i

module _ {S D A T R : Type 0} {s : data_trait.Ghosts S A} {d : dimension.Ghosts D R} {n : axis_count.Ghosts D} {r : stride_list.Ghosts R} {t : stride_list.Ghosts T} where
  -- Returns the part that is appended to an array of shape `ns`: `a` broadcast to that shape, with its own length along
  -- `axis`.
  abbrev pub part_after : List ℕ → ℕ → ArrayBase S D T A R s d n r t → Part
  part_after ns axis a = broadcast_part a (appended_shape ns (shape_of a) axis)

  -- Says that the vector `new` is `old` with the elements of the array `a` after it, at their places in the layout
  -- `grown`.
  abbrev pub PutsAfter : {Z : Type 0} → Placement → ℕ → ℕ → ArrayBase S D T A R s d n r t → Vec A Z → Vec A Z → Type 0
  PutsAfter grown axis from a old new = ArePutAfter grown axis from (shape_of a) (element_at a) old.items new.items

  -- Says that a clone of some element of `a` may be refused: one of which `is_infallible` doesn't hold.
  abbrev pub MayLackForCloneOf : (A → Type 0) → ArrayBase S D T A R s d n r t → Type 0
  MayLackForCloneOf is_infallible a = MayLackForClone is_infallible (element_at a)

  -- Says that the vector `items` has capacity for as many more elements as `a` has.
  abbrev pub HasCapacityFor : {Z : Type 0} → ArrayBase S D T A R s d n r t → Vec A Z → Type 0
  HasCapacityFor a items = vec_len items + size_of (shape_of a) ≤ vec_capacity items

  -- Says that the storage has capacity for as many more elements as `a` has.
  abbrev pub HasRoomAfter : ArrayBase S D T A R s d n r t → OwnedRepr A → Type 0
  HasRoomAfter a storage = HasRoomFor (size_of (shape_of a)) storage

  -- Says that the whole capacity of the storage suffices for the elements of `a`.
  abbrev pub FitsInto : ArrayBase S D T A R s d n r t → OwnedRepr A → Type 0
  FitsInto a storage = size_of (shape_of a) ≤ room_of storage

  module _ {E U X : Type 0} {e : dimension.Ghosts E X} {k : axis_count.Ghosts E} {x : stride_list.Ghosts X} {u : stride_list.Ghosts U} where
    -- Says that the layout `new` is `old` grown along `axis` by the length that `a` has there.
    abbrev pub GrowsBy : ℕ → ArrayBase S D T A R s d n r t → Layout E U X e k x u → Layout E U X e k x u → Type 0
    GrowsBy axis a old new = IsGrown (placement_of old) axis (slice_index (shape_of a) axis) (placement_of new)

    -- Says that `filled` is `storage` with the elements of `a` after it, at the places that the layout `new` gives to
    -- the coordinates of `axis` from the length of `old` on.
    abbrev pub ComesAfter : ℕ → ArrayBase S D T A R s d n r t → Layout E U X e k x u → Layout E U X e k x u → OwnedRepr A → OwnedRepr A → Type 0
    ComesAfter axis a old new storage filled =
        ArePutAfter (placement_of new) axis (slice_index (e.lengths old.dim) axis) (shape_of a) (element_at a) (stored_list storage) (stored_list filled)

    -- Says that `l` is the layout of fresh storage for the shape of `a` alone, which is to grow along `axis`.
    abbrev pub LiesFresh : ℕ → ArrayBase S D T A R s d n r t → Layout E U X e k x u → Type 0
    LiesFresh axis a l = placement_of l ≡ as_placement 0 (shape_of a) (growing_strides axis (shape_of a))

    -- Says that `filled` holds just the elements of `a`, each at the place that the layout `l` gives to its index.
    abbrev pub ComesFresh : ℕ → ArrayBase S D T A R s d n r t → Layout E U X e k x u → OwnedRepr A → Type 0
    ComesFresh axis a l filled = ArePutAfter (placement_of l) axis 0 (shape_of a) (element_at a) [] (stored_list filled)
