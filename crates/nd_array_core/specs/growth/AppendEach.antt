-- Several arrays appended along an axis, one after the other.
use Rattle.std.specs.Prelude.{ℕ, ◌≡◌, ⊤, List, [], ◌∷◌, map, Some, slice_get, slice_index, take}
use Rattle.std.specs.List.{sum_by}
use Rattle.nd_shape_and_slice.specs.ShapesAndIndexOrders.{HasCheckedSize}
use Rattle.nd_layout.specs.GrowthAlongAxis.{grown_shape}
use Rattle.nd_shape_and_slice.specs.declared.dimension.Dimension as dimension
use Rattle.nd_shape_and_slice.specs.declared.dimension.AxisCount as axis_count
use Rattle.nd_shape_and_slice.specs.declared.dimension.StrideList as stride_list
use Rattle.nd_elements.specs.declared.storage.Data as data_trait
use Rattle.nd_array_core.specs.declared.base.array.ArrayBase.{ArrayBase}
use Rattle.nd_array_core.specs.declared.base.array_error.ArrayError.{ArrayError}
use Rattle.nd_array_core.specs.declared.base.array_error.ArrayError.TheVariants.{NoMemory}
use Rattle.nd_array_core.specs.ConcatenationAndSplit.{concatenated, concatenated_alike}
use Rattle.nd_elements.specs.ShapeAndElements.{Meaning}
use Rattle.nd_array_core.specs.ArrayMeaning.{meaning_of, shape_of}
use Rattle.nd_elements.specs.EqualClones.{ClonesOfAllAreEqual}
use Rattle.nd_array_core.specs.growth.Append.{FitsAfter, IsAlikeOnOtherAxes, IsAppendRefused}
use Rattle.nd_elements.specs.declared.storage.OwnedRepr.{OwnedRepr}
use Rattle.nd_array_core.specs.growth.StorageOfAppend.{IsGrownBy, IsLeft, IsNotForMemory, IsReadyFor}

module _ {S D T A R : Type 0} {s : data_trait.Ghosts S A} {d : dimension.Ghosts D R} {n : axis_count.Ghosts D} {r : stride_list.Ghosts R} {t : stride_list.Ghosts T} where
  -- Returns the shape and the elements of each array of a list.
  abbrev pub meanings_of : List (ArrayBase S D T A R s d n r t) → List (Meaning A)
  meanings_of arrays = map (λ a. meaning_of a) arrays

-- Returns `m` with each item of the list appended along `axis`, one after the other.
abbrev pub joined_in_turn : {A : Type 0} → ℕ → Meaning A → List (Meaning A) → Meaning A
joined_in_turn axis m [] = m
joined_in_turn axis m (n ∷ ns) = joined_in_turn axis (concatenated axis m n) ns

-- Says that the shape of each item of the list differs from `shape` at most along `axis`.
abbrev pub AreAlikeOnOtherAxes : {A : Type 0} → ℕ → List ℕ → List (Meaning A) → Type 0
AreAlikeOnOtherAxes axis shape [] = ⊤
AreAlikeOnOtherAxes axis shape (m ∷ ms) = IsAlikeOnOtherAxes shape m.shape axis × AreAlikeOnOtherAxes axis shape ms

-- Returns `m` with each item of the list appended along `axis`, one after the other, without broadcast.
abbrev pub alike_in_turn : {A : Type 0} → ℕ → Meaning A → List (Meaning A) → Meaning A
alike_in_turn axis m [] = m
alike_in_turn axis m (n ∷ ns) = alike_in_turn axis (concatenated_alike axis m n) ns

-- The array `new` is `old` after items of the list `ms` have been appended to it.
module _ {S D T A R : Type 0} {s : data_trait.Ghosts S A} {d : dimension.Ghosts D R} {n : axis_count.Ghosts D} {r : stride_list.Ghosts R} {t : stride_list.Ghosts T} where
  -- Says that `new` is `old` with all items of `ms` appended along `axis`, one after the other.
  abbrev pub JoinsAll : ℕ → ArrayBase S D T A R s d n r t → List (Meaning A) → ArrayBase S D T A R s d n r t → Type 0
  JoinsAll axis old ms new = meaning_of new ≡ joined_in_turn axis (meaning_of old) ms

  -- Says that `new` is `old` with the first `k` items of `ms` appended along `axis`, one after the other.
  abbrev pub JoinsFirst : ℕ → ℕ → ArrayBase S D T A R s d n r t → List (Meaning A) → ArrayBase S D T A R s d n r t → Type 0
  JoinsFirst k axis old ms new = meaning_of new ≡ joined_in_turn axis (meaning_of old) (take k ms)

  -- Says that, where no item of `ms` needs a broadcast, `new` is `old` with all of them appended as they are.
  abbrev pub JoinsAllAlike : ℕ → ArrayBase S D T A R s d n r t → List (Meaning A) → ArrayBase S D T A R s d n r t → Type 0
  JoinsAllAlike axis old ms new = AreAlikeOnOtherAxes axis (shape_of old) ms → meaning_of new ≡ alike_in_turn axis (meaning_of old) ms

-- Says that every clone of an element of an item of `ms` equals the element; `is_clone x copy` says that `copy` is a
-- clone of `x`.
abbrev pub ClonesOfEachAreEqual : {A : Type 0} → (A → A → Type 0) → List (Meaning A) → Type 0
ClonesOfEachAreEqual {A} is_clone ms = (nth : ℕ) (m : Meaning A) → slice_get ms nth ≡ Some m → ClonesOfAllAreEqual is_clone m.at

-- Says that `ms` has an item at position `nth`, and that an append of it to an array of shape `shape` is refused with
-- `error`.
abbrev pub IsRefusedInTurn : {A : Type 0} → ℕ → List ℕ → List (Meaning A) → ℕ → ArrayError → Type 0
IsRefusedInTurn {A} axis shape ms nth error = (m : Meaning A) × (slice_get ms nth ≡ Some m) × IsAppendRefused shape m.shape axis error

-- Returns the sum of the lengths that the items of `ms` have along `axis`.
abbrev pub lengths_along : {A : Type 0} → ℕ → List (Meaning A) → ℕ
lengths_along axis ms = sum_by (λ m. slice_index m.shape axis) ms

-- Says that each item of `ms` fits after an array of shape `shape` along `axis`, and that the shape of all together has
-- a checked size.
abbrev pub FitInTurn : {A : Type 0} → ℕ → List ℕ → List (Meaning A) → Type 0
FitInTurn {A} axis shape ms = ((nth : ℕ) (m : Meaning A) → slice_get ms nth ≡ Some m → FitsAfter shape m.shape axis) × HasCheckedSize (grown_shape shape axis (lengths_along axis ms))

-- Says that the error of `e` is `NoMemory`; the number beside it is the position of the array whose append was refused.
abbrev pub LacksMemory : ℕ × ArrayError → Type 0
LacksMemory e = e.1 ≡ NoMemory

-- Says that `ms` has an item at position `nth`, and that `error` is `NoMemory` only if a clone of one of its elements
-- may be refused.
abbrev pub IsNotForMemoryInTurn : {A : Type 0} → (A → Type 0) → List (Meaning A) → ℕ → ArrayError → Type 0
IsNotForMemoryInTurn {A} is_infallible ms nth error = (m : Meaning A) × (slice_get ms nth ≡ Some m) × IsNotForMemory is_infallible m.at error

module _ {D T A R : Type 0} {s : data_trait.Ghosts (OwnedRepr A) A} {d : dimension.Ghosts D R} {n : axis_count.Ghosts D} {r : stride_list.Ghosts R} {t : stride_list.Ghosts T} where
  -- Says that `b` lies in memory as `a` does once the items of the list have been appended along `axis`, one after the
  -- other.
  abbrev pub IsGrownInTurn : ℕ → List (Meaning A) → ArrayBase (OwnedRepr A) D T A R s d n r t → ArrayBase (OwnedRepr A) D T A R s d n r t → Type 0
  IsGrownInTurn axis [] a b = b ≡ a
  IsGrownInTurn axis (m ∷ ms) a b = (c : ArrayBase (OwnedRepr A) D T A R s d n r t) × (shape_of c ≡ grown_shape (shape_of a) axis (slice_index m.shape axis)) × IsGrownBy axis (slice_index m.shape axis) a c × IsGrownInTurn axis ms c b

  -- Says that `b` is what the error `e` leaves, where the items of `ms` had been appended to `a` and the next append
  -- was refused.
  abbrev pub IsLeftInTurn : ℕ → List (Meaning A) → ArrayBase (OwnedRepr A) D T A R s d n r t → ArrayBase (OwnedRepr A) D T A R s d n r t → ArrayError → Type 0
  IsLeftInTurn axis ms a b e = (c : ArrayBase (OwnedRepr A) D T A R s d n r t) × IsGrownInTurn axis ms a c × IsLeft axis c b e

  -- Says that, where `a` is ready to grow along `axis` and has capacity for all of `ms`, the error of `e` is `NoMemory`
  -- only if a clone of an element of the item at its position may be refused.
  abbrev pub NeedsOnlyClonesInTurn : (A → Type 0) → ℕ → ArrayBase (OwnedRepr A) D T A R s d n r t → List (Meaning A) → ℕ × ArrayError → Type 0
  NeedsOnlyClonesInTurn is_infallible axis a ms e = IsReadyFor axis (lengths_along axis ms) a → IsNotForMemoryInTurn is_infallible ms e.0 e.1
