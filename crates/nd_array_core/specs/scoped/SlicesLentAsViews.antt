-- A caller's slice that is lent to a task as a view: how a shape shows its elements, and what it holds afterwards.
use Rattle.std.specs.Prelude.{◌≡◌, ℕ, List, ℤ, Option, slice_get}
use Rattle.nd_shape_and_slice.specs.declared.shape_builder.Order.{Order}
use Rattle.nd_shape_and_slice.specs.declared.shape_builder.IntoStrideShape as given_shape
use Rattle.nd_shape_and_slice.specs.declared.errors.ErrorKind.{ErrorKind}
use Rattle.nd_layout.specs.GivenStrides.{given_place, given_strides, offset_given}
use Rattle.nd_layout.specs.ConstructorRefusals.{slice_mut_refusal, slice_refusal, vec_refusal}
use Rattle.nd_elements.specs.StoragePlaces.{place_number, stored_at}
use Rattle.nd_array_core.specs.ArrayInStorage.{PlacedArray}
use Rattle.nd_shape_and_slice.specs.declared.dimension.Dimension as dimension
use Rattle.nd_shape_and_slice.specs.declared.dimension.AxisCount as axis_count
use Rattle.nd_shape_and_slice.specs.declared.dimension.StrideList as stride_list
use Rattle.nd_elements.specs.declared.storage.Data as data_trait
use Rattle.nd_array_core.specs.declared.base.array.ArrayBase.{ArrayBase}
use Rattle.nd_elements.specs.ShapeAndElements.{inside}
use Rattle.nd_array_core.specs.ArrayMeaning.{element_at}
use Rattle.nd_elements.specs.WritesByIndex.{OthersStay}
use Rattle.nd_array_core.specs.scoped.ViewTasks.{IsViewOf, IsDoneOnPlacement}
use Rattle.nd_layout.specs.LayoutStepsOfCalls.{Placement}

-- What a caller gives as a shape: lengths, an order, and strides where there are any.
abbrev pub GivenShape : Type 0
GivenShape = List ℕ × Order × Option (List ℤ)

-- Returns the lengths, the order and the optional strides that a shape argument stands for.
abbrev pub meant_by : {S D R : Type 0} → given_shape.Ghosts S D R → S → GivenShape
meant_by g shape = (g.lengths_meant shape, g.order_meant shape, g.strides_meant shape)

-- Returns the error with which a mutable view of a slice of `count` elements under the given shape is refused, if it
-- is.
abbrev pub refusal_for : GivenShape → ℕ → Option ErrorKind
refusal_for given count = slice_mut_refusal given.0 given.2 count

-- Returns the error with which a view of a slice of `count` elements under the given shape is refused, if it is.
abbrev pub read_refusal : GivenShape → ℕ → Option ErrorKind
read_refusal given count = slice_refusal given.0 given.2 count

-- Returns the error with which an array of the given shape made of a vector of `count` elements is refused, if it is.
abbrev pub vec_refusal_for : GivenShape → ℕ → Option ErrorKind
vec_refusal_for given count = vec_refusal given.0 given.2 count

-- Returns the strides of a view under the given shape.
abbrev pub strides_under : GivenShape → List ℤ
strides_under given = given_strides given.0 given.1 given.2

-- Returns the offset of a view under the given shape.
abbrev pub offset_under : GivenShape → ℕ
offset_under given = offset_given given.0 given.2

-- Returns the place in the slice of the element at the index `i`, and `None` outside the shape's box.
abbrev pub place_in_slice : GivenShape → List ℕ → Option ℕ
place_in_slice given i = inside given.0 i (place_number (given_place given.0 given.1 given.2 i))

module _ {A : Type 0} where
  -- Returns the element of the slice `xs` at the index `i` of the given shape, and `None` outside its box.
  abbrev pub element_in_slice : List A → GivenShape → List ℕ → Option A
  element_in_slice xs given i = inside given.0 i (stored_at (slice_get xs) (given_place given.0 given.1 given.2 i))

  -- Says that `v` is a view of the slice: it has the given shape, and at each index its place and its element in the
  -- slice.
  abbrev pub IsViewOfSlice : List A → GivenShape → PlacedArray A → Type 0
  IsViewOfSlice xs given v = IsViewOf given.0 (place_in_slice given) (element_in_slice xs given) v

  -- Says that the precondition `asks` of a task holds of each view of the slice under the given shape.
  abbrev pub AsksOfSlice : (PlacedArray A → Type 0) → List A → GivenShape → Type 0
  AsksOfSlice asks xs given = (v : PlacedArray A) → IsViewOfSlice xs given v → asks v

  -- Says that `new` has the element of `old` at every place that no index of the given shape has.
  abbrev pub KeepsUnseen : List A → List A → GivenShape → Type 0
  KeepsUnseen old new given = OthersStay (place_in_slice given) (slice_get old) (slice_get new)

-- A task returns an answer of the type `R`.
module _ {A R : Type 0} where
  -- Says that the task is done: its postcondition `done` holds of a view of the slice `old`, of a view of the slice
  -- `new`, and of its answer.
  abbrev pub IsDoneOnSlice : (PlacedArray A → PlacedArray A → R → Type 0) → List A → List A → GivenShape → R → Type 0
  IsDoneOnSlice done old new given answer =
      (v : PlacedArray A)
      × (w : PlacedArray A)
      × IsViewOfSlice old given v
      × IsViewOfSlice new given w
      × done v w answer

  -- Says that the task is done: its postcondition `done` holds of views by `layout` of the slices `old` and `new`, and
  -- of its answer, and `new` differs from `old` at the places of this layout alone.
  abbrev pub IsDoneByLayout : (PlacedArray A → PlacedArray A → R → Type 0) → List A → List A → Placement → R → Type 0
  IsDoneByLayout done old new layout answer =
      IsDoneOnPlacement (λ v w. done v w answer) (slice_get old) (slice_get new) layout

module _ {S D T A R : Type 0} {s : data_trait.Ghosts S A} {d : dimension.Ghosts D R} {n : axis_count.Ghosts D} {r : stride_list.Ghosts R} {t : stride_list.Ghosts T} where
  -- Says that `a` has at each index the item that the list `xs` has at the place of the index under the given shape.
  abbrev pub ShowsUnder : GivenShape → List A → ArrayBase S D T A R s d n r t → Type 0
  ShowsUnder given xs a = (i : List ℕ) → element_at a i ≡ element_in_slice xs given i
