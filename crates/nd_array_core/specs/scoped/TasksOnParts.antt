-- Tasks on mutable views of parts of an array.
use Rattle.std.specs.Prelude.{◌≡◌, ℕ, List, Some, IsTrue}
use Rattle.nd_shape_and_slice.specs.ShapesAndIndexOrders.{in_box}
use Rattle.nd_shape_and_slice.specs.declared.dimension.Dimension as dimension
use Rattle.nd_shape_and_slice.specs.declared.dimension.AxisCount as axis_count
use Rattle.nd_shape_and_slice.specs.declared.dimension.StrideList as stride_list
use Rattle.nd_elements.specs.declared.storage.Data as data_trait
use Rattle.nd_array_core.specs.declared.base.array.ArrayBase.{ArrayBase}
use Rattle.nd_shape_and_slice.specs.declared.slice_info.SliceInfoElem.{SliceInfoElem}
use Rattle.nd_array_core.specs.ArrayMeaning.{shape_of, element_at, place_at}
use Rattle.nd_array_core.specs.PartsOfArrays.{Part, NamesNot, lower_part, upper_part, sliced_part}
use Rattle.nd_array_core.specs.ArrayInStorage.{PlacedArray}
use Rattle.nd_array_core.specs.scoped.ViewTasks.{IsViewOf, IsViewThrough, OthersKeep, OthersKeepTwo}

module _ {S D A T R : Type 0} {s : data_trait.Ghosts S A} {d : dimension.Ghosts D R} {n : axis_count.Ghosts D} {r : stride_list.Ghosts R} {t : stride_list.Ghosts T} where
  -- Says that `v` is a view of the part of `a`: it has the shape of the part, and at each index the place and the
  -- element of the index of `a` that it stands for.
  abbrev pub IsViewOfPart : ArrayBase S D T A R s d n r t → Part → PlacedArray A → Type 0
  IsViewOfPart a part v = IsViewThrough part.part_shape part.index_named (place_at a) (element_at a) v

  -- Says that the precondition `asks` of a task holds of each view of the part.
  abbrev pub AsksOfPart : (PlacedArray A → Type 0) → ArrayBase S D T A R s d n r t → Part → Type 0
  AsksOfPart asks a part = (v : PlacedArray A) → IsViewOfPart a part v → asks v

  -- Says that the task is done: its postcondition `done` holds of a view of the part of `old`, of a view of the part of
  -- `new`, and of its answer.
  abbrev pub IsDoneOnPart : {Q : Type 0} → (PlacedArray A → PlacedArray A → Q → Type 0) → Q → ArrayBase S D T A R s d n r t → ArrayBase S D T A R s d n r t → Part → Type 0
  IsDoneOnPart done answer old new part =
      (v : PlacedArray A)
      × (w : PlacedArray A)
      × IsViewOfPart old part v
      × IsViewOfPart new part w
      × done v w answer

  -- Says that `new` has the element of `old` at each index that no index of the part stands for.
  abbrev pub KeepsBut : ArrayBase S D T A R s d n r t → ArrayBase S D T A R s d n r t → Part → Type 0
  KeepsBut old new part = OthersKeep part.part_shape part.index_named (element_at old) (element_at new)

  -- Says that the precondition `asks` of a task holds of all views of two parts.
  abbrev pub AsksOfParts : (PlacedArray A → PlacedArray A → Type 0) → ArrayBase S D T A R s d n r t → Part → Part → Type 0
  AsksOfParts asks a one two = (v0 v1 : PlacedArray A) → IsViewOfPart a one v0 → IsViewOfPart a two v1 → asks v0 v1

  -- Says that the task is done: its postcondition `done` holds of views of both parts of `old`, and of views of both
  -- parts of `new`.
  abbrev pub IsDoneOnParts : (PlacedArray A → PlacedArray A → PlacedArray A → PlacedArray A → Type 0) → ArrayBase S D T A R s d n r t → ArrayBase S D T A R s d n r t → Part → Part → Type 0
  IsDoneOnParts done old new one two =
      (v0 : PlacedArray A)
      × (v1 : PlacedArray A)
      × (w0 : PlacedArray A)
      × (w1 : PlacedArray A)
      × IsViewOfPart old one v0
      × IsViewOfPart old two v1
      × done v0 v1 w0 w1
      × IsViewOfPart new one w0
      × IsViewOfPart new two w1

  -- Says that `new` has the element of `old` at each index that no index of either part stands for.
  abbrev pub KeepsButTwo : ArrayBase S D T A R s d n r t → ArrayBase S D T A R s d n r t → Part → Part → Type 0
  KeepsButTwo old new one two = OthersKeepTwo one.part_shape one.index_named two.part_shape two.index_named (element_at old) (element_at new)

  -- Says that the precondition `asks` of a task holds of each view of the whole array.
  abbrev pub AsksOfWhole : (PlacedArray A → Type 0) → ArrayBase S D T A R s d n r t → Type 0
  AsksOfWhole asks a = (v : PlacedArray A) → IsViewOf (shape_of a) (place_at a) (element_at a) v → asks v

  -- Says that the task is done: its postcondition `done` holds of a view of `old`, of a view of `new`, and of its
  -- answer.
  abbrev pub IsDoneOnWhole : {Q : Type 0} → (PlacedArray A → PlacedArray A → Q → Type 0) → Q → ArrayBase S D T A R s d n r t → ArrayBase S D T A R s d n r t → Type 0
  IsDoneOnWhole done answer old new =
      (v : PlacedArray A)
      × (w : PlacedArray A)
      × IsViewOf (shape_of old) (place_at old) (element_at old) v
      × IsViewOf (shape_of new) (place_at new) (element_at new) w
      × done v w answer

  -- Says that the precondition `asks` of a task holds of all views of the two parts of `a` at the coordinates of `axis`
  -- below `k` and from `k` on.
  abbrev pub AsksOfHalves : (PlacedArray A → PlacedArray A → Type 0) → ArrayBase S D T A R s d n r t → ℕ → ℕ → Type 0
  AsksOfHalves asks a axis k = AsksOfParts asks a (lower_part a axis k) (upper_part a axis k)

  -- Says that the task is done: its postcondition `done` holds of views of the two parts at the coordinates of `axis`
  -- below `k` and from `k` on, first of `old` and then of `new`, and of its answer.
  abbrev pub IsDoneOnHalves : {Q : Type 0} → (PlacedArray A → PlacedArray A → PlacedArray A → PlacedArray A → Q → Type 0) → Q → ArrayBase S D T A R s d n r t → ArrayBase S D T A R s d n r t → ℕ → ℕ → Type 0
  IsDoneOnHalves done answer old new axis k = IsDoneOnParts (λ v0 v1 w0 w1. done v0 v1 w0 w1 answer) old new (lower_part old axis k) (upper_part old axis k)

  -- Says that the precondition `asks` of a task holds of all views of the parts that two lists of slices select.
  abbrev pub AsksOfSlices : (PlacedArray A → PlacedArray A → Type 0) → ArrayBase S D T A R s d n r t → List SliceInfoElem → List SliceInfoElem → Type 0
  AsksOfSlices asks a one two = AsksOfParts asks a (sliced_part a one) (sliced_part a two)

  -- Says that the task is done: its postcondition `done` holds of views of the parts that two lists of slices select,
  -- first of `old` and then of `new`, and of its answer.
  abbrev pub IsDoneOnSlices : {Q : Type 0} → (PlacedArray A → PlacedArray A → PlacedArray A → PlacedArray A → Q → Type 0) → Q → ArrayBase S D T A R s d n r t → ArrayBase S D T A R s d n r t → List SliceInfoElem → List SliceInfoElem → Type 0
  IsDoneOnSlices done answer old new one two = IsDoneOnParts (λ v0 v1 w0 w1. done v0 v1 w0 w1 answer) old new (sliced_part old one) (sliced_part old two)

  -- Says that `new` has the element of `old` at each index that neither of two lists of slices selects.
  abbrev pub KeepsButSlices : ArrayBase S D T A R s d n r t → ArrayBase S D T A R s d n r t → List SliceInfoElem → List SliceInfoElem → Type 0
  KeepsButSlices old new one two = KeepsButTwo old new (sliced_part old one) (sliced_part old two)

  -- Says that none of three lists of slices selects the index `i` of the array.
  abbrev pub NoneOfThreeNames : ArrayBase S D T A R s d n r t → List SliceInfoElem → List SliceInfoElem → List SliceInfoElem → List ℕ → Type 0
  NoneOfThreeNames old one two three i = NamesNot (sliced_part old one) i × NamesNot (sliced_part old two) i × NamesNot (sliced_part old three) i

  -- Says that none of four lists of slices selects the index `i` of the array.
  abbrev pub NoneOfFourNames : ArrayBase S D T A R s d n r t → List SliceInfoElem → List SliceInfoElem → List SliceInfoElem → List SliceInfoElem → List ℕ → Type 0
  NoneOfFourNames old one two three four i = NamesNot (sliced_part old one) i × NamesNot (sliced_part old two) i × NamesNot (sliced_part old three) i × NamesNot (sliced_part old four) i

  -- Says that `new` has the element of `old` at each index that none of three lists of slices selects.
  abbrev pub KeepsButThreeSlices : ArrayBase S D T A R s d n r t → ArrayBase S D T A R s d n r t → List SliceInfoElem → List SliceInfoElem → List SliceInfoElem → Type 0
  KeepsButThreeSlices old new one two three = (i : List ℕ) → NoneOfThreeNames old one two three i → element_at new i ≡ element_at old i

  -- Says that `new` has the element of `old` at each index that none of four lists of slices selects.
  abbrev pub KeepsButFourSlices : ArrayBase S D T A R s d n r t → ArrayBase S D T A R s d n r t → List SliceInfoElem → List SliceInfoElem → List SliceInfoElem → List SliceInfoElem → Type 0
  KeepsButFourSlices old new one two three four = (i : List ℕ) → NoneOfFourNames old one two three four i → element_at new i ≡ element_at old i

  -- Says that `a` has the element `x` at each index that an index of the part stands for.
  abbrev pub IsFilledWith : ArrayBase S D T A R s d n r t → Part → A → Type 0
  IsFilledWith a part x = (i : List ℕ) → IsTrue (in_box part.part_shape i) → element_at a (part.index_named i) ≡ Some x
