-- An array after a part of it was filled, or a lent view, also where a clone was refused on the way.
use Rattle.std.specs.Prelude.{◌≡◌, ◌⊎◌, ℕ, ℤ, List, false, Some, if◌then◌else◌, IsTrue}
use Rattle.nd_shape_and_slice.specs.ShapesAndIndexOrders.{in_box, size_of}
use Rattle.nd_shape_and_slice.specs.declared.dimension.Dimension as dimension
use Rattle.nd_shape_and_slice.specs.declared.dimension.AxisCount as axis_count
use Rattle.nd_shape_and_slice.specs.declared.dimension.StrideList as stride_list
use Rattle.nd_elements.specs.declared.storage.Data as data_trait
use Rattle.nd_array_core.specs.declared.base.array.ArrayBase.{ArrayBase}
use Rattle.nd_shape_and_slice.specs.declared.slice_info.SliceInfoElem.{SliceInfoElem}
use Rattle.nd_shape_and_slice.specs.IndexesNamedBySlices.{names_index}
use Rattle.nd_elements.specs.declared.storage.RegionRepr.{RegionRepr}
use Rattle.nd_array_core.specs.declared.scoped.with_view_mut.LentView.{LentView}
use Rattle.nd_region.specs.declared.divided_mutable_borrow.Region.{Region}
use Rattle.nd_array_core.specs.ArrayMeaning.{shape_of, element_at}
use Rattle.nd_elements.specs.ShapeAndElements.{inside}
use Rattle.nd_array_core.specs.PartsOfArrays.{Part}
use Rattle.nd_array_core.specs.ArrayInStorage.{element_placed}
use Rattle.nd_elements.specs.LackOfMemory.{MayLackForClones}
use Rattle.nd_elements.specs.WritesByIndex.{IsOldOrNew}
use Rattle.nd_array_core.specs.scoped.ViewTasks.{lent_view, view_left}

-- Says that the part has an index, and that a clone of the value `x` which fills it may be refused.
abbrev pub MayLackForFill : {A : Type 0} → (A → Type 0) → A → Part → Type 0
MayLackForFill is_infallible x part = MayLackForClones is_infallible x (size_of part.part_shape)

-- Here `lengths` and `strides` read the shape and the strides of a lent view.
module _ {A D T : Type 0} (lengths : D → List ℕ) (strides : T → List ℤ) where
  -- Says that the lent view `l` has `x` at each index once its elements are those of the storage `s`.
  abbrev pub IsViewFilled : LentView A D T → RegionRepr (Region A) → A → Type 0
  IsViewFilled l s x = (i : List ℕ) → element_placed (view_left lengths strides l s) i ≡ inside (lent_view lengths strides l).placed_shape i (Some x)

  -- Says that the lent view `l` has at each index its old element or `x` once its elements are those of the storage
  -- `s`.
  abbrev pub IsViewFilledInPart : LentView A D T → RegionRepr (Region A) → A → Type 0
  IsViewFilledInPart l s x = IsOldOrNew (lent_view lengths strides l).placed_shape (element_placed (lent_view lengths strides l)) x (element_placed (view_left lengths strides l s))

module _ {S D A T R : Type 0} {s : data_trait.Ghosts S A} {d : dimension.Ghosts D R} {n : axis_count.Ghosts D} {r : stride_list.Ghosts R} {t : stride_list.Ghosts T} where
  -- Says that `new` has, at each index that one of the part stands for, the element of `old` or `x`.
  abbrev pub IsOldOrFilled : ArrayBase S D T A R s d n r t → ArrayBase S D T A R s d n r t → Part → A → Type 0
  IsOldOrFilled old new part x = (i : List ℕ) → IsTrue (in_box part.part_shape i) → (element_at new (part.index_named i) ≡ element_at old (part.index_named i)) ⊎ (element_at new (part.index_named i) ≡ Some x)

  -- Says that `new` has `x` at each index that `slices` select, and the element of `old` at each other index.
  abbrev pub IsFilledWhere : ArrayBase S D T A R s d n r t → ArrayBase S D T A R s d n r t → List SliceInfoElem → A → Type 0
  IsFilledWhere old new slices x = (i : List ℕ) → IsTrue (in_box (shape_of old) i) → element_at new i ≡ (if names_index (shape_of old) slices i then Some x else element_at old i)

  -- Says that `new` has the element of `old` at each index that `slices` don't select.
  abbrev pub KeepsOtherIndexes : ArrayBase S D T A R s d n r t → ArrayBase S D T A R s d n r t → List SliceInfoElem → Type 0
  KeepsOtherIndexes old new slices = (i : List ℕ) → names_index (shape_of old) slices i ≡ false → element_at new i ≡ element_at old i

  -- Says that `new` has `x` at each index that `slices` select.
  abbrev pub FillsNamed : ArrayBase S D T A R s d n r t → ArrayBase S D T A R s d n r t → List SliceInfoElem → A → Type 0
  FillsNamed old new slices x = (i : List ℕ) → IsTrue (in_box (shape_of old) i) → IsTrue (names_index (shape_of old) slices i) → element_at new i ≡ Some x
