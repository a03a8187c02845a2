-- What an array is after a mutable view of a part of it has ended: itself, with other elements at the view's places.
use Rattle.std.specs.Prelude.{◌≡◌, ℕ, Bool, List, Option}
use Rattle.std.specs.Option.{is_some}
use Rattle.std.specs.Borrow.{Fml, RattleType, MutBor, GName, follows}
use Rattle.nd_shape_and_slice.specs.declared.dimension.Dimension as dimension
use Rattle.nd_shape_and_slice.specs.declared.dimension.AxisCount as axis_count
use Rattle.nd_shape_and_slice.specs.declared.dimension.StrideList as stride_list
use Rattle.nd_region.specs.declared.divided_mutable_borrow.Region.{Region}
use Rattle.nd_region.specs.RegionPlaces.{written_where}
use Rattle.nd_region.specs.Region.{region_stored}
use Rattle.nd_elements.specs.declared.storage.Data as data_trait
use Rattle.nd_elements.specs.declared.storage.RegionRepr.{RegionRepr}
use Rattle.nd_array_core.specs.declared.base.array.ArrayBase.{ArrayBase}
use Rattle.nd_elements.specs.ElementBorrowEnds.{KeepsPlaces}
use Rattle.nd_array_core.specs.base.ArrayAfterElementBorrow.{DimensionMembers, array_row, with_storage}
use Rattle.nd_elements.specs.WritesByIndex.{OthersStay}
use Rattle.nd_array_core.specs.ArrayMeaning.{shape_of, layout_strides, place_at, storage_of}
use Rattle.nd_array_core.specs.PartsOfArrays.{Part}
use Rattle.nd_array_core.specs.scoped.TasksOnParts.{KeepsBut}

module _ {S D A T R : Type 0} {s : data_trait.Ghosts S A} {d : dimension.Ghosts D R} {n : axis_count.Ghosts D} {r : stride_list.Ghosts R} {t : stride_list.Ghosts T} where
  -- Says that `new` is `old` but for its elements: the shape, the strides, the places, the places at which the storage
  -- holds something, and what `frame` reads of the storage are the same.
  abbrev pub IsRefilled : {F : Type 0} → (S → F) → ArrayBase S D T A R s d n r t → ArrayBase S D T A R s d n r t → Type 0
  IsRefilled frame old new =
      (shape_of new ≡ shape_of old)
      × (layout_strides new ≡ layout_strides old)
      × ((i : List ℕ) → place_at new i ≡ place_at old i)
      × ((p : ℕ) → is_some (s.stored (storage_of new) p) ≡ is_some (s.stored (storage_of old) p))
      × (frame (storage_of new) ≡ frame (storage_of old))

  -- Returns the array `a` with the elements of `ws` at the places of its storage that pass `test`; `items` reads all
  -- elements of a storage, and `refill` replaces them.
  unfoldable pub array_with_part : ((x : S) → List A → (y : S) × KeepsPlaces (s.stored x) (s.stored y)) → (S → List A) → ArrayBase S D T A R s d n r t → (ℕ → Bool) → List A → ArrayBase S D T A R s d n r t
  array_with_part refill items a test ws = with_storage a (refill a.storage (written_where test (items a.storage) ws))

  -- Says that the storage of `new` holds what that of `old` does at every place that `place` gives to no index.
  abbrev pub KeepsPlacesBut : (List ℕ → Option ℕ) → ArrayBase S D T A R s d n r t → ArrayBase S D T A R s d n r t → Type 0
  KeepsPlacesBut place old new = OthersStay place (s.stored (storage_of old)) (s.stored (storage_of new))

  -- Says that, whatever elements `ws` a mutable view ends with, the array `left ws` that it leaves is `old` but for its
  -- elements.
  abbrev pub LeavesRefilled : {F : Type 0} → (S → F) → ArrayBase S D T A R s d n r t → (List A → ArrayBase S D T A R s d n r t) → Type 0
  LeavesRefilled frame old left = (ws : List A) → IsRefilled frame old (left ws)

  -- Says that, whatever elements `ws` a mutable view ends with, the storage of `left ws` holds what that of `old` does
  -- at every place that `place` gives to no index.
  abbrev pub LeavesPlacesBut : (List ℕ → Option ℕ) → ArrayBase S D T A R s d n r t → (List A → ArrayBase S D T A R s d n r t) → Type 0
  LeavesPlacesBut place old left = (ws : List A) → KeepsPlacesBut place old (left ws)

  -- Says that, whatever elements `ws` a mutable view ends with, `left ws` has the element of `old` at every index that
  -- no index of `part` stands for.
  abbrev pub LeavesBut : ArrayBase S D T A R s d n r t → (List A → ArrayBase S D T A R s d n r t) → Part → Type 0
  LeavesBut old left part = (ws : List A) → KeepsBut old (left ws) part

module _ (S A D R : RattleType) (s : data_trait.Ghosts S.Denot A.Denot) (d : DimensionMembers D.Denot) (n : axis_count.Ghosts D.Denot) (r : stride_list.Ghosts R.Denot) where
  -- Says that the array `a` ends with the elements that the borrow `name` ends with at the places that pass `test`, and
  -- with its own elements of now at the others.
  abbrev pub array_follows_part : MutBor (array_row S A D R s d n r).Denot → GName → (ℕ → Bool) → Fml
  array_follows_part a name test = follows (array_row S A D R s d n r) (array_row S A D R s d n r) a.ghost_name name (λ w. array_with_part s.refilled s.items a.now test (s.items w.storage))

-- Returns whether the place `p` is lent to a mutable view with the storage `v`: this storage holds an element there.
unfoldable pub lent_to : {A : Type 0} → RegionRepr (Region A) → ℕ → Bool
lent_to v p = is_some (region_stored v.region p)

-- Returns the name under which the mutable view `v` is tied to the array that lends it.
abbrev pub tie_of : {D T A R : Type 0} {s : data_trait.Ghosts (RegionRepr (Region A)) A} {d : dimension.Ghosts D R} {n : axis_count.Ghosts D} {r : stride_list.Ghosts R} {t : stride_list.Ghosts T} → ArrayBase (RegionRepr (Region A)) D T A R s d n r t → GName
tie_of v = v.storage.tie.value

-- Returns whether a place is lent to the mutable view `v`.
abbrev pub lent_places : {D T A R : Type 0} {s : data_trait.Ghosts (RegionRepr (Region A)) A} {d : dimension.Ghosts D R} {n : axis_count.Ghosts D} {r : stride_list.Ghosts R} {t : stride_list.Ghosts T} → ArrayBase (RegionRepr (Region A)) D T A R s d n r t → ℕ → Bool
lent_places v = lent_to v.storage

module _
    {S D A T R : Type 0} {s : data_trait.Ghosts S A} {d : dimension.Ghosts D R} {n : axis_count.Ghosts D} {r : stride_list.Ghosts R} {t : stride_list.Ghosts T}
    {E U X : Type 0} {z : data_trait.Ghosts (RegionRepr (Region A)) A} {e : dimension.Ghosts E X} {k : axis_count.Ghosts E} {x : stride_list.Ghosts X} {u : stride_list.Ghosts U} where
  -- Returns the array `a` after its mutable view `v` has ended with the elements `ws`.
  abbrev pub left_by : ArrayBase S D T A R s d n r t → ArrayBase (RegionRepr (Region A)) E U A X z e k x u → List A → ArrayBase S D T A R s d n r t
  left_by a v ws = array_with_part s.refilled s.items a (lent_places v) ws
