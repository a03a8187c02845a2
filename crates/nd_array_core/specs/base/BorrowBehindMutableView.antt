-- What the borrow behind a mutable view ends as, once a reference that lives as long as the borrow is over.
use Rattle.std.specs.Prelude.{◌≡◌, ℕ, false, List, Option, Some, None, MatchOption, slice_set}
use Rattle.std.specs.Option.{ghost_name_of}
use Rattle.std.specs.Borrow.{Fml, RattleType, MutBor, Array, follows, follows_if}
use Rattle.nd_shape_and_slice.specs.ShapesAndIndexOrders.{in_box}
use Rattle.nd_shape_and_slice.specs.declared.dimension.Dimension as dimension
use Rattle.nd_shape_and_slice.specs.declared.dimension.AxisCount as axis_count
use Rattle.nd_shape_and_slice.specs.declared.dimension.StrideList as stride_list
use Rattle.nd_region.specs.declared.divided_mutable_borrow.Region.{Region}
use Rattle.nd_elements.specs.declared.storage.Data as data_trait
use Rattle.nd_elements.specs.declared.storage.RegionRepr.{RegionRepr}
use Rattle.nd_array_core.specs.declared.base.array.ArrayBase.{ArrayBase}
use Rattle.nd_array_core.specs.ArrayMeaning.{shape_of, element_at, place_at, storage_of}

-- Returns the list with `x` as the item at the given place, and the list itself where no place is given.
abbrev pub with_item_at : {A : Type 0} → List A → Option ℕ → A → List A
with_item_at xs None x = xs
with_item_at xs (Some p) x = slice_set xs p x

module _ {A D T R : Type 0} {s : data_trait.Ghosts (RegionRepr (Region A)) A} {d : dimension.Ghosts D R} {n : axis_count.Ghosts D} {r : stride_list.Ghosts R} {t : stride_list.Ghosts T} where
  -- Returns the region that a mutable view holds.
  abbrev pub region_of : ArrayBase (RegionRepr (Region A)) D T A R s d n r t → Region A
  region_of v = (storage_of v).region

  -- Returns the elements of the region that a mutable view holds, with `x` at the index `i`.
  abbrev pub items_with : ArrayBase (RegionRepr (Region A)) D T A R s d n r t → List ℕ → A → List A
  items_with v i x = with_item_at (region_of v).items (place_at v i) x

  -- Says that `found` is a reference to the element at the index `i`, or is None and the index is outside the shape.
  abbrev pub IsElementOrOutside : ArrayBase (RegionRepr (Region A)) D T A R s d n r t → List ℕ → Option (MutBor A) → Type 0
  IsElementOrOutside v i found = MatchOption found (in_box (shape_of v) i ≡ false) (λ x. element_at v i ≡ Some x.now)

module _ (A : RattleType) {D T R : Type 0} {s : data_trait.Ghosts (RegionRepr (Region A.Denot)) A.Denot} {d : dimension.Ghosts D R} {n : axis_count.Ghosts D} {r : stride_list.Ghosts R} {t : stride_list.Ghosts T} where
  -- Says that the borrow behind the view ends with what is left behind the reference `x` at the place of the index `i`,
  -- and with what it held at every other place.
  abbrev pub follows_index : ArrayBase (RegionRepr (Region A.Denot)) D T A.Denot R s d n r t → List ℕ → MutBor A.Denot → Fml
  follows_index v i x = follows (Array A 0) A (region_of v).name x.ghost_name (items_with v i)

  -- Says that the borrow behind the view ends with what is left behind the reference `x` at the place of the index `i`,
  -- if there is a reference, and with what it held at every other place.
  abbrev pub may_follow_index : ArrayBase (RegionRepr (Region A.Denot)) D T A.Denot R s d n r t → List ℕ → Option (MutBor A.Denot) → Fml
  may_follow_index v i x = follows_if (Array A 0) A (region_of v).name (ghost_name_of x) (items_with v i) (region_of v).items
