-- What a slice ends as, once a mutable view of its elements is over.
use Rattle.std.specs.Prelude.{ℕ, zero, List, [], ◌∷◌, ◌++◌, drop, Result}
use Rattle.std.specs.Borrow.{Fml, GName, RattleType, MutBor, Array, follows, follows_if, name_if_ok}
use Rattle.std.specs.Simd.{first_chunks}
use Rattle.nd_region.specs.declared.divided_mutable_borrow.Region.{Region}
use Rattle.nd_shape_and_slice.specs.declared.dimension.Dimension as dimension
use Rattle.nd_shape_and_slice.specs.declared.dimension.AxisCount as axis_count
use Rattle.nd_shape_and_slice.specs.declared.dimension.StrideList as stride_list
use Rattle.nd_elements.specs.declared.storage.Data as data_trait
use Rattle.nd_elements.specs.declared.storage.RegionRepr.{RegionRepr}
use Rattle.nd_array_core.specs.declared.base.array.ArrayBase.{ArrayBase}
use Rattle.nd_array_core.specs.ArrayMeaning.{storage_of, shape_of}
use Rattle.nd_array_core.specs.layout.ArrayAfterMutableView.{tie_of}

module _ {A D T R : Type 0} {s : data_trait.Ghosts (RegionRepr (Region A)) A} {d : dimension.Ghosts D R} {n : axis_count.Ghosts D} {r : stride_list.Ghosts R} {t : stride_list.Ghosts T} where
  -- Returns the name under which the region of a mutable view holds its elements.
  abbrev pub view_name : ArrayBase (RegionRepr (Region A)) D T A R s d n r t → GName
  view_name a = (storage_of a).region.name

module _ (E : RattleType) {D T R V : Type 0} {s : data_trait.Ghosts (RegionRepr (Region E.Denot)) E.Denot} {d : dimension.Ghosts D R} {n : axis_count.Ghosts D} {r : stride_list.Ghosts R} {t : stride_list.Ghosts T} where
  -- Says that the slice ends with the elements of the view's region, and ends as it was where there is no view.
  abbrev pub slice_follows_view : MutBor (List E.Denot) → Result (ArrayBase (RegionRepr (Region E.Denot)) D T E.Denot R s d n r t) V → Fml
  slice_follows_view xs view = follows_if (Array E 0) (Array E 0) xs.ghost_name (name_if_ok view_name view) (λ ws. ws) xs.now

-- Returns the number of rows of a shape: the length of its first axis, or 0 without axes.
abbrev pub row_count : List ℕ → ℕ
row_count [] = zero
row_count (n ∷ ns) = n

-- Returns the rows with the first `k` of them replaced by rows of `n` elements each, which are the elements `ws` one
-- row after the other.
abbrev pub rows_rewritten : {X : Type 0} → ℕ → ℕ → List (List X) → List X → List (List X)
rows_rewritten n k rows ws = first_chunks n k ws ++ drop k rows

module _ (E : RattleType) {D T R : Type 0} {s : data_trait.Ghosts (RegionRepr (Region E.Denot)) E.Denot} {d : dimension.Ghosts D R} {n : axis_count.Ghosts D} {r : stride_list.Ghosts R} {t : stride_list.Ghosts T} where
  -- Says that the rows that the view shows end with the elements of its region, and all other rows end as they were.
  abbrev pub rows_follow_view : (m : ℕ) → MutBor (List (List E.Denot)) → ArrayBase (RegionRepr (Region E.Denot)) D T E.Denot R s d n r t → Fml
  rows_follow_view m rows view = follows (Array (Array E m) 0) (Array E 0) rows.ghost_name (view_name view) (rows_rewritten m (row_count (shape_of view)) rows.now)

-- Returns the rows with the first `k` of them replaced by the rows `ws`.
abbrev pub rows_left : {X : Type 0} → ℕ → List X → List X → List X
rows_left k rows ws = ws ++ drop k rows

module _ (E : RattleType) {D T R : Type 0} {s : data_trait.Ghosts (RegionRepr (Region E.Denot)) E.Denot} {d : dimension.Ghosts D R} {n : axis_count.Ghosts D} {r : stride_list.Ghosts R} {t : stride_list.Ghosts T} where
  -- Says that an array of `count` rows ends with some rows in place of those that the view shows, and with all other
  -- rows as they were.
  abbrev pub row_array_follows_view : (count m : ℕ) → MutBor (List (List E.Denot)) → ArrayBase (RegionRepr (Region E.Denot)) D T E.Denot R s d n r t → Fml
  row_array_follows_view count m rows view = follows (Array (Array E m) count) (Array (Array E m) count) rows.ghost_name (tie_of view) (rows_left (row_count (shape_of view)) rows.now)
