-- What an array ends as, once a borrow of one of its elements is over.
use Rattle.std.specs.Prelude.{ℕ, List, Bool, Option, ℤ, pos, negsuc, nat_abs, IsTrue}
use Rattle.std.specs.Borrow.{Fml, RattleType, MutBor, Lends, LendsIf}
use Rattle.nd_shape_and_slice.specs.PlacesAndOverlaps.{place_of}
use Rattle.nd_shape_and_slice.specs.declared.dimension.Dimension as dimension
use Rattle.nd_shape_and_slice.specs.declared.dimension.AxisCount as axis_count
use Rattle.nd_shape_and_slice.specs.declared.dimension.StrideList as stride_list
use Rattle.nd_elements.specs.declared.storage.Data as data_trait
use Rattle.nd_array_core.specs.declared.base.array.ArrayBase.{ArrayBase}
use Rattle.nd_array_core.specs.contracts.base.array.ArrayBase.{the_row}
use Rattle.nd_elements.specs.StoragePlaces.{names_place}
use Rattle.nd_elements.specs.ElementBorrowEnds.{KeepsPlaces}

-- Each number at which `old` holds something is one at which `new` does too, if this is so for each place.
pub kept_names : {A : Type 0} (old new : ℕ → Option A) → KeepsPlaces old new → (z : ℤ) → IsTrue (names_place old z) → IsTrue (names_place new z)
kept_names old new kept (pos p) has = kept p has
kept_names old new kept (negsuc p) has = has

-- Says that, for every element `y`, `with_element x i y` is what `is_written` calls `x` with `y` written at the index
-- `i`.
abbrev pub IsAnyWritten : {X A : Type 0} → (X → List ℕ → A → X → Type 0) → (X → List ℕ → A → X) → X → List ℕ → Type 0
IsAnyWritten {X} {A} is_written with_element x i = (y : A) → is_written x i y (with_element x i y)

-- Says that `x` ends with what is left behind the reference `found` to the element at the index `i`, and ends as it is
-- now where there is no reference.
abbrev pub may_lend : (X A : RattleType) → MutBor X.Denot → (X.Denot → List ℕ → A.Denot → X.Denot) → List ℕ → Option (MutBor A.Denot) → Fml
may_lend X A x with_element i found = LendsIf X A x found (with_element x.now i) x.now

module _ {S D T A R : Type 0} {s : data_trait.Ghosts S A} {d : dimension.Ghosts D R} {n : axis_count.Ghosts D} {r : stride_list.Ghosts R} {t : stride_list.Ghosts T} where
  -- Returns the array with another storage, which holds something wherever the old one did.
  abbrev pub with_storage : (a : ArrayBase S D T A R s d n r t) → (x : S) × KeepsPlaces (s.stored a.storage) (s.stored x) → ArrayBase S D T A R s d n r t
  with_storage a x = record {
    storage = x.0;
    layout = a.layout;
    inside = λ i h. kept_names (s.stored a.storage) (s.stored x.0) x.1 (place_of a.layout.offset (t.strides_of a.layout.strides) i) (a.inside i h);
    separated = a.separated;
  }

  -- Returns the array with `x` as the element at the index `i`, where the function `set` writes it to the storage.
  unfoldable pub array_with_element : ((x : S) → ℕ → A → (y : S) × KeepsPlaces (s.stored x) (s.stored y)) → ArrayBase S D T A R s d n r t → List ℕ → A → ArrayBase S D T A R s d n r t
  array_with_element set a i x = with_storage a (set a.storage (nat_abs (place_of a.layout.offset (t.strides_of a.layout.strides) i)) x)

-- The members of a dimension that a clause has as `D.Dimension`.
abbrev pub DimensionMembers : Type 0 → Type 0
DimensionMembers D = record { NDIM : Option ℕ; lengths : D → List ℕ; has_axes : ℕ → Bool }

module _ (S A D R : RattleType) (s : data_trait.Ghosts S.Denot A.Denot) (d : DimensionMembers D.Denot) (n : axis_count.Ghosts D.Denot) (r : stride_list.Ghosts R.Denot) where
  -- The type of an array over the storage `S` with the dimension `D`.
  abbrev pub array_row : RattleType
  array_row = the_row S D R A R s (record { lengths = d.lengths; has_axes = d.has_axes }) n r r

  -- Says that the array ends with what is left behind the reference `x` to the element at the index `i`.
  abbrev pub lends_element : MutBor array_row.Denot → List ℕ → MutBor A.Denot → Fml
  lends_element a i x = Lends array_row A a x (array_with_element s.with_element a.now i)
