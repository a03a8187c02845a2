-- An array after a part of it that a list of slices selects was assigned from another array, or changed by a closure.
use Rattle.std.specs.Prelude.{◌≡◌, ◌⊎◌, ℕ, zero, suc, ◌-◌, ◌/◌, ℤ, pos, negsuc, List, [], ◌∷◌, Option, IsTrue}
use Rattle.std.specs.Borrow.{MutBor}
use Rattle.std.specs.Fn.{Mut}
use Rattle.std.specs.Option.{option_map}
use Rattle.nd_shape_and_slice.specs.ShapesAndIndexOrders.{in_box}
use Rattle.nd_shape_and_slice.specs.Slice.{low_of, high_of}
use Rattle.nd_shape_and_slice.specs.SliceInfo.{shape_after, index_before}
use Rattle.nd_shape_and_slice.specs.IndexesNamedBySlices.{names_index}
use Rattle.nd_shape_and_slice.specs.declared.slice_info.SliceInfoElem.{SliceInfoElem}
use Rattle.nd_shape_and_slice.specs.declared.slice_info.SliceInfoElem.TheVariants.{Slice as Part, Index, NewAxis}
use Rattle.nd_shape_and_slice.specs.declared.dimension.Dimension as dimension
use Rattle.nd_shape_and_slice.specs.declared.dimension.AxisCount as axis_count
use Rattle.nd_shape_and_slice.specs.declared.dimension.StrideList as stride_list
use Rattle.nd_elements.specs.declared.storage.Data as data_trait
use Rattle.nd_elements.specs.ShapeAndElements.{inside}
use Rattle.nd_elements.specs.elements.ElementChanges.{ChangeableInAnyOrder, ChangesAll, ChangesBy, ChangesAlike}
use Rattle.nd_array_core.specs.declared.base.array.ArrayBase.{ArrayBase}
use Rattle.nd_array_core.specs.ArrayMeaning.{shape_of, element_at}
use Rattle.nd_elements.specs.elements.PairsWithOneWritten.{IsOldOrOf}
use Rattle.nd_region.specs.declared.divided_mutable_borrow.Region.{Region}
use Rattle.nd_elements.specs.declared.storage.RegionRepr.{RegionRepr}
use Rattle.nd_array_core.specs.declared.scoped.with_view_mut.LentView.{LentView}
use Rattle.nd_array_core.specs.ArrayInStorage.{element_placed}
use Rattle.nd_array_core.specs.scoped.ViewTasks.{lent_view, view_left}

-- ---- The index of a part that stands for an index of the array.
-- Returns the coordinate within a slice that stands for the coordinate `c` of the axis: the number of steps to it, up
-- from `low`, or down from `high - 1` where the step is negative.
abbrev pub coordinate_after : ℤ → ℕ → ℕ → ℕ → ℕ
coordinate_after (pos zero) low high c = 0
coordinate_after (pos (suc zero)) low high c = c - low
coordinate_after (pos (suc (suc k))) low high c = (c - low) / suc (suc k)
coordinate_after (negsuc d) low high c = (high - 1 - c) / suc d

-- Returns the index within the part that the list of slices selects that stands for an index of the array; a new axis
-- has the coordinate 0.
abbrev pub index_after : List ℕ → List SliceInfoElem → List ℕ → List ℕ
index_after ns [] is = []
index_after [] (Part start end step ∷ es) is = []
index_after (n ∷ ns) (Part start end step ∷ es) [] = []
index_after (n ∷ ns) (Part start end step ∷ es) (i ∷ is) = coordinate_after step (low_of n (record { start = start; end = end; step = step })) (high_of n (record { start = start; end = end; step = step })) i ∷ index_after ns es is
index_after [] (Index k ∷ es) is = []
index_after (n ∷ ns) (Index k ∷ es) [] = []
index_after (n ∷ ns) (Index k ∷ es) (i ∷ is) = index_after ns es is
index_after [] (NewAxis ∷ es) is = 0 ∷ index_after [] es is
index_after (n ∷ ns) (NewAxis ∷ es) is = 0 ∷ index_after (n ∷ ns) es is

module _ {S D T A R : Type 0} {s : data_trait.Ghosts S A} {d : dimension.Ghosts D R} {n : axis_count.Ghosts D} {r : stride_list.Ghosts R} {t : stride_list.Ghosts T} where
  -- Returns the element of `a` for the index `i` of the part that `slices` select of `old`.
  abbrev pub seen_in_part : ArrayBase S D T A R s d n r t → List SliceInfoElem → ArrayBase S D T A R s d n r t → List ℕ → Option A
  seen_in_part old slices a i = inside (shape_after (shape_of old) slices) i (element_at a (index_before (shape_of old) slices i))

  module _ {F : Type 0} (g : Mut F (MutBor A × Unit {0}) (Unit {0} × (MutBor A × Unit {0}))) where
    -- Says that the closure may be called for each element of the part, whichever of them it changed before.
    abbrev pub ChangeableInPart : ArrayBase S D T A R s d n r t → List SliceInfoElem → F → Type 0
    ChangeableInPart a slices f = ChangeableInAnyOrder g (shape_after (shape_of a) slices) (seen_in_part a slices a) f

    -- Says that one call of the closure for each index of the part, in some order, made the elements of `new` of those
    -- of `old`.
    abbrev pub ChangesPart : ArrayBase S D T A R s d n r t → ArrayBase S D T A R s d n r t → List SliceInfoElem → F → Type 0
    ChangesPart old new slices f = ChangesAll g (shape_after (shape_of old) slices) (seen_in_part old slices old) (seen_in_part old slices new) f

    -- Says that, if the closure leaves `h` of each element and stays as it is, `new` has `h` of the element of `old` at
    -- each index that `slices` select.
    abbrev pub ChangesNamed : ArrayBase S D T A R s d n r t → ArrayBase S D T A R s d n r t → List SliceInfoElem → F → Type 0
    ChangesNamed old new slices f = (h : A → A) → ChangesBy g h f → (i : List ℕ) → IsTrue (in_box (shape_of old) i) → IsTrue (names_index (shape_of old) slices i) → element_at new i ≡ option_map h (element_at old i)

module _
    {S D T A R : Type 0} {s : data_trait.Ghosts S A} {d : dimension.Ghosts D R} {n : axis_count.Ghosts D} {r : stride_list.Ghosts R} {t : stride_list.Ghosts T}
    {Z E U X : Type 0} {z : data_trait.Ghosts Z A} {e : dimension.Ghosts E X} {k : axis_count.Ghosts E} {x : stride_list.Ghosts X} {u : stride_list.Ghosts U} where
  -- Says that `patch` has the shape of the part of `a` that `slices` select.
  abbrev pub FitsPart : ArrayBase S D T A R s d n r t → List SliceInfoElem → ArrayBase Z E U A X z e k x u → Type 0
  FitsPart a slices patch = shape_of patch ≡ shape_after (shape_of a) slices

  -- Says that `new` has the element of `patch` at each index of the part. The search for proofs doesn't unfold this
  -- definition: together with `AssignsNamed` it would go from the array to the patch and back without end.
  unfoldable pub AssignsPart : ArrayBase S D T A R s d n r t → ArrayBase S D T A R s d n r t → List SliceInfoElem → ArrayBase Z E U A X z e k x u → Type 0
  AssignsPart old new slices patch = (i : List ℕ) → IsTrue (in_box (shape_after (shape_of old) slices) i) → element_at new (index_before (shape_of old) slices i) ≡ element_at patch i

  -- Says that `new` has at each index of the part the element of `old` or that of `patch`.
  abbrev pub AssignsPartly : ArrayBase S D T A R s d n r t → ArrayBase S D T A R s d n r t → List SliceInfoElem → ArrayBase Z E U A X z e k x u → Type 0
  AssignsPartly old new slices patch = (i : List ℕ) → IsTrue (in_box (shape_after (shape_of old) slices) i) → (element_at new (index_before (shape_of old) slices i) ≡ element_at old (index_before (shape_of old) slices i)) ⊎ (element_at new (index_before (shape_of old) slices i) ≡ element_at patch i)

  -- Says that `new` has, at each index that `slices` select, the element of `patch` at the index that stands for it.
  abbrev pub AssignsNamed : ArrayBase S D T A R s d n r t → ArrayBase S D T A R s d n r t → List SliceInfoElem → ArrayBase Z E U A X z e k x u → Type 0
  AssignsNamed old new slices patch = (i : List ℕ) → IsTrue (in_box (shape_of old) i) → IsTrue (names_index (shape_of old) slices i) → element_at new i ≡ element_at patch (index_after (shape_of old) slices i)

-- ---- A view as it is lent, and after its elements are given back.
module _ {A D T : Type 0} (lengths : D → List ℕ) (strides : T → List ℤ) (at : List ℕ → Option A) (l : LentView A D T) (back : RegionRepr (Region A)) where
  -- Says that the lent view `l`, with its elements given back as `back`, has `at i` at each index `i`.
  abbrev pub IsShown : Type 0
  IsShown = (i : List ℕ) → element_placed (view_left lengths strides l back) i ≡ at i

  -- Says that the lent view `l`, with its elements given back as `back`, has at each index `i` its old element or `at
  -- i`.
  abbrev pub IsOldOr : Type 0
  IsOldOr = IsOldOrOf (element_placed (lent_view lengths strides l)) at (element_placed (view_left lengths strides l back))

module _ {F A D T : Type 0} (g : Mut F (MutBor A × Unit {0}) (Unit {0} × (MutBor A × Unit {0}))) (lengths : D → List ℕ) (strides : T → List ℤ) (l : LentView A D T) where
  -- Says that the closure may be called for each element of the lent view, whichever of them it changed before.
  abbrev pub MayChangeView : F → Type 0
  MayChangeView f = ChangeableInAnyOrder g (lent_view lengths strides l).placed_shape (element_placed (lent_view lengths strides l)) f

  -- Says that one call of the closure for each element of the lent view, in some order, left the elements given back.
  abbrev pub ChangesView : RegionRepr (Region A) → F → Type 0
  ChangesView back f = ChangesAll g (lent_view lengths strides l).placed_shape (element_placed (lent_view lengths strides l)) (element_placed (view_left lengths strides l back)) f

  -- Says that, whatever function of the element the closure computes, the elements given back are the values of this
  -- function.
  abbrev pub ChangesViewAlike : RegionRepr (Region A) → F → Type 0
  ChangesViewAlike back f = ChangesAlike g f (element_placed (lent_view lengths strides l)) (element_placed (view_left lengths strides l back))
