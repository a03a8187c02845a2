-- An array that is copied into a part of another, broadcast to its shape; parts that are filled; and what a task did
-- with a view that it was lent, in terms of the view and of the storage that it gives back.
use Rattle.std.specs.Prelude.{◌≡◌, ◌⊎◌, ℕ, ℤ, List, Some, IsTrue}
use Rattle.nd_array_core.specs.declared.base.array.ArrayBase.{ArrayBase}
use Rattle.nd_array_core.specs.declared.scoped.with_view_mut.LentView.{LentView}
use Rattle.nd_array_core.specs.Prelude.{meaning_of, shape_of, element_at, element_placed, in_box, shape_after, index_before, broadcasts, broadcast_at}
use Rattle.nd_array_core.specs.Prelude.{SliceInfoElem, MayLackForClone, LiesByRank, sliced_part, IsFilledWith, IsShown, IsOldOr, lent_view, view_left, view_frame}

-- The type of what the function `f` takes.
abbrev pub ArgumentOf : {X Y : Type 0} → (X → Y) → Type 0
ArgumentOf {X = X} f = X

-- The type of the storage that a task gives back.
abbrev pub GivenBack : Type 0 → Type 0
GivenBack A = ArgumentOf (view_frame {A = A})

module _ {S D A T R : Type 0} {s : _} {d : _} {n : _} {r : _} {t : _} where
  -- Says that each index of the part that a list of slices names has the element `x`.
  abbrev pub FillsPart : ArrayBase S D T A R s d n r t → ArrayBase S D T A R s d n r t → List SliceInfoElem → A → Type 0
  FillsPart old new slices x = IsFilledWith new (sliced_part old slices) x

module _ {S D T A R : Type 0} {s : _} {d : _} {n : _} {r : _} {t : _} {Z E U X : Type 0} {z : _} {e : _} {k : _} {x : _} {u : _} where
  -- Says that the source can be broadcast to the shape of the part that a list of slices names.
  abbrev pub BroadcastsToPart : ArrayBase S D T A R s d n r t → List SliceInfoElem → ArrayBase Z E U A X z e k x u → Type 0
  BroadcastsToPart a slices source = IsTrue (broadcasts (shape_of source) (shape_after (shape_of a) slices))

  -- Says that each index of the part has the element of the source, broadcast to the part's shape.
  abbrev pub PastesPart : ArrayBase S D T A R s d n r t → ArrayBase S D T A R s d n r t → List SliceInfoElem → ArrayBase Z E U A X z e k x u → Type 0
  PastesPart old new slices source = (i : List ℕ) → IsTrue (in_box (shape_after (shape_of old) slices) i) → element_at new (index_before (shape_of old) slices i) ≡ broadcast_at (shape_after (shape_of old) slices) (meaning_of source) i

  -- Says that each index of the part has its old element or that of the source, broadcast to the part's shape.
  abbrev pub PastesPartly : ArrayBase S D T A R s d n r t → ArrayBase S D T A R s d n r t → List SliceInfoElem → ArrayBase Z E U A X z e k x u → Type 0
  PastesPartly old new slices source = (i : List ℕ) → IsTrue (in_box (shape_after (shape_of old) slices) i) → (element_at new (index_before (shape_of old) slices i) ≡ element_at old (index_before (shape_of old) slices i)) ⊎ (element_at new (index_before (shape_of old) slices i) ≡ broadcast_at (shape_after (shape_of old) slices) (meaning_of source) i)

  -- Says that the clone of some element that goes into the part may be refused.
  abbrev pub MayLackForPart : (A → Type 0) → ArrayBase S D T A R s d n r t → List SliceInfoElem → ArrayBase Z E U A X z e k x u → Type 0
  MayLackForPart is_infallible a slices source = MayLackForClone is_infallible (broadcast_at (shape_after (shape_of a) slices) (meaning_of source))

-- A view that is lent, where `lengths` and `strides` give the lists of its dimension and of its strides.
module _ {V W : Type 0} (lengths : V → List ℕ) (strides : W → List ℤ) where
  module _ {Z E U A X : Type 0} {z : _} {e : _} {k : _} {x : _} {u : _} where
    -- Says that the array can be broadcast to the view's shape.
    abbrev pub BroadcastsToView : ArrayBase Z E U A X z e k x u → LentView A V W → Type 0
    BroadcastsToView source l = IsTrue (broadcasts (shape_of source) (lent_view lengths strides l).placed_shape)

    -- Says that the view shows afterwards the array broadcast to its shape.
    abbrev pub IsPastedIn : ArrayBase Z E U A X z e k x u → LentView A V W → GivenBack A → Type 0
    IsPastedIn source l back = IsShown lengths strides (broadcast_at (lent_view lengths strides l).placed_shape (meaning_of source)) l back

    -- Says that each index of the view has afterwards its old element or that of the array, broadcast to the view's
    -- shape.
    abbrev pub IsPartlyIn : ArrayBase Z E U A X z e k x u → LentView A V W → GivenBack A → Type 0
    IsPartlyIn source l back = IsOldOr lengths strides (broadcast_at (lent_view lengths strides l).placed_shape (meaning_of source)) l back

    -- Says that the clone of some element that the view is to show may be refused.
    abbrev pub MayLackInView : (A → Type 0) → ArrayBase Z E U A X z e k x u → LentView A V W → Type 0
    MayLackInView is_infallible source l = MayLackForClone is_infallible (broadcast_at (lent_view lengths strides l).placed_shape (meaning_of source))

  module _ {A : Type 0} where
    -- Says that the view's elements lie one after another by their row-major rank.
    abbrev pub IsViewByRank : LentView A V W → Type 0
    IsViewByRank l = LiesByRank (lent_view lengths strides l).placed_shape (lent_view lengths strides l).place

    -- Says that each index of the view has the value `x` afterwards.
    abbrev pub IsBoxFilled : LentView A V W → GivenBack A → A → Type 0
    IsBoxFilled l back x = (i : List ℕ) → IsTrue (in_box (lent_view lengths strides l).placed_shape i) → element_placed (view_left lengths strides l back) i ≡ Some x

    -- Says that each index of the view has the element that it had.
    abbrev pub IsViewUnchanged : LentView A V W → GivenBack A → Type 0
    IsViewUnchanged l back = (i : List ℕ) → element_placed (view_left lengths strides l back) i ≡ element_placed (lent_view lengths strides l) i
