-- The elements of two arrays in pairs: one to be written, and the one that the second array has at its index once it is
-- broadcast to the shape of the first.
use Rattle.std.specs.Prelude.{◌≡◌, ℕ, List, Option}
use Rattle.std.specs.Borrow.{Bor, MutBor}
use Rattle.std.specs.Fn.{Mut}
use Rattle.nd_shape_and_slice.specs.declared.dimension.Dimension as dimension
use Rattle.nd_shape_and_slice.specs.declared.dimension.AxisCount as axis_count
use Rattle.nd_shape_and_slice.specs.declared.dimension.StrideList as stride_list
use Rattle.nd_elements.specs.declared.storage.Data as data_trait
use Rattle.nd_array_core.specs.declared.base.array.ArrayBase.{ArrayBase}
use Rattle.nd_elements.specs.ShapeAndElements.{Meaning}
use Rattle.nd_array_core.specs.LayoutLaws.{broadcast_to}
use Rattle.nd_array_core.specs.ArrayMeaning.{meaning_of, shape_of, element_at}
pub use Rattle.nd_elements.specs.elements.PairsWithOneWritten.{ChangesWith, ChangesWithSomehow, IsOldOrOf, IsRewrittenTo, IsZippedTo, TakesBoth, TakesPairs, ZippableInAnyOrder, ZipsAll, ZipsBy, option_both}

-- Returns the element at an index of an array that is broadcast to the shape `to`.
abbrev pub broadcast_at : {A : Type 0} → List ℕ → Meaning A → List ℕ → Option A
broadcast_at to m = (broadcast_to to m).at

module _ {S D T A R : Type 0} {s : data_trait.Ghosts S A} {d : dimension.Ghosts D R} {n : axis_count.Ghosts D} {r : stride_list.Ghosts R} {t : stride_list.Ghosts T} where
  -- Says that the array, broadcast to the lengths `to`, shows the same elements as without the broadcast.
  abbrev pub IsItselfUnder : List ℕ → ArrayBase S D T A R s d n r t → Type 0
  IsItselfUnder to a = (i : List ℕ) → broadcast_at to (meaning_of a) i ≡ element_at a i

module _
    {S D T A R : Type 0} {s : data_trait.Ghosts S A} {d : dimension.Ghosts D R} {n : axis_count.Ghosts D} {r : stride_list.Ghosts R} {t : stride_list.Ghosts T}
    {Z E U B X : Type 0} {z : data_trait.Ghosts Z B} {e : dimension.Ghosts E X} {k : axis_count.Ghosts E} {x : stride_list.Ghosts X} {u : stride_list.Ghosts U} where
  -- Returns the element that `b` has at an index once it is broadcast to the shape of `a`.
  abbrev pub other_at : ArrayBase S D T A R s d n r t → ArrayBase Z E U B X z e k x u → List ℕ → Option B
  other_at a b = broadcast_at (shape_of a) (meaning_of b)

  -- Says that `c` has at each index what the function `h` gives of the elements of `a` and `b`, where `b` is broadcast
  -- to the shape of `a`.
  abbrev pub ShowsBoth : (A → B → A) → ArrayBase S D T A R s d n r t → ArrayBase Z E U B X z e k x u → ArrayBase S D T A R s d n r t → Type 0
  ShowsBoth h a b c = (i : List ℕ) → element_at c i ≡ option_both h (element_at a i) (other_at a b i)

  module _ {F : Type 0} (g : Mut F (MutBor A × (Bor B × Unit {0})) (Unit {0} × (MutBor A × Unit {0}))) where
    -- Says that, whichever elements of `a` were changed before, each with that of `b`, the closure may be called for
    -- the next pair.
    abbrev pub ZippableWith : ArrayBase S D T A R s d n r t → ArrayBase Z E U B X z e k x u → F → Type 0
    ZippableWith a b f = ZippableInAnyOrder g (shape_of a) (element_at a) (other_at a b) f

    -- Says that one call for each index, in some order, with the elements of `a` and `b` there, left the elements of
    -- `c`.
    abbrev pub ZipsWith : ArrayBase S D T A R s d n r t → ArrayBase Z E U B X z e k x u → ArrayBase S D T A R s d n r t → F → Type 0
    ZipsWith a b c f = ZipsAll g (shape_of a) (element_at a) (other_at a b) (element_at c) f
