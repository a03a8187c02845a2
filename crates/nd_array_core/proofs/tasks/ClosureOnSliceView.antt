-- A task on a view of a slice, by the layout that a shape of the caller's asks for.
use Rattle.nd_array_core.proofs.NamesFromOtherCrates.{ℕ, true, List, length, refl, ap, sym, ◌∙◌, arith, Option, slice_get, size_of, place_of, there_is_some, IsValid, place_number, stored_at, inside, OthersStay, Placement}
use Rattle.nd_array_core.specs.ArrayInStorage.{PlacedArray}
use Rattle.nd_array_core.specs.base.ConstructorErrorsAndLayout.{IsLaidOut}
use Rattle.nd_array_core.specs.scoped.ViewTasks.{LiesBy, IsViewOf}
use Rattle.nd_array_core.specs.scoped.SlicesLentAsViews.{GivenShape, place_in_slice, IsViewOfSlice}
use Rattle.nd_array_core.proofs.base_lemmas.ConstructorLayout.{laid_holds, laid_at}

module _ {A : Type 0} (xs : List A) (given : GivenShape) (l : Placement) (laid : IsLaidOut given.0 given.1 given.2 true (length xs) l) where
  -- the slice has an element for each index, and no two share one
  pub slice_sound : IsValid l.offset l.lengths l.strides → LiesBy (slice_get xs) l
  slice_sound valid = record {
    valid = valid;
    holds = laid_holds (slice_get xs) (length xs) (there_is_some xs) l laid.holds;
    own_places = λ some. laid.own_places refl (let e = ap size_of laid.lengths_are in omega (arith, some, e));
  }

  -- what is seen by the layout is what the shape says, of this slice and of it with other elements
  pub seen_in_slice : (ys : List A) (v : PlacedArray A) → IsViewOf l.lengths (λ i. inside l.lengths i (place_number (place_of l.offset l.strides i))) (λ i. inside l.lengths i (stored_at (slice_get ys) (place_of l.offset l.strides i))) v → IsViewOfSlice ys given v
  seen_in_slice ys v view = record {
    same_shape = view.same_shape ∙ laid.lengths_are;
    same_place = λ i. view.same_place i ∙ laid_at laid place_number i;
    same_element = λ i. view.same_element i ∙ laid_at laid (stored_at (slice_get ys)) i;
  }

  pub unseen_kept : (old new : ℕ → Option A) → OthersStay (λ i. inside l.lengths i (place_number (place_of l.offset l.strides i))) old new → OthersStay (place_in_slice given) old new
  unseen_kept old new others p none = others p (λ i e. none i (sym (laid_at laid place_number i) ∙ e))
