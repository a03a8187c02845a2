-- A view of a slice under a shape: its region holds the slice's elements, and each index shows the one that the shape says.
use Rattle.nd_array_core.proofs.NamesFromOtherCrates.{◌≡◌, ℕ, true, List, length, sym, ap, subst, ◌∙◌, slice_get, place_of, IsValid, given_place, Region, region_stored, IsWhole, stored_at, inside, Placement, whole_holds}
use Rattle.nd_array_core.specs.base.ConstructorErrorsAndLayout.{IsLaidOut}
use Rattle.nd_array_core.specs.scoped.ViewTasks.{LiesBy}
use Rattle.nd_array_core.specs.scoped.SlicesLentAsViews.{GivenShape}
use Rattle.nd_array_core.proofs.base_lemmas.ConstructorLayout.{laid_at}
use Rattle.nd_array_core.proofs.tasks.ClosureOnSliceView.{slice_sound}

module _ {A : Type 0} (xs : List A) (given : GivenShape) (l : Placement) (laid : IsLaidOut given.0 given.1 given.2 true (length xs) l) (r : Region A) (whole : IsWhole r xs) where
  -- what the region holds is what the slice holds
  holds_slice : region_stored r ≡ slice_get xs
  holds_slice = λ i p. whole_holds r xs whole p i

  -- at each place
  pub held_of_slice : (p : ℕ) → region_stored r p ≡ slice_get xs p
  held_of_slice p = whole_holds r xs whole p

  pub region_sound : IsValid l.offset l.lengths l.strides → LiesBy (region_stored r) l
  region_sound valid = subst (λ (stored : ℕ → _). LiesBy stored l) (sym holds_slice) (slice_sound xs given l laid valid)

  pub element_given : (m : Placement) → m ≡ l → (i : List ℕ) → inside m.lengths i (stored_at (region_stored r) (place_of m.offset m.strides i)) ≡ inside given.0 i (stored_at (slice_get xs) (given_place given.0 given.1 given.2 i))
  element_given m same i = ap (λ n. inside n.lengths i (stored_at (region_stored r) (place_of n.offset n.strides i))) same ∙ ap (λ stored. inside l.lengths i (stored_at stored (place_of l.offset l.strides i))) holds_slice ∙ laid_at laid (stored_at (slice_get xs)) i
