-- Scoped calls, which lend a part of a storage to a function for the length of the call.
use Rattle.std.specs.Prelude.{◌≡◌, ℕ, List, ℤ, Option, None, if◌then◌else◌}
use Rattle.nd_layout.specs.LayoutStepsOfCalls.{Placement}
use Rattle.nd_region.specs.declared.divided_mutable_borrow.Region.{Region}
use Rattle.nd_region.specs.RegionPlaces.{names}
use Rattle.nd_region.specs.Region.{region_stored, borrow_of, HasPlaces}
use Rattle.nd_region.specs.ScopedRegionCalls.{TakesPart, GivesPartBack, IsPartReturned}

-- Returns what the map `old` has at the place `p` if the layout names it, and else `None`.
abbrev pub named_part : {A : Type 0} → (ℕ → Option A) → ℕ → List ℕ → List ℤ → ℕ → Option A
named_part old offset lengths strides p = if names offset lengths strides p then old p else None

-- Returns what the map `left` has at the place `p` if the layout names it, and else what `old` has there.
abbrev pub with_named : {A : Type 0} → (ℕ → Option A) → ℕ → List ℕ → List ℤ → (ℕ → Option A) → ℕ → Option A
with_named old offset lengths strides left p = if names offset lengths strides p then left p else old p

-- Says that the region `r` has what `old` has at the places that the layout names, and nothing elsewhere.
abbrev pub IsNamedPart : {A : Type 0} → (ℕ → Option A) → ℕ → List ℕ → List ℤ → Region A → Type 0
IsNamedPart old offset lengths strides r = (p : ℕ) → region_stored r p ≡ named_part old offset lengths strides p

-- ---- Calls that lend the places of a layout to a function: what they ask of it, and what they do.
module _ {A : Type 0} where
  -- Says that a function with the precondition `pre` may be called with the part of `old` at the places of `p`.
  abbrev pub TakesNamed : (Region A → Type 0) → (ℕ → Option A) → Placement → Type 0
  TakesNamed pre old p = (x : Region A) → IsNamedPart old p.offset p.lengths p.strides x → pre x

-- Here `R` is the type of what the function returns together with the part.
module _ {A R : Type 0} where
  -- Says that a function with the postcondition `post`, called with the part of `old` at the places of `p`, returns a
  -- region of the same borrow with the same places.
  abbrev pub GivesNamedBack : (Region A → Region A × R → Type 0) → (ℕ → Option A) → Placement → Type 0
  GivesNamedBack post old p = (x : Region A) (out : Region A × R) → IsNamedPart old p.offset p.lengths p.strides x → post x out → borrow_of out.0 ≡ borrow_of x

  -- Says that the function was called with the part of `old` at the places of `p`, and returned a region and `answer`.
  -- At these places `new` has what that region has, and elsewhere what `old` has.
  abbrev pub IsNamedReturned : (Region A → Region A × R → Type 0) → (ℕ → Option A) → (ℕ → Option A) → Placement → R → Type 0
  IsNamedReturned post old new p answer =
      (x : Region A)
      × (s : Region A)
      × IsNamedPart old p.offset p.lengths p.strides x
      × post x (s, answer)
      × ((place : ℕ) → new place ≡ with_named old p.offset p.lengths p.strides (region_stored s) place)

-- Says that the function was called with the part of the storage `old` at the places of `p`, and returned a region and
-- `answer`. At these places the storage `new` holds what that region has, and elsewhere what `old` holds.
abbrev pub IsStoredReturned : {S A R : Type 0} → (Region A → Region A × R → Type 0) → (S → ℕ → Option A) → S → S → Placement → R → Type 0
IsStoredReturned post stored old new p answer = IsNamedReturned post (stored old) (stored new) p answer

-- Says that the region `whole` has an element at the place of each index of `p`, and that the function may be called
-- with this part of it and gives the part back.
abbrev pub MayLendPart : {A R : Type 0} → (Region A → Type 0) → (Region A → Region A × R → Type 0) → Placement → Region A → Type 0
MayLendPart pre post p whole =
    HasPlaces whole p.offset p.lengths p.strides
    × TakesPart pre (names p.offset p.lengths p.strides) whole
    × GivesPartBack post (names p.offset p.lengths p.strides) whole

-- Says that the function was called with the part of `old` at the places of `p`, and returned a region and `answer`. At
-- these places the region `new` has what that region has, and elsewhere what `old` has.
abbrev pub IsPartGivenBack : {A R : Type 0} → (Region A → Region A × R → Type 0) → Placement → Region A → Region A → R → Type 0
IsPartGivenBack post p old new answer = IsPartReturned post (names p.offset p.lengths p.strides) old new answer
