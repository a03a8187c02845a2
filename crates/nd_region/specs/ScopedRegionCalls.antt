-- Scoped calls, which lend parts of a region, told by a test of places, to a function for the length of the call.
use Rattle.std.specs.Prelude.{◌≡◌, ℕ, ℤ, List, Bool, not, if◌then◌else◌}
use Rattle.nd_region.specs.declared.divided_mutable_borrow.Region.{Region}
use Rattle.nd_region.specs.RegionPlaces.{names_either}
use Rattle.nd_region.specs.Region.{region_stored, borrow_of, elements_of, rejoined_region, IsPartWhere, IsSameBorrow, IsAsLong, IsWhole}

module _ {A : Type 0} where
  -- Says that a function with the precondition `pre` may be called with the part of `whole` at the places that pass
  -- `test`.
  abbrev pub TakesPart : (Region A → Type 0) → (ℕ → Bool) → Region A → Type 0
  TakesPart pre test whole = (x : Region A) → IsPartWhere test whole x → pre x

  -- Says that a function with the precondition `pre` may be called with two parts of `whole`: the places that pass
  -- `test`, and the others.
  abbrev pub TakesParts : (Region A → Region A → Type 0) → (ℕ → Bool) → Region A → Type 0
  TakesParts pre test whole = (x y : Region A) → IsPartWhere test whole x → IsPartWhere (λ p. not (test p)) whole y → pre x y

-- Here `R` is the type of what the function returns together with the parts.
module _ {A R : Type 0} where
  -- Says that a function with the postcondition `post`, called with the part of `whole` at the places that pass `test`,
  -- returns a region of the same borrow with the same places.
  abbrev pub GivesPartBack : (Region A → Region A × R → Type 0) → (ℕ → Bool) → Region A → Type 0
  GivesPartBack post test whole = (x : Region A) (out : Region A × R) → IsPartWhere test whole x → post x out → borrow_of out.0 ≡ borrow_of x

  -- Says that the function was called with the part of `old` at the places that pass `test`, and returned a region and
  -- `answer`. At these places `new` has what that region has, and elsewhere what `old` has.
  abbrev pub IsPartReturned : (Region A → Region A × R → Type 0) → (ℕ → Bool) → Region A → Region A → R → Type 0
  IsPartReturned post test old new answer =
      (x : Region A)
      × (s : Region A)
      × IsPartWhere test old x
      × post x (s, answer)
      × ((p : ℕ) → region_stored new p ≡ (if test p then region_stored s p else region_stored old p))

  -- Says that a function with the postcondition `post`, called with the part of `whole` at the places that pass `test`
  -- and the part at the others, returns two regions, each of the same borrow as its part.
  abbrev pub GivesPartsBack : (Region A → Region A → Region A × Region A × R → Type 0) → (ℕ → Bool) → Region A → Type 0
  GivesPartsBack post test whole =
      (x y : Region A) (out : Region A × Region A × R) → IsPartWhere test whole x → IsPartWhere (λ p. not (test p)) whole y → post x y out → IsSameBorrow x out.0 × IsSameBorrow y out.1

  -- Says that the function was called with the part of `old` at the places that pass `test` and the part at the others,
  -- and returned two regions, each with as many elements as its part, and `answer`. At the places of the first part
  -- `new` has the elements of the first region, and elsewhere those of the second.
  abbrev pub ArePartsReturned : (Region A → Region A → Region A × Region A × R → Type 0) → (ℕ → Bool) → Region A → Region A → R → Type 0
  ArePartsReturned post test old new answer =
      (x : Region A)
      × (y : Region A)
      × (s : Region A)
      × (t : Region A)
      × IsPartWhere test old x
      × IsPartWhere (λ p. not (test p)) old y
      × post x y (s, t, answer)
      × (new ≡ rejoined_region old x s t)
      × IsAsLong x s
      × IsAsLong y t

-- ---- A slice's elements lent as a region with all places.
-- Says that a function with the precondition `pre` may be called with the region of `elements` with all places.
abbrev pub TakesWhole : {A : Type 0} → (Region A → Type 0) → List A → Type 0
TakesWhole {A} pre elements = (r : Region A) → IsWhole r elements → pre r

module _ {A R : Type 0} where
  -- Says that the function, called with the region of `elements` with all places, returns a region of the same borrow.
  abbrev pub GivesWholeBack : (Region A → Region A × R → Type 0) → List A → Type 0
  GivesWholeBack post elements = (r : Region A) (out : Region A × R) → IsWhole r elements → post r out → IsSameBorrow r out.0

  -- Says that the function was called with the region of the elements `old` with all places, and returned a region and
  -- `answer`. The elements of that region are `new`.
  abbrev pub IsWholeReturned : (Region A → Region A × R → Type 0) → List A → List A → R → Type 0
  IsWholeReturned post old new answer = (r : Region A) × (x : Region A) × IsWhole r old × post r (x, answer) × (new ≡ elements_of x)

-- ---- The places that either of two layouts names lent as one part. The second layout has the offset `from`, the
-- lengths `sizes` and the strides `steps`.
-- Says that the function may be called with the part of `whole` at the places that either layout names.
abbrev pub TakesEither : {A : Type 0} → (Region A → Type 0) → ℕ → List ℕ → List ℤ → ℕ → List ℕ → List ℤ → Region A → Type 0
TakesEither pre offset lengths strides from sizes steps whole = TakesPart pre (names_either offset lengths strides from sizes steps) whole

module _ {A R : Type 0} where
  -- Says that the function, called with the part of `whole` at the places that either layout names, returns a region of
  -- the same borrow with the same places.
  abbrev pub GivesEitherBack : (Region A → Region A × R → Type 0) → ℕ → List ℕ → List ℤ → ℕ → List ℕ → List ℤ → Region A → Type 0
  GivesEitherBack post offset lengths strides from sizes steps whole = GivesPartBack post (names_either offset lengths strides from sizes steps) whole

  -- Says that the function was called with the part of `old` at the places that either layout names, and returned a
  -- region and `answer`. At these places `new` has what that region has, and elsewhere what `old` has.
  abbrev pub HasEither : (Region A → Region A × R → Type 0) → ℕ → List ℕ → List ℤ → ℕ → List ℕ → List ℤ → Region A → Region A → R → Type 0
  HasEither post offset lengths strides from sizes steps old new answer = IsPartReturned post (names_either offset lengths strides from sizes steps) old new answer

-- ---- The places that either of two layouts names lent as one part, and all other places as another.
-- Says that the function may be called with two parts of `whole`: the places that either layout names, and all others.
abbrev pub TakesEitherApart : {A : Type 0} → (Region A → Region A → Type 0) → ℕ → List ℕ → List ℤ → ℕ → List ℕ → List ℤ → Region A → Type 0
TakesEitherApart pre offset lengths strides from sizes steps whole = TakesParts pre (names_either offset lengths strides from sizes steps) whole

module _ {A R : Type 0} where
  -- Says that the function, called with the part of `whole` at the places that either layout names and the part at all
  -- others, returns two regions, each of the same borrow as its part.
  abbrev pub GivesBothBack : (Region A → Region A → Region A × Region A × R → Type 0) → ℕ → List ℕ → List ℤ → ℕ → List ℕ → List ℤ → Region A → Type 0
  GivesBothBack post offset lengths strides from sizes steps whole = GivesPartsBack post (names_either offset lengths strides from sizes steps) whole

  -- Says that the function was called with the part of `old` at the places that either layout names and the part at all
  -- others, and returned two regions, each with as many elements as its part, and `answer`. At the places of the first
  -- part `new` has the elements of the first region, and elsewhere those of the second.
  abbrev pub AreBothReturned : (Region A → Region A → Region A × Region A × R → Type 0) → ℕ → List ℕ → List ℤ → ℕ → List ℕ → List ℤ → Region A → Region A → R → Type 0
  AreBothReturned post offset lengths strides from sizes steps old new answer = ArePartsReturned post (names_either offset lengths strides from sizes steps) old new answer
