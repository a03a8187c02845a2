-- Closures that are handed each element to be written, once, in an order that is free.
use Rattle.std.specs.Prelude.{◌≡◌, ◌<◌, ℕ, List, Option, Some, ℤ, pos}
use Rattle.std.specs.Borrow.{MutBor}
use Rattle.std.specs.Fn.{Mut, CalledAtMut}
use Rattle.std.specs.Option.{option_map}
use Rattle.nd_layout.specs.NumberedPlacesAndWalks.{Numbered, ranked}
use Rattle.nd_layout.specs.declared.walk.layout_as_lanes.Places.{Places}
use Rattle.nd_elements.specs.StoragePlaces.{stored_at}
use Rattle.nd_elements.specs.CallsInFreeOrder.{VisitedInSomeOrder, CallableInAnyOrder}
use Rattle.nd_elements.specs.elements.ElementFolds.{RanTo}

-- The places with the numbers below `count` are all different.
abbrev pub AreDistinct : (ℕ → ℤ) → ℕ → Type 0
AreDistinct place count = (j k : ℕ) → j < count → k < count → place j ≡ place k → j ≡ k

-- Elements rewritten one after another: `call k old new p q` says that the k-th call found `old`, left `new`, and led
-- from the state `p` to the state `q`.
module _ {F A : Type 0} (call : ℕ → Option A → Option A → F → F → Type 0) where
  -- The places with the numbers below `count` were rewritten one after the other, which led from `first` to `last`, and
  -- nothing else changed.
  pub record IsRewrittenTo (place : ℕ → ℤ) (count : ℕ) (old new : ℕ → Option A) (first last : F) : Type 0 where
    pub calls : RanTo (λ p k q. call k (stored_at old (place k)) (stored_at new (place k)) p q) first count last
    pub left : (p : ℕ) → ((k : ℕ) → k < count → ¬ (place k ≡ pos p)) → new p ≡ old p

-- Says that numbered places were rewritten one after the other, by calls that don't depend on the number, and nothing
-- else changed.
abbrev pub IsChangedBy : {P A : Type 0} → (Option A → Option A → P → P → Type 0) → (ℕ → ℤ) → ℕ → (ℕ → Option A) → (ℕ → Option A) → P → P → Type 0
IsChangedBy call = IsRewrittenTo (λ _. call)

module _ {F A : Type 0} (g : Mut F (MutBor A × Unit {0}) (Unit {0} × (MutBor A × Unit {0}))) where
  -- Says that a call was handed the element `old`, left `new` in its place, and led from the closure `p` to `q`.
  abbrev pub ChangesElement : Option A → Option A → F → F → Type 0
  ChangesElement old new p q = (x : A) × (y : A) × (old ≡ Some x) × (new ≡ Some y) × CalledAtMut g p x tt q y

  -- Says that a call was handed the element `old` and led from the closure `p` to `q`, whatever it left in its place.
  abbrev pub ChangesSomehow : Option A → F → F → Type 0
  ChangesSomehow old p q = (x : A) × (y : A) × (old ≡ Some x) × CalledAtMut g p x tt q y

  -- Says that the closure `p` may be called with a `&mut` to the element.
  abbrev pub TakesElementMut : Option A → F → Type 0
  TakesElementMut element p = (x : MutBor A) → element ≡ Some x.now → g.pre p (x, tt)

  -- Says that the places with the numbers below a count were handed to a closure one after the other, and nothing else
  -- changed.
  abbrev pub IsChangedTo : (ℕ → ℤ) → ℕ → (ℕ → Option A) → (ℕ → Option A) → F → F → Type 0
  IsChangedTo = IsChangedBy ChangesElement

  -- Says that from the closure `first` on, once all places with lower numbers were handed out, it may be called for the
  -- next place with a number below `count`.
  abbrev pub TakesPlacesMut : (ℕ → Option A) → (ℕ → ℤ) → F → ℕ → Type 0
  TakesPlacesMut stored place first count = (k : ℕ) (now : F) → k < count → RanTo (λ p j q. ChangesSomehow (stored_at stored (place j)) p q) first k now → TakesElementMut (stored_at stored (place k)) now

  -- Says that each call of `f` leaves what `h` gives of the element in its place, and leaves `f` as it is.
  abbrev pub ChangesBy : (A → A) → F → Type 0
  ChangesBy h f = (x y : A) (f' : F) → CalledAtMut g f x tt f' y → (f' ≡ f) × (y ≡ h x)

  -- For every function `h` that tells what `f` leaves, each index has in `new` what `h` gives of its element in `old`.
  abbrev pub ChangesAlike : F → (List ℕ → Option A) → (List ℕ → Option A) → Type 0
  ChangesAlike f old new = (h : A → A) → ChangesBy h f → (i : List ℕ) → new i ≡ option_map h (old i)

  -- Says that one call for each index, in some order from `f` on, changed the element that `old` has there to that of
  -- `new`.
  abbrev pub ChangesAll : List ℕ → (List ℕ → Option A) → (List ℕ → Option A) → F → Type 0
  ChangesAll shape old new f = (last : F) × VisitedInSomeOrder shape (λ p i q. ChangesElement (old i) (new i) p q) f last

  -- Says that whichever elements were changed from `f` on, the closure may be called for each element that is left.
  abbrev pub ChangeableInAnyOrder : List ℕ → (List ℕ → Option A) → F → Type 0
  ChangeableInAnyOrder shape old f = CallableInAnyOrder shape (λ p i q. ChangesSomehow (old i) p q) (λ p i. TakesElementMut (old i) p) f

-- The element at a place of a storage, changed by a closure.
module _ {S F A : Type 0} (g : Mut F (MutBor A × Unit {0}) (Unit {0} × (MutBor A × Unit {0}))) (stored : S → ℕ → Option A) (place : ℕ) where
  -- Says that the closure `first` may be called with a `&mut` to the element of `s` at the place.
  abbrev pub MayChangeAt : S → F → Type 0
  MayChangeAt s first = TakesElementMut g (stored s place) first

  -- Says that a call changed the element at the place from that of `old` to that of `new`, and led from `first` to
  -- `last`.
  abbrev pub ChangesAt : S → S → F → F → Type 0
  ChangesAt old new first last = ChangesElement g (stored old place) (stored new place) first last

-- The elements at numbered places of a storage, changed by a closure one after the other.
module _ {S F A : Type 0} (g : Mut F (MutBor A × Unit {0}) (Unit {0} × (MutBor A × Unit {0}))) (stored : S → ℕ → Option A) (at : Numbered) where
  -- Says that from the closure `first` on, once all elements with lower numbers were changed, it may be called for the
  -- next.
  abbrev pub MayChangeEach : S → F → Type 0
  MayChangeEach s first = TakesPlacesMut g (stored s) at.place first at.count

  -- Says that calls for all numbered places, one after the other, changed `old` to `new` and led from `first` to
  -- `last`, and nothing else changed.
  abbrev pub ChangesEach : S → S → F → F → Type 0
  ChangesEach old new first last = IsChangedTo g at.place at.count (stored old) (stored new) first last

-- Says that calls for all places of a layout, in row-major order, changed `old` to `new` and led from `first` to
-- `last`, and nothing else changed.
abbrev pub ChangesPlaces : {S F A : Type 0} → Mut F (MutBor A × Unit {0}) (Unit {0} × (MutBor A × Unit {0})) → (S → ℕ → Option A) → Places → S → S → F → F → Type 0
ChangesPlaces g stored places old new first last = ChangesEach g stored (ranked places) old new first last
