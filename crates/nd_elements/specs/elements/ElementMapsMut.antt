-- Closures that are handed a `&mut` to each element and return something for it, once each, in an order that is free.
use Rattle.std.specs.Prelude.{◌≡◌, ◌++◌, ◌∷◌, [], List, Option, Some, ℕ}
use Rattle.std.specs.Borrow.{MutBor}
use Rattle.std.specs.Fn.{Mut, CalledAtMut}
use Rattle.std.specs.declared.vec.Vec.{Vec}
use Rattle.nd_layout.specs.NumberedPlacesAndWalks.{Numbered}
use Rattle.nd_elements.specs.ShapeAndElements.{Meaning}
use Rattle.nd_elements.specs.ElementsAtNumberedPlaces.{elements_at}
use Rattle.nd_elements.specs.elements.ElementChanges.{IsChangedBy}
use Rattle.nd_elements.specs.elements.ElementMaps.{AskableOfAll, HasAnswersOfAll, IsMappedBy, Replaces, TakesNumbered}
use Rattle.nd_elements.specs.elements.PairsWithOneWritten.{option_both}

-- Returns the pair of what both maps have at the index `i`, and `None` where one of them has nothing.
abbrev pub paired_at : {A B : Type 0} → (List ℕ → Option A) → (List ℕ → Option B) → List ℕ → Option (A × B)
paired_at one other i = option_both (λ x y. (x, y)) (one i) (other i)

module _ {F A B : Type 0} (g : Mut F (MutBor A × Unit {0}) (B × (MutBor A × Unit {0}))) where
  -- Says that a call of `f` for the element may leave `out.0` in its place, return `out.1`, and leave the closure as
  -- `f'`.
  abbrev pub LeavesAndAnswers : F → Option A → A × B → F → Type 0
  LeavesAndAnswers f element out f' = (x : A) × (element ≡ Some x) × CalledAtMut g f x out.1 f' out.0

  -- Says that `f` may be called with a `&mut` to the element.
  abbrev pub MayBeHanded : F → Option A → Type 0
  MayBeHanded f element = (x : MutBor A) → element ≡ Some x.now → g.pre f (x, tt)

  -- Says that each call of `f` leaves what `h` gives of the element in its place, and leaves `f` as it is.
  abbrev pub LeavesBy : (A → A) → F → Type 0
  LeavesBy h f = (x y : A) (b : B) (f' : F) → CalledAtMut g f x b f' y → (f' ≡ f) × (y ≡ h x)

  -- Says that each call of `f` returns what `h` gives of the element that it is handed, and leaves `f` as it is.
  abbrev pub AnswersHandedBy : (A → B) → F → Type 0
  AnswersHandedBy h f = (x y : A) (b : B) (f' : F) → CalledAtMut g f x b f' y → (f' ≡ f) × (b ≡ h x)

module _ {P A B : Type 0} (answers : P → Option A → A × B → P → Type 0) where
  -- Says that a call left `x` in place of the element, and that what it returned was added at the end of what calls
  -- returned before. The state is the closure with the list of what calls returned.
  abbrev pub Collects : P × List B → Option A → A → P × List B → Type 0
  Collects p element x q = (b : B) × (q.1 ≡ p.1 ++ b ∷ []) × answers p.0 element (x, b) q.0

-- Says that a call for the element may be made, where `takes` says so of the closure in `p` alone.
abbrev pub TakesCollecting : {P A B : Type 0} → (P → Option A → Type 0) → P × List B → Option A → Type 0
TakesCollecting takes p element = takes p.0 element

-- All elements of an array, whose meaning tells them, handed to a closure to be written.
module _ {F A B : Type 0} (g : Mut F (MutBor A × Unit {0}) (B × (MutBor A × Unit {0}))) where
  -- Says that whichever elements were handed out from `f` on, the closure may be called for each element that is left.
  abbrev pub HandableElements : Meaning A → F → Type 0
  HandableElements m f = AskableOfAll (LeavesAndAnswers g) (MayBeHanded g) m f

  -- Says that one call was made for each element of `old`, in some order from `f` on. At its index `new` has what the
  -- call left, and `answers` has what it returned.
  abbrev pub HandsOutElements : F → Meaning A → (List ℕ → Option A) → (List ℕ → Option B) → Type 0
  HandsOutElements f old new answers = HasAnswersOfAll (LeavesAndAnswers g) old f (paired_at new answers)

  -- For every function `h` that tells what `f` leaves, each index has in `new` what `h` gives of its element in `old`.
  abbrev pub LeavesAlike : F → (List ℕ → Option A) → (List ℕ → Option A) → Type 0
  LeavesAlike f old new = (h : A → A) → LeavesBy g h f → IsMappedBy h old new

  -- For every function `h` that tells what `f` returns, each index has in `answers` what `h` gives of its element in
  -- `old`.
  abbrev pub AnswersHandedAlike : F → (List ℕ → Option A) → (List ℕ → Option B) → Type 0
  AnswersHandedAlike f old answers = (h : A → B) → AnswersHandedBy g h f → IsMappedBy h old answers

-- The element at a place of a storage, handed to a closure to be written.
module _ {S F A B : Type 0} (g : Mut F (MutBor A × Unit {0}) (B × (MutBor A × Unit {0}))) (stored : S → ℕ → Option A) (place : ℕ) where
  -- Says that the closure `first` may be called with a `&mut` to the element of `s` at the place.
  abbrev pub MayHandAt : S → F → Type 0
  MayHandAt s first = MayBeHanded g first (stored s place)

  -- Says that a call changed the element at the place from that of `old` to that of `new`, returned `last.1`, and led
  -- from the closure `first` to `last.0`.
  abbrev pub HandsAt : S → S → F → F × B → Type 0
  HandsAt old new first last = (x : A) × (stored new place ≡ Some x) × LeavesAndAnswers g first (stored old place) (x, last.1) last.0

-- The elements at numbered places of a storage, handed to a closure to be written, one after the other, where what the
-- calls return is collected.
module _ {S F A B : Type 0} (g : Mut F (MutBor A × Unit {0}) (B × (MutBor A × Unit {0}))) (stored : S → ℕ → Option A) (at : Numbered) where
  -- Says that from the closure `first` and the list `answers` on, once all elements with lower numbers were handed out,
  -- the next may be.
  abbrev pub MayHandEach : S → F → List B → Type 0
  MayHandEach s first answers = TakesNumbered (Collects (LeavesAndAnswers g)) (TakesCollecting (MayBeHanded g)) (elements_at stored at s) (first, answers) at.count

  -- Says that calls for all numbered places changed `old` to `new` and led from the closure `first` to `last`. The
  -- vector `after` has the items of `before`, and after them what the calls returned.
  abbrev pub HandsAfter : {Z : Type 0} → S → S → F → Vec B Z → F → Vec B Z → Type 0
  HandsAfter old new first before last after =
      IsChangedBy (Replaces (Collects (LeavesAndAnswers g))) at.place at.count (stored old) (stored new) (first, before.items) (last, after.items)

  -- Says that calls for all numbered places changed `old` to `new`. The vector in `last` has what they returned, and
  -- the closure in `last` is what they made of `first`.
  abbrev pub HandsEach : {Z : Type 0} → S → S → F → F × Vec B Z → Type 0
  HandsEach old new first last = IsChangedBy (Replaces (Collects (LeavesAndAnswers g))) at.place at.count (stored old) (stored new) (first, []) (last.0, last.1.items)
