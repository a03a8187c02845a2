-- Closures that are handed each element and return something for it, once each, in an order that is free.
use Rattle.std.specs.Prelude.{◌≡◌, ◌++◌, ◌<◌, ◌⊎◌, ℕ, ℤ, List, [], length, Option, Some, slice_get}
use Rattle.std.specs.Borrow.{Bor}
use Rattle.std.specs.Fn.{Mut, Called}
use Rattle.std.specs.declared.vec.Vec.{Vec}
use Rattle.std.specs.List.{FoldsTo, count_by}
use Rattle.std.specs.Option.{option_map}
use Rattle.nd_layout.specs.NumberedPlacesAndWalks.{Numbered, ranked}
use Rattle.nd_layout.specs.declared.walk.layout_as_lanes.Places.{Places}
use Rattle.nd_elements.specs.ElementsAtNumberedPlaces.{elements_at, in_turn}
use Rattle.nd_elements.specs.WritesByIndex.{is_index}
use Rattle.nd_elements.specs.CallsInFreeOrder.{ListsPartOfBox, AnswersThere, AnswersAny, AskableInAnyOrder, HasAnswers, VisitedInSomeOrder}
use Rattle.nd_elements.specs.ShapeAndElements.{Meaning}
use Rattle.nd_elements.specs.elements.ElementFolds.{RanTo}
use Rattle.nd_elements.specs.elements.ElementChanges.{IsChangedBy}

-- Closures that are handed a reference to the element.
module _ {F A B : Type 0} (g : Mut F (Bor A × Unit {0}) B) where
  -- Says that a call of `f` with a reference to the element may return `y` and leave the closure as `f'`.
  abbrev pub AnswersElement : F → Option A → B → F → Type 0
  AnswersElement f element y f' = (x : Bor A) × (element ≡ Some x.now) × Called g f (x, tt) y f'

  -- Says that `f` may be called with a reference to the element.
  abbrev pub MayBeShown : F → Option A → Type 0
  MayBeShown f element = (x : Bor A) → element ≡ Some x.now → g.pre f (x, tt)

  -- Says that each call of `f` returns what `h` gives of the element, and leaves `f` as it is.
  abbrev pub AnswersBy : (A → B) → F → Type 0
  AnswersBy h f = (x : Bor A) (y : B) (f' : F) → Called g f (x, tt) y f' → (f' ≡ f) × (y ≡ h x.now)

-- Closures that are handed the element itself.
module _ {F A B : Type 0} (g : Mut F (A × Unit {0}) B) where
  -- Says that a call of `f` with the element itself may return `y` and leave the closure as `f'`.
  abbrev pub AnswersValue : F → Option A → B → F → Type 0
  AnswersValue f element y f' = (x : A) × (element ≡ Some x) × Called g f (x, tt) y f'

  -- Says that `f` may be called with the element itself.
  abbrev pub MayBeGiven : F → Option A → Type 0
  MayBeGiven f element = (x : A) → element ≡ Some x → g.pre f (x, tt)

  -- Says that each call of `f` with an element itself returns what `h` gives of it, and leaves `f` as it is.
  abbrev pub AnswersValuesBy : (A → B) → F → Type 0
  AnswersValuesBy h f = (x : A) (y : B) (f' : F) → Called g f (x, tt) y f' → (f' ≡ f) × (y ≡ h x)

-- `answers p element y q` says that a call for the element returned `y`, and led from the state `p` to the state `q`.
module _ {P A B : Type 0} (answers : P → Option A → B → P → Type 0) where
  -- Says that a call for the element that `at` has at the index `i` returned `y`, and led from `p` to `q`.
  abbrev pub AnswersAt : (List ℕ → Option A) → P → List ℕ → B → P → Type 0
  AnswersAt at p i y q = answers p (at i) y q

  -- Says that a call for the element led from `p` to `q`, whatever it returned.
  abbrev pub AnswersSomehow : P → Option A → P → Type 0
  AnswersSomehow p element q = (y : B) × answers p element y q

  -- Says that calls for the elements with the numbers below `count`, one after the other, led from `first` to `last`.
  abbrev pub RanNumbered : (ℕ → Option A) → P → ℕ → P → Type 0
  RanNumbered found first count last = RanTo (λ p k q. AnswersSomehow p (found k) q) first count last

  -- Says that from `first` on, once calls were made for all elements with lower numbers, a call may be made for the
  -- next element with a number below `count`. `takes p element` says that it may be made in the state `p`.
  abbrev pub TakesNumbered : (P → Option A → Type 0) → (ℕ → Option A) → P → ℕ → Type 0
  TakesNumbered takes found first count = (k : ℕ) (now : P) → k < count → RanNumbered found first k now → takes now (found k)

  -- The list `new` has the items of `old`, and after them what calls for the elements with the numbers below `count`
  -- returned, one after the other. The calls led from `first` to `last`.
  pub record AnswersAfter (found : ℕ → Option A) (count : ℕ) (old new : List B) (first last : P) : Type 0 where
    pub after : List B
    pub whole : new ≡ old ++ after
    pub many : length after ≡ count
    pub calls : RanTo (λ p k q. (y : B) × (slice_get after k ≡ Some y) × answers p (found k) y q) first count last

-- The elements at numbered places of a storage `s`, of which a closure is handed references, one after the other.
module _ {S F A B : Type 0} (g : Mut F (Bor A × Unit {0}) B) (stored : S → ℕ → Option A) (at : Numbered) (s : S) where
  -- Says that from the closure `first` on, once all elements with lower numbers were handed over, the next may be.
  abbrev pub MayShowEach : F → Type 0
  MayShowEach first = TakesNumbered (AnswersElement g) (MayBeShown g) (elements_at stored at s) first at.count

  -- Says that calls for all elements, one after the other, led from the closure `first` to `last`, whatever they
  -- returned.
  abbrev pub CallsWithEach : F → F → Type 0
  CallsWithEach first last = RanNumbered (AnswersElement g) (elements_at stored at s) first at.count last

  -- Says that the vector `new` has the items of `old`, and after them what the calls for all elements returned, which
  -- led from the closure `first` to `last`.
  abbrev pub Pushes : {Z : Type 0} → F → Vec B Z → Vec B Z → F → Type 0
  Pushes first old new last = AnswersAfter (AnswersElement g) (elements_at stored at s) at.count old.items new.items first last

  -- Says that the vector in `last` has what the calls for all elements returned, and the closure in `last` is what they
  -- made of `first`.
  abbrev pub AnswersForEach : {Z : Type 0} → F → F × Vec B Z → Type 0
  AnswersForEach first last = AnswersAfter (AnswersElement g) (elements_at stored at s) at.count [] last.1.items first last.0

-- The elements at numbered places of a storage `s`, which a closure is given by value, one after the other.
module _ {S F A B : Type 0} (g : Mut F (A × Unit {0}) B) (stored : S → ℕ → Option A) (at : Numbered) (s : S) where
  -- Says that from the closure `first` on, once all elements with lower numbers were given, the next may be.
  abbrev pub MayGiveEach : F → Type 0
  MayGiveEach first = TakesNumbered (AnswersValue g) (MayBeGiven g) (elements_at stored at s) first at.count

  -- Says that the vector `new` has the items of `old`, and after them what the calls for all elements returned, which
  -- led from the closure `first` to `last`.
  abbrev pub PushesValues : {Z : Type 0} → F → Vec B Z → Vec B Z → F → Type 0
  PushesValues first old new = λ last. AnswersAfter (AnswersValue g) (elements_at stored at s) at.count old.items new.items first last

  -- Says that the vector in `last` has what the calls for all elements returned, and the closure in `last` is what they
  -- made of `first`.
  abbrev pub AnswersValues : {Z : Type 0} → F → F × Vec B Z → Type 0
  AnswersValues first = λ last. AnswersAfter (AnswersValue g) (elements_at stored at s) at.count [] last.1.items first last.0

-- The items of a list, which a closure is given by value, one after the other.
module _ {F A B : Type 0} (g : Mut F (A × Unit {0}) B) (xs : List A) where
  -- Says that from the closure `first` on, once all items with lower numbers were given, the next may be.
  abbrev pub MayGiveItems : F → Type 0
  MayGiveItems first = MayGiveEach g slice_get (in_turn xs) xs first

  -- Says that the vector `new` has the items of `old`, and after them what the calls for all items of `xs` returned,
  -- from the closure `first` on.
  abbrev pub PushesItems : {Z : Type 0} → F → Vec B Z → Vec B Z → F → Type 0
  PushesItems first old new = PushesValues g slice_get (in_turn xs) xs first old new

-- Says that a call may be made for the element that `at` has at the index `i`, where `takes p element` says so of an
-- element.
abbrev pub TakesAt : {P A : Type 0} → (P → Option A → Type 0) → (List ℕ → Option A) → P → List ℕ → Type 0
TakesAt takes at p i = takes p (at i)

-- Calls for all elements of an array, whose meaning is `m`.
module _ {P A B : Type 0} (answers : P → Option A → B → P → Type 0) where
  -- Says that whichever elements were handed over from `first` on, a call may be made for each element that is left.
  abbrev pub AskableOfAll : (P → Option A → Type 0) → Meaning A → P → Type 0
  AskableOfAll takes m first = AskableInAnyOrder (AnswersAt answers m.at) m.shape (TakesAt takes m.at) first

  -- Says that one call was made for each element, in some order from `first` on.
  abbrev pub VisitsAll : Meaning A → P → Type 0
  VisitsAll m first = (last : P) × VisitedInSomeOrder m.shape (AnswersAny (AnswersAt answers m.at)) first last

  -- Says that one call was made for each element, in some order from `first` on, and `at` has at its index what the
  -- call returned.
  abbrev pub HasAnswersOfAll : Meaning A → P → (List ℕ → Option B) → Type 0
  HasAnswersOfAll m first at = HasAnswers (AnswersAt answers m.at) m.shape first at

-- Each index has in `new` what `h` gives of its element in `old`.
abbrev pub IsMappedBy : {A B : Type 0} → (A → B) → (List ℕ → Option A) → (List ℕ → Option B) → Type 0
IsMappedBy h old new = (i : List ℕ) → new i ≡ option_map h (old i)

-- Calls whose results take the elements' places.
module _ {P A : Type 0} (answers : P → Option A → A → P → Type 0) where
  -- Says that a call for the element `old` returned the element `new`, and led from `p` to `q`.
  abbrev pub Replaces : Option A → Option A → P → P → Type 0
  Replaces old new p q = (y : A) × (new ≡ Some y) × answers p old y q

  -- Says that only the calls with numbers below some `k` were made, which is below `count`, and that what they returned
  -- stands in the places of their elements. Nothing else changed.
  abbrev pub IsReplacedInPart : (ℕ → ℤ) → ℕ → (ℕ → Option A) → (ℕ → Option A) → P → Type 0
  IsReplacedInPart place count old new first = (k : ℕ) × (last : P) × (k < count) × IsChangedBy Replaces place k old new first last

  -- Says that calls were made for some indexes, none of them twice, and `new` has at these indexes what the calls
  -- returned, and at the others what `old` has.
  abbrev pub HasSomeAnswers : List ℕ → P → (List ℕ → Option A) → (List ℕ → Option A) → Type 0
  HasSomeAnswers shape first old new =
      (listing : List (List ℕ)) × (last : P) × ListsPartOfBox shape listing
      × FoldsTo (AnswersThere (AnswersAt answers old) new) first listing last
      × ((i : List ℕ) → count_by (is_index i) listing ≡ 0 → new i ≡ old i)

-- Says that calls were made for some indexes of `m`, none of them twice, and `new` has at these indexes what the calls
-- returned, and at the others what `m` has.
abbrev pub HasSomeAnswersOf : {P A : Type 0} → (P → Option A → A → P → Type 0) → Meaning A → P → (List ℕ → Option A) → Type 0
HasSomeAnswersOf answers m first new = HasSomeAnswers answers m.shape first m.at new

-- Each index has in `new` its element in `old`, or what `h` gives of it.
abbrev pub IsOldOrMapped : {A : Type 0} → (A → A) → (List ℕ → Option A) → (List ℕ → Option A) → Type 0
IsOldOrMapped h old new = (i : List ℕ) → (new i ≡ old i) ⊎ (new i ≡ option_map h (old i))

-- The elements at numbered places of a storage, which a closure is given by value, one after the other. What it returns
-- takes their places.
module _ {S F A : Type 0} (g : Mut F (A × Unit {0}) A) (stored : S → ℕ → Option A) (at : Numbered) (old new : S) where
  -- Says that each numbered place holds in `new` what the call for its element in `old` returned, where the calls led
  -- from `first` to `last`. Nothing else changed.
  abbrev pub ReplacesEach : F → F → Type 0
  ReplacesEach first = λ last. IsChangedBy (Replaces (AnswersValue g)) at.place at.count (stored old) (stored new) first last

  -- Says that not all calls were made, from the closure `first` on. The places of the elements with lower numbers hold
  -- in `new` what the calls for them returned, and nothing else changed.
  abbrev pub ReplacesInPart : F → Type 0
  ReplacesInPart first = IsReplacedInPart (AnswersValue g) at.place at.count (stored old) (stored new) first

-- The elements at the places of a layout, which a closure is given by value, in row-major order. What it returns takes
-- their places.
module _ {S F A : Type 0} (g : Mut F (A × Unit {0}) A) (stored : S → ℕ → Option A) (places : Places) (old new : S) where
  -- Says that each place of the layout holds in `new` what the call for its element in `old` returned, where the calls
  -- led from `first` to `last`. Nothing else changed.
  abbrev pub Rewrites : F → F → Type 0
  Rewrites first = ReplacesEach g stored (ranked places) old new first

  -- Says that not all calls were made, from the closure `first` on. The places with lower ranks hold in `new` what the
  -- calls for their elements returned, and nothing else changed.
  abbrev pub RewritesInPart : F → Type 0
  RewritesInPart first = ReplacesInPart g stored (ranked places) old new first
