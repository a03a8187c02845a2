-- Closures that are shown two elements and return something for them, once each, in an order that is free.
use Rattle.std.specs.Prelude.{◌≡◌, ℕ, List, [], Option, Some}
use Rattle.std.specs.Borrow.{Bor}
use Rattle.std.specs.Fn.{Mut, Called}
use Rattle.std.specs.declared.vec.Vec.{Vec}
use Rattle.nd_layout.specs.NumberedPlacesAndWalks.{Numbered}
use Rattle.nd_elements.specs.ShapeAndElements.{Meaning}
use Rattle.nd_elements.specs.ElementsAtNumberedPlaces.{elements_at}
use Rattle.nd_elements.specs.elements.ElementMaps.{AnswersAfter, AskableOfAll, HasAnswersOfAll, RanNumbered, TakesNumbered, VisitsAll}
use Rattle.nd_elements.specs.elements.ElementMapsMut.{paired_at}
use Rattle.nd_elements.specs.elements.PairsWithOneWritten.{option_both}

-- Returns both elements as a pair where both are there, and else `None`.
abbrev pub pair_of : {A B : Type 0} → Option A → Option B → Option (A × B)
pair_of = option_both (λ x y. (x, y))

-- Returns the meaning with the shape of `m` that has at each index the pair of what `m` and `other` have there.
abbrev pub paired_with : {A B : Type 0} → Meaning A → (List ℕ → Option B) → Meaning (A × B)
paired_with m other = record { shape = m.shape; at = paired_at m.at other }

module _ {F A B C : Type 0} (g : Mut F (Bor A × (Bor B × Unit {0})) C) where
  -- Says that a call of `f` with references to the two elements may return `z` and leave the closure as `f'`.
  abbrev pub AnswersPair : F → Option (A × B) → C → F → Type 0
  AnswersPair f pair z f' = (x : Bor A) × (y : Bor B) × (pair ≡ Some (x.now, y.now)) × Called g f (x, (y, tt)) z f'

  -- Says that `f` may be called with references to the two elements.
  abbrev pub MayBeShownPair : F → Option (A × B) → Type 0
  MayBeShownPair f pair = (x : Bor A) (y : Bor B) → pair ≡ Some (x.now, y.now) → g.pre f (x, (y, tt))

  -- Says that each call of `f` returns what `h` gives of both elements, and leaves `f` as it is.
  abbrev pub AnswersPairsBy : (A → B → C) → F → Type 0
  AnswersPairsBy h f = (x : Bor A) (y : Bor B) (z : C) (f' : F) → Called g f (x, (y, tt)) z f' → (f' ≡ f) × (z ≡ h x.now y.now)

  -- Says that whichever pairs were shown from `f` on, a call may be made for each pair that is left of an element of
  -- `m` with that of `other` at the same index.
  abbrev pub AskableOfPairs : Meaning A → (List ℕ → Option B) → F → Type 0
  AskableOfPairs m other f = AskableOfAll AnswersPair MayBeShownPair (paired_with m other) f

  -- Says that one call was made for each pair of an element of `m` with that of `other` at the same index, in some
  -- order from `f` on, and `at` has there what it returned.
  abbrev pub HasAnswersOfPairs : Meaning A → (List ℕ → Option B) → F → (List ℕ → Option C) → Type 0
  HasAnswersOfPairs m other f at = HasAnswersOfAll AnswersPair (paired_with m other) f at

  -- Says that one call was made for each pair of an element of `m` with that of `other` at the same index, in some
  -- order from `f` on.
  abbrev pub VisitsPairs : Meaning A → (List ℕ → Option B) → F → Type 0
  VisitsPairs m other f = VisitsAll AnswersPair (paired_with m other) f

-- Returns the pair of the elements that `s` and `others` hold at the places with a number, and `None` where one is
-- missing.
abbrev pub pairs_at : {S Z A B : Type 0} → (S → ℕ → Option A) → Numbered → S → (Z → ℕ → Option B) → Numbered → Z → ℕ → Option (A × B)
pairs_at stored at s others_stored theirs others = λ k. pair_of (elements_at stored at s k) (elements_at others_stored theirs others k)

-- The elements that two storages hold at places with the same number, shown to a closure in pairs, one pair after the
-- other.
module _ {S Z F A B C : Type 0} (g : Mut F (Bor A × (Bor B × Unit {0})) C) (stored : S → ℕ → Option A) (others_stored : Z → ℕ → Option B) (at theirs : Numbered) (s : S) (others : Z) where
  -- Says that from the closure `first` on, once all pairs with lower numbers were shown, the next may be.
  abbrev pub MayShowPairs : F → Type 0
  MayShowPairs first = TakesNumbered (AnswersPair g) (MayBeShownPair g) (pairs_at stored at s others_stored theirs others) first at.count

  -- Says that calls for all pairs, one after the other, led from the closure `first` to `last`, whatever they returned.
  abbrev pub ShowsPairs : F → F → Type 0
  ShowsPairs first last = RanNumbered (AnswersPair g) (pairs_at stored at s others_stored theirs others) first at.count last

  -- Says that the vector `new` has the items of `old`, and after them what the calls for all pairs returned, which led
  -- from the closure `first` to `last`.
  abbrev pub PushesPairs : {Y : Type 0} → F → Vec C Y → Vec C Y → F → Type 0
  PushesPairs first old new last = AnswersAfter (AnswersPair g) (pairs_at stored at s others_stored theirs others) at.count old.items new.items first last

  -- Says that the vector in `last` has what the calls for all pairs returned, and the closure in `last` is what they
  -- made of `first`.
  abbrev pub AnswersPairs : {Y : Type 0} → F → F × Vec C Y → Type 0
  AnswersPairs first last = AnswersAfter (AnswersPair g) (pairs_at stored at s others_stored theirs others) at.count [] last.1.items first last.0
