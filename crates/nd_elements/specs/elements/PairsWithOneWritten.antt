-- Elements in pairs, of which one is to be written.
use Rattle.std.specs.Prelude.{◌≡◌, ◌⊎◌, ◌<◌, ℕ, List, Option, None, Some, ℤ}
use Rattle.std.specs.Borrow.{Bor, MutBor}
use Rattle.std.specs.Fn.{Mut, CalledWithState}
use Rattle.nd_layout.specs.NumberedPlacesAndWalks.{Numbered, along, ranked}
use Rattle.nd_layout.specs.declared.walk.lane.Lane.{Lane}
use Rattle.nd_layout.specs.declared.walk.layout_as_lanes.Places.{Places}
use Rattle.nd_elements.specs.StoragePlaces.{stored_at}
use Rattle.nd_elements.specs.CallsInFreeOrder.{VisitedInSomeOrder, CallableInAnyOrder}
use Rattle.nd_elements.specs.elements.ElementFolds.{RanTo}
pub use Rattle.nd_elements.specs.elements.ElementChanges.{IsRewrittenTo}

-- Returns what `h` gives of two elements where both are there, and else `None`.
abbrev pub option_both : {A B C : Type 0} → (A → B → C) → Option A → Option B → Option C
option_both h (Some x) (Some y) = Some (h x y)
option_both h (Some x) None = None
option_both h None y = None

-- Each index has in `new` its element in `old` or that in `other`.
abbrev pub IsOldOrOf : {A : Type 0} → (List ℕ → Option A) → (List ℕ → Option A) → (List ℕ → Option A) → Type 0
IsOldOrOf old other new = (i : List ℕ) → (new i ≡ old i) ⊎ (new i ≡ other i)

module _ {F A B : Type 0} (g : Mut F (MutBor A × (Bor B × Unit {0})) (Unit {0} × (MutBor A × Unit {0}))) where
  -- Says that a call was handed the element `old` with the element `other`, left `new` in place of `old`, and led from
  -- the closure `p` to `q`.
  abbrev pub ChangesWith : Option B → Option A → Option A → F → F → Type 0
  ChangesWith other old new p q = (x : A) × (y : A) × (b : Bor B) × (old ≡ Some x) × (new ≡ Some y) × (other ≡ Some b.now) × CalledWithState g p x b tt q y

  -- Says that a call was handed the element `old` with the element `other`, and led from the closure `p` to `q`,
  -- whatever it left in place of `old`.
  abbrev pub ChangesWithSomehow : Option B → Option A → F → F → Type 0
  ChangesWithSomehow other old p q = (x : A) × (y : A) × (b : Bor B) × (old ≡ Some x) × (other ≡ Some b.now) × CalledWithState g p x b tt q y

  -- Says that the closure `p` may be called with a `&mut` to `element` and a `&` to `other`.
  abbrev pub TakesBoth : Option B → Option A → F → Type 0
  TakesBoth other element p = (x : MutBor A) (b : Bor B) → element ≡ Some x.now → other ≡ Some b.now → g.pre p (x, (b, tt))

  -- Says that the places with the numbers below a count were handed out one after the other, each with the element at
  -- the place of a second storage with the same number, and nothing else changed.
  abbrev pub IsZippedTo : (ℕ → ℤ) → (ℕ → Option B) → (ℕ → ℤ) → ℕ → (ℕ → Option A) → (ℕ → Option A) → F → F → Type 0
  IsZippedTo place others theirs = IsRewrittenTo (λ k old new p q. ChangesWith (stored_at others (theirs k)) old new p q) place

  -- Says that from the closure `first` on, once all pairs with lower numbers were handed out, it may be called for the
  -- next pair with a number below `count`.
  abbrev pub TakesPairs : (ℕ → Option A) → (ℕ → ℤ) → (ℕ → Option B) → (ℕ → ℤ) → F → ℕ → Type 0
  TakesPairs stored place others theirs first count = (k : ℕ) (now : F) → k < count → RanTo (λ p j q. ChangesWithSomehow (stored_at others (theirs j)) (stored_at stored (place j)) p q) first k now → TakesBoth (stored_at others (theirs k)) (stored_at stored (place k)) now

  -- Says that each call of `f` leaves what `h` gives of both elements in place of the first, and leaves `f` as it is.
  abbrev pub ZipsBy : (A → B → A) → F → Type 0
  ZipsBy h f = (x : A) (b : Bor B) (y : A) (f' : F) → CalledWithState g f x b tt f' y → (f' ≡ f) × (y ≡ h x b.now)

  -- Says that one call for each index, in some order from `f` on, with the elements that `old` and `others` have there,
  -- changed that of `old` to that of `new`.
  abbrev pub ZipsAll : List ℕ → (List ℕ → Option A) → (List ℕ → Option B) → (List ℕ → Option A) → F → Type 0
  ZipsAll shape old others new f = (last : F) × VisitedInSomeOrder shape (λ p i q. ChangesWith (others i) (old i) (new i) p q) f last

  -- Says that whichever elements were changed from `f` on, the closure may be called for each index that is left.
  abbrev pub ZippableInAnyOrder : List ℕ → (List ℕ → Option A) → (List ℕ → Option B) → F → Type 0
  ZippableInAnyOrder shape old others f = CallableInAnyOrder shape (λ p i q. ChangesWithSomehow (others i) (old i) p q) (λ p i. TakesBoth (others i) (old i) p) f

-- Says that a call was handed the element at a place of a storage with the element `other`, changed the first from that
-- of `old` to that of `new`, and led from the closure `first` to `last`.
abbrev pub ChangesBoth : {S F A B : Type 0} → Mut F (MutBor A × (Bor B × Unit {0})) (Unit {0} × (MutBor A × Unit {0})) → (S → ℕ → Option A) → Option B → ℕ → S → S → F → F → Type 0
ChangesBoth g stored other place old new first last = ChangesWith g other (stored old place) (stored new place) first last

-- The elements that two storages hold at places with the same number, handed out in pairs, one pair after the other.
module _ {S Z F A B : Type 0} (g : Mut F (MutBor A × (Bor B × Unit {0})) (Unit {0} × (MutBor A × Unit {0}))) (stored : S → ℕ → Option A) (others_stored : Z → ℕ → Option B) where
  -- Says that from the closure `first` on, once all pairs with lower numbers were handed out, the next may be.
  abbrev pub MayZipAt : Numbered → Numbered → S → Z → F → Type 0
  MayZipAt at theirs s others first = TakesPairs g (stored s) at.place (others_stored others) theirs.place first at.count

  -- Says that calls for all pairs, one after the other, changed `old` to `new` and led from the closure `first` to
  -- `last`, and nothing else changed.
  abbrev pub ZipsAt : Numbered → Numbered → Z → S → S → F → F → Type 0
  ZipsAt at theirs others old new first last = IsZippedTo g at.place (others_stored others) theirs.place at.count (stored old) (stored new) first last

  -- Says that from the closure `first` on, once all pairs with lower numbers along two lanes were handed out, the next
  -- may be.
  abbrev pub MayZipAlong : Lane → Lane → S → Z → F → Type 0
  MayZipAlong lane theirs s others first = MayZipAt (along lane) (along theirs) s others first

  -- Says that calls for all pairs along two lanes, one after the other, changed `old` to `new` and led from the closure
  -- `first` to `last`, and nothing else changed.
  abbrev pub ZipsAlong : Lane → Lane → Z → S → S → F → F → Type 0
  ZipsAlong lane theirs others old new first last = ZipsAt (along lane) (along theirs) others old new first last

  -- Says that from the closure `first` on, once all pairs of lower row-major rank in two layouts were handed out, the
  -- next may be.
  abbrev pub MayZip : Places → Places → S → Z → F → Type 0
  MayZip places theirs s others first = MayZipAt (ranked places) (ranked theirs) s others first

  -- Says that calls for all pairs at the places of two layouts, in row-major order, changed `old` to `new` and led from
  -- the closure `first` to `last`, and nothing else changed.
  abbrev pub Zips : Places → Places → Z → S → S → F → F → Type 0
  Zips places theirs others old new first last = ZipsAt (ranked places) (ranked theirs) others old new first last
