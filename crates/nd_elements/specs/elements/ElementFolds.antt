-- Closures that are handed the elements of an array, each once, in an order that is free.
use Rattle.std.specs.Prelude.{◌≡◌, ◌<◌, ℕ, zero, suc, List, Option, Some, ℤ}
use Rattle.std.specs.Borrow.{Bor}
use Rattle.std.specs.Fn.{Mut, Called}
use Rattle.std.specs.List.{fold}
use Rattle.nd_layout.specs.NumberedPlacesAndWalks.{Numbered}
use Rattle.nd_elements.specs.StoragePlaces.{stored_at}
use Rattle.nd_elements.specs.CallsInFreeOrder.{VisitedInSomeOrder, CallableInAnyOrder}

-- Says that the calls with the numbers below a count, one after the other, led from the state `first` to the state
-- `last`.
abbrev pub RanTo : {P : Type 0} → (P → ℕ → P → Type 0) → P → ℕ → P → Type 0
RanTo call first zero last = last ≡ first
RanTo {P} call first (suc k) last = (now : P) × RanTo call first k now × call now k last

-- Says that `h` gives the same total in whichever order two elements come.
abbrev pub IsOrderFree : {A B : Type 0} → (B → A → B) → Type 0
IsOrderFree {A} {B} h = (b : B) (x y : A) → h (h b x) y ≡ h (h b y) x

-- Closures as `fold` takes them: a call is handed the total so far and an element. The state that calls change is the
-- closure with the total.
module _ {F B A : Type 0} (g : Mut F (B × (Bor A × Unit {0})) B) where
  -- Says that a call for the element led from the closure and total `p` to `q`.
  abbrev pub FoldsElement : Option A → F × B → F × B → Type 0
  FoldsElement element p q = (x : Bor A) × (element ≡ Some x.now) × Called g p.0 (p.1, (x, tt)) q.1 q.0

  -- Says that the closure in `p` may be called with the total in `p` and a reference to the element.
  abbrev pub TakesElement : Option A → F × B → Type 0
  TakesElement element p = (x : Bor A) → element ≡ Some x.now → g.pre p.0 (p.1, (x, tt))

  -- Says that calls for the elements at the places with the numbers below `count`, one after the other, led from
  -- `first` to `last`.
  abbrev pub FoldsPlaces : (ℕ → Option A) → (ℕ → ℤ) → F × B → ℕ → F × B → Type 0
  FoldsPlaces stored place first count last = RanTo (λ p k q. FoldsElement (stored_at stored (place k)) p q) first count last

  -- Says that from `first` on, once all elements with lower numbers were folded, a call may be made for the next
  -- element with a number below `count`.
  abbrev pub TakesPlaces : (ℕ → Option A) → (ℕ → ℤ) → F × B → ℕ → Type 0
  TakesPlaces stored place first count = (k : ℕ) (now : F × B) → k < count → FoldsPlaces stored place first k now → TakesElement (stored_at stored (place k)) now

  -- Says that each call of `f` returns what `h` gives of the total and the element, and leaves `f` as it is.
  abbrev pub FoldsBy : (B → A → B) → F → Type 0
  FoldsBy h f = (b : B) (x : Bor A) (r : B) (f' : F) → Called g f (b, (x, tt)) r f' → (f' ≡ f) × (r ≡ h b x.now)

  -- For every function `h` that tells what `f` returns, and for which the order of two elements doesn't matter, `total`
  -- is the fold of `elements` by `h` from `init` on.
  abbrev pub FoldsAlike : F → B → List A → B → Type 0
  FoldsAlike f init elements total = (h : B → A → B) → FoldsBy h f → IsOrderFree h → total ≡ fold h init elements

  -- Says that one call for each index's element, in some order, led from `f` and `init` to `total`.
  abbrev pub FoldsAll : List ℕ → (List ℕ → Option A) → F → B → B → Type 0
  FoldsAll shape at f init total = (last : F) × VisitedInSomeOrder shape (λ p i q. FoldsElement (at i) p q) (f, init) (last, total)

  -- Says that whichever elements were folded from `f` and `init` on, a call may be made for each element that is left.
  abbrev pub FoldableInAnyOrder : List ℕ → (List ℕ → Option A) → F → B → Type 0
  FoldableInAnyOrder shape at f init = CallableInAnyOrder shape (λ p i q. FoldsElement (at i) p q) (λ p i. TakesElement (at i) p) (f, init)

-- The elements at numbered places of a storage `s`, folded one after the other.
module _ {S F B A : Type 0} (g : Mut F (B × (Bor A × Unit {0})) B) (stored : S → ℕ → Option A) (at : Numbered) (s : S) where
  -- Says that from the closure and total `first` on, once all elements with lower numbers were folded, a call may be
  -- made for the next.
  abbrev pub MayFoldEach : F × B → Type 0
  MayFoldEach first = TakesPlaces g (stored s) at.place first at.count

  -- Says that calls for all elements, one after the other, led from the closure and total `first` to `last`.
  abbrev pub FoldsEach : F × B → F × B → Type 0
  FoldsEach first last = FoldsPlaces g (stored s) at.place first at.count last
