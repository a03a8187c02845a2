-- Closures that go along an axis: a call is shown the new element before one, and handed that one to be written.
use Rattle.std.specs.Prelude.{◌≡◌, ◌+◌, ◌-◌, ◌<◌, ℕ, suc, List, length, Option, Some, ℤ, pos, slice_get, slice_index, IsTrue}
use Rattle.std.specs.Borrow.{Bor, MutBor}
use Rattle.std.specs.Fn.{Mut, Called}
use Rattle.nd_shape_and_slice.specs.ShapesAndIndexOrders.{in_box}
use Rattle.nd_region.specs.declared.divided_mutable_borrow.Region.{Region}
use Rattle.nd_region.specs.Region.{region_stored, borrow_of, with_element, with_run}
use Rattle.nd_layout.specs.NumberedPlacesAndWalks.{Numbered}
use Rattle.nd_elements.specs.ElementsAtNumberedPlaces.{elements_at}
use Rattle.nd_elements.specs.StoragePlaces.{stored_at}
use Rattle.nd_elements.specs.elements.ElementFolds.{RanTo}
use Rattle.nd_elements.specs.elements.PairsWithOneWritten.{option_both}
use Rattle.nd_elements.specs.RunBorrowEnds.{IsOutsideRun}
use Rattle.nd_elements.specs.along.AxisLanes.{LanePlaces, IsPairing}
use Rattle.nd_elements.specs.along.RemovedIndex.{removed_shape}
use Rattle.nd_elements.specs.along.CallsRisingAlongLanes.{next_index, VisitedAlong, CallableAlong}

-- Returns what the map `stored` has `k` places after `p`.
abbrev pub run_of : {A : Type 0} → (ℕ → Option A) → ℕ → ℕ → Option A
run_of stored p k = stored (p + k)

-- Returns what the region `r` has `k` places after `p`.
abbrev pub run_at : {A : Type 0} → Region A → ℕ → ℕ → Option A
run_at r p k = region_stored r (p + k)

-- Every place but `z` holds in `new` what it holds in `old`.
abbrev pub LeavesAllBut : {S A : Type 0} → (S → ℕ → Option A) → ℤ → S → S → Type 0
LeavesAllBut stored z old new = (p : ℕ) → ¬ (pos p ≡ z) → stored new p ≡ stored old p

-- The `count` places from `p` on and the `count` places from `q` on have no place in common.
abbrev pub AreRunsApart : ℕ → ℕ → ℕ → Type 0
AreRunsApart p q count = (j k : ℕ) → j < count → k < count → ¬ (p + j ≡ q + k)

-- Each index of the shape with the coordinate 0 at the axis `a` has in `new` its element in `old`.
abbrev pub StartsAlong : {A : Type 0} → List ℕ → ℕ → (List ℕ → Option A) → (List ℕ → Option A) → Type 0
StartsAlong shape a old new = (i : List ℕ) → IsTrue (in_box shape i) → slice_index i a ≡ 0 → new i ≡ old i

-- The new element after each index along the axis `a` is what `h` gives of the new element at the index and the old one
-- after it.
abbrev pub AreAccumulatedBy : {A : Type 0} → (A → A → A) → ℕ → (List ℕ → Option A) → (List ℕ → Option A) → Type 0
AreAccumulatedBy h a old new = (i : List ℕ) → new (next_index a i) ≡ option_both h (new i) (old (next_index a i))

module _ {F A : Type 0} (g : Mut F (Bor A × (MutBor A × Unit {0})) (Unit {0} × (MutBor A × Unit {0}))) where
  -- A call of `f` with a `&` to `x` and a `&mut` to `y` may leave `z` in place of `y` and the closure as `f'`.
  pub record CalledAfter (f : F) (x y : A) (f' : F) (z : A) : Type 0 where
    pub shown : Bor A
    pub shows : shown.now ≡ x
    pub given : MutBor A
    pub gives : given.now ≡ y
    pub left : MutBor A
    pub called : Called g f (shown, (given, tt)) (tt, (left, tt)) f'
    pub leaves : left.now ≡ z

  -- Says that a call was shown the element `before`, changed the element after it from `old` to `new`, and led from the
  -- closure `p` to `q`.
  abbrev pub ChangesAfter : Option A → Option A → Option A → F → F → Type 0
  ChangesAfter before old new p q = (x : A) × (y : A) × (z : A) × (before ≡ Some x) × (old ≡ Some y) × (new ≡ Some z) × CalledAfter p x y q z

  -- Says that the closure `p` may be called with a `&` to `before` and a `&mut` to `element`.
  abbrev pub TakesAfter : Option A → Option A → F → Type 0
  TakesAfter before element p = (x : Bor A) (y : MutBor A) → before ≡ Some x.now → element ≡ Some y.now → g.pre p (x, (y, tt))

  -- Says that each call of `f` leaves what `h` gives of both elements in place of the second, and leaves `f` as it is.
  abbrev pub AccumulatesBy : (A → A → A) → F → Type 0
  AccumulatesBy h f = (x y z : A) (f' : F) → CalledAfter f x y f' z → (f' ≡ f) × (z ≡ h x y)

  -- For every function `h` that tells what `f` leaves, the new element after each index along the axis `a` is what `h`
  -- gives of the new element at the index and the old one after it.
  abbrev pub AccumulatesAlike : F → ℕ → (List ℕ → Option A) → (List ℕ → Option A) → Type 0
  AccumulatesAlike f a old new = (h : A → A → A) → AccumulatesBy h f → AreAccumulatedBy h a old new

  -- Says that one call for each index but the first of each lane, shown the new element before it, changed the old
  -- element to the new one, from `f` on and along each lane in rising order.
  abbrev pub AccumulatesAll : List ℕ → ℕ → (List ℕ → Option A) → (List ℕ → Option A) → F → Type 0
  AccumulatesAll shape a old new f = (last : F) × VisitedAlong (removed_shape shape a) a (λ p i q. ChangesAfter (new i) (old (next_index a i)) (new (next_index a i)) p q) f last

  -- Says that whichever elements were changed from `f` on, along each lane in rising order, the next call may be made.
  abbrev pub AccumulableAlong : List ℕ → ℕ → (List ℕ → Option A) → F → Type 0
  AccumulableAlong shape a old f =
      CallableAlong (removed_shape shape a) a (StartsAlong shape a old) (λ left p i q. ChangesAfter (left i) (old (next_index a i)) (left (next_index a i)) p q)
      (λ left p i. TakesAfter (left i) (old (next_index a i)) p) f

  -- ---- Elements told by their places.
  -- Says that a call of `f` was shown the element of `r` at the place `p` and changed that of `s` at the place `q`.
  -- Both regions and the closure are then those of `out`.
  abbrev pub ChangedBetween : Region A → ℕ → Region A → ℕ → F → Region A × Region A × F → Type 0
  ChangedBetween r p s q f out =
      (x : A) × (y : A) × (z : A) × (region_stored r p ≡ Some x) × (region_stored s q ≡ Some y) × (out.0 ≡ r) × (out.1 ≡ with_element s q z) × CalledAfter f x y out.2 z

  -- Says that a call of `f` was shown the element of `r` at the place `p` and changed that of `r` at the place `q`. The
  -- region and the closure are then those of `out`.
  abbrev pub ChangedInside : Region A → ℕ → ℕ → F → Region A × F → Type 0
  ChangedInside r p q f out =
      (x : A) × (y : A) × (z : A) × (region_stored r p ≡ Some x) × (region_stored r q ≡ Some y) × (out.0 ≡ with_element r q z) × CalledAfter f x y out.1 z

  -- Along a lane, `count` calls were made one after the other, each shown the new element at a place and changing that
  -- at the next. They led from `first` to `last`, and nothing else changed.
  pub record IsAccumulated (place : ℕ → ℤ) (count : ℕ) (old new : ℕ → Option A) (first last : F) : Type 0 where
    pub calls : RanTo (λ p k q. ChangesAfter (stored_at new (place k)) (stored_at old (place (suc k))) (stored_at new (place (suc k))) p q) first count last
    pub left : (p : ℕ) → ((k : ℕ) → k < count → ¬ (place (suc k) ≡ pos p)) → new p ≡ old p

  -- Says that from the closure `first` on, once all earlier calls along a lane were made, the next of its `count` calls
  -- may be.
  abbrev pub TakesLane : (ℕ → ℤ) → ℕ → (ℕ → Option A) → F → Type 0
  TakesLane place count old first =
      (left : ℕ → Option A) (k : ℕ) (now : F) → k < count → left 0 ≡ stored_at old (place 0)
      → RanTo (λ p j q. ChangesAfter (left j) (stored_at old (place (suc j))) (left (suc j)) p q) first k now → TakesAfter (left k) (stored_at old (place (suc k))) now

  -- ---- Lanes that are gone along in parallel: the elements of all lanes at one coordinate.
  -- Says that for each lane below `count` a call was shown its element of `before` and changed that of `old` to that of
  -- `left`, one lane after the other, from the closure `first` to `last`.
  abbrev pub ChangesRow : (ℕ → Option A) → (ℕ → Option A) → (ℕ → Option A) → F → ℕ → F → Type 0
  ChangesRow before old left first count last = RanTo (λ p r q. ChangesAfter (before r) (old r) (left r) p q) first count last

  -- Says that from the closure `first` on, once the calls for all lower lanes were made, that for the next lane below
  -- `count` may be.
  abbrev pub TakesRow : (ℕ → Option A) → (ℕ → Option A) → ℕ → F → Type 0
  TakesRow before old count first = (left : ℕ → Option A) (r : ℕ) (now : F) → r < count → ChangesRow before old left first r now → TakesAfter (before r) (old r) now

  -- Says that for each item of `old` a call was shown that of `before` and changed it to that of `left`, one item after
  -- the other, from the closure `f` to `last`.
  abbrev pub ChangesSlice : List A → List A → List A → F → F → Type 0
  ChangesSlice before old left f last = ChangesRow (slice_get before) (slice_get old) (slice_get left) f (length old) last

  -- Says that from the closure `f` on, once the calls for all lower items were made, that for the next item of `old`
  -- may be.
  abbrev pub TakesSlice : List A → List A → F → Type 0
  TakesSlice before old f = TakesRow (slice_get before) (slice_get old) (length old) f

  -- Says that calls of `f` were shown the `count` elements of `r` from `p` on, and changed those of `s` from `q` on,
  -- one by one. Both regions and the closure are then those of `out`.
  abbrev pub RowChangedBetween : Region A → ℕ → Region A → ℕ → ℕ → F → Region A × Region A × F → Type 0
  RowChangedBetween r p s q count f out =
      (ws : List A) × (length ws ≡ count) × (out.0 ≡ r) × (out.1 ≡ with_run s q count ws) × ChangesRow (run_at r p) (run_at s q) (slice_get ws) f count out.2

  -- Says that calls of `f` were shown the `count` elements of `r` from `p` on, and changed those of `r` from `q` on,
  -- one by one, and nothing else. The region and the closure are then those of `out`.
  abbrev pub RowChangedInside : Region A → ℕ → ℕ → ℕ → F → Region A × F → Type 0
  RowChangedInside r p q count f out =
      (borrow_of out.0 ≡ borrow_of r) × ChangesRow (run_at r p) (run_at r q) (run_at out.0 q) f count out.1
      × ((i : ℕ) → IsOutsideRun q count i → region_stored out.0 i ≡ region_stored r i)

  -- ---- Calls by numbers: each number is that of a lane, and of a coordinate there that isn't the last.
  -- Says that the calls with the numbers below `count` led from `first` to `last`. The call `m`, at the coordinate
  -- `column m` of the lane `lane m`, was shown the element of `left` there and changed that of `old` after it to that
  -- of `left`.
  abbrev pub AccumulatesNumbered : (ℕ → ℕ) → (ℕ → ℕ) → (ℕ → ℕ → Option A) → (ℕ → ℕ → Option A) → F → ℕ → F → Type 0
  AccumulatesNumbered lane column old left first count last = RanTo (λ p m q. ChangesAfter (left (lane m) (column m)) (old (lane m) (suc (column m))) (left (lane m) (suc (column m))) p q) first count last

  -- Along each of `lanes` lanes, `count` calls were made, in some order in which the coordinates of each lane rise.
  -- They led from `first` to `last`, and nothing else changed.
  pub record AreAccumulated (place : ℕ → ℕ → ℤ) (lanes count : ℕ) (old new : ℕ → Option A) (first last : F) : Type 0 where
    pub all : ℕ
    pub lane : ℕ → ℕ
    pub column : ℕ → ℕ
    pub number : ℕ → ℕ → ℕ
    pub pairs : IsPairing lanes count all lane column number
    pub calls : AccumulatesNumbered lane column (λ r k. stored_at old (place r k)) (λ r k. stored_at new (place r k)) first all last
    pub left : (p : ℕ) → ((r k : ℕ) → r < lanes → k < count → ¬ (place r (suc k) ≡ pos p)) → new p ≡ old p

  -- Says that from the closure `first` on, once earlier calls were made in some order in which the coordinates of each
  -- lane rise, the next call in that order may be.
  abbrev pub TakesLanes : (ℕ → ℕ → ℤ) → ℕ → ℕ → (ℕ → Option A) → F → Type 0
  TakesLanes place lanes count old first =
      (all : ℕ) (lane column : ℕ → ℕ) (number : ℕ → ℕ → ℕ) → IsPairing lanes count all lane column number
      → (left : ℕ → ℕ → Option A) (m : ℕ) (now : F) → m < all → ((r : ℕ) → r < lanes → left r 0 ≡ stored_at old (place r 0))
      → AccumulatesNumbered lane column (λ r k. stored_at old (place r k)) left first m now
      → TakesAfter (left (lane m) (column m)) (stored_at old (place (lane m) (suc (column m)))) now

  -- ---- The elements of a storage at numbered places, or at the places of lanes.
  module _ {S : Type 0} (stored : S → ℕ → Option A) where
    -- Says that a call was shown the element at the number `k`, changed the next one from that of `old` to that of
    -- `new`, and led from the closure `f` to `last`.
    abbrev pub ChangesNext : Numbered → ℕ → S → S → F → F → Type 0
    ChangesNext at k old new f last = ChangesAfter (elements_at stored at old k) (elements_at stored at old (k + 1)) (elements_at stored at new (k + 1)) f last

    -- Says that the closure `f` may be called with a `&` to the element at the number `k` and a `&mut` to the next one.
    abbrev pub TakesNext : Numbered → ℕ → S → F → Type 0
    TakesNext at k s f = TakesAfter (elements_at stored at s k) (elements_at stored at s (k + 1)) f

    -- Says that calls for all numbers but the first, one after the other, each shown the new element before, changed
    -- `old` to `new` and led from `first` to `last`, and nothing else changed.
    abbrev pub AccumulatesLane : Numbered → S → S → F → F → Type 0
    AccumulatesLane at old new first last = IsAccumulated at.place (at.count - 1) (stored old) (stored new) first last

    -- Says that from the closure `f` on, once all earlier calls along the numbered places were made, the next may be.
    abbrev pub AccumulableLane : Numbered → S → F → Type 0
    AccumulableLane at s f = TakesLane at.place (at.count - 1) (stored s) f

    -- Says that calls along all lanes, in some order in which the coordinates of each lane rise, changed `old` to `new`
    -- and led from `first` to `last`, and nothing else changed.
    abbrev pub AccumulatesLanes : LanePlaces → S → S → F → F → Type 0
    AccumulatesLanes at old new first last = AreAccumulated at.place at.lanes (at.count - 1) (stored old) (stored new) first last

    -- Says that from the closure `f` on, once earlier calls were made in some order in which the coordinates of each
    -- lane rise, the next call in that order may be.
    abbrev pub AccumulableLanes : LanePlaces → S → F → Type 0
    AccumulableLanes at s f = TakesLanes at.place at.lanes (at.count - 1) (stored s) f

    -- Says that calls were shown the `count` elements of `old` from `p` on, and changed those from `q` on to those of
    -- `new`, one by one, from the closure `f` to `last`.
    abbrev pub ChangesNextRun : ℕ → ℕ → ℕ → S → S → F → F → Type 0
    ChangesNextRun p q count old new f last = ChangesRow (run_of (stored old) p) (run_of (stored old) q) (run_of (stored new) q) f count last

    -- Says that from the closure `f` on, once the calls for all earlier elements of both runs were made, the next may
    -- be: it is shown one of the `count` elements from `p` on and changes that from `q` on with the same number.
    abbrev pub TakesNextRun : ℕ → ℕ → ℕ → S → F → Type 0
    TakesNextRun p q count s f = TakesRow (run_of (stored s) p) (run_of (stored s) q) count f
