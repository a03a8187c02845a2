-- Closures that fold the lanes of an axis, each from a first value on.
use Rattle.std.specs.Prelude.{◌≡◌, ◌*◌, ◌/◌, ◌%◌, ◌<◌, ℕ, suc, List, length, Option, Some, slice_get, vec_len}
use Rattle.std.specs.Borrow.{Bor}
use Rattle.std.specs.Fn.{Mut, Called}
use Rattle.std.specs.declared.vec.Vec.{Vec}
use Rattle.nd_layout.specs.declared.walk.lane.Lane.{Lane}
use Rattle.nd_elements.specs.StoragePlaces.{stored_at}
use Rattle.nd_elements.specs.elements.ElementFolds.{RanTo}
use Rattle.nd_elements.specs.along.AxisLanes.{LanePlaces, IsPairing, parallel_lanes}
use Rattle.nd_elements.specs.along.PlacesOfAxisLanes.{lanes_in}
use Rattle.nd_elements.specs.declared.along.axis_lanes.AxisLanes.{AxisLanes}

-- The state that calls change is the closure. `totals r k` is the total of the lane `r` before the coordinate `k`.
module _ {F B A : Type 0} (g : Mut F (Bor B × (Bor A × Unit {0})) B) where
  -- A call was shown the total `before` and the element, returned the total `after`, and led from the closure `p` to
  -- `q`.
  pub record FoldsBetween (before : Option B) (element : Option A) (after : Option B) (p q : F) : Type 0 where
    pub total : Bor B
    pub shows : before ≡ Some total.now
    pub shown : Bor A
    pub is : element ≡ Some shown.now
    pub answer : B
    pub gives : after ≡ Some answer
    pub called : Called g p (total, (shown, tt)) answer q

  -- Says that the closure `p` may be called with references to the total `before` and to the element.
  abbrev pub MayFold : Option B → Option A → F → Type 0
  MayFold before element p = (b : Bor B) (x : Bor A) → before ≡ Some b.now → element ≡ Some x.now → g.pre p (b, (x, tt))

  -- ---- One lane: a call is shown the total so far and an element. The state that calls change is the closure with the
  -- total.
  -- Says that a call for the element led from the closure and total `p` to `q`.
  abbrev pub FoldsShown : Option A → F × B → F × B → Type 0
  FoldsShown element p q = FoldsBetween (Some p.1) element (Some q.1) p.0 q.0

  -- Says that calls for the elements with the numbers below `count`, one after the other, led from the first total
  -- `init` to `y`, and from the closure `f` to `f'`.
  abbrev pub FoldsRun : (ℕ → Option A) → ℕ → B → F → B → F → Type 0
  FoldsRun found count init f y f' = RanTo (λ p k q. FoldsShown (found k) p q) (f, init) count (f', y)

  -- Says that from `init` and `f` on, once all elements with lower numbers were folded, a call may be made for the next
  -- element with a number below `count`.
  abbrev pub TakesRun : (ℕ → Option A) → ℕ → B → F → Type 0
  TakesRun found count init f = (k : ℕ) (now : F × B) → k < count → RanTo (λ p j q. FoldsShown (found j) p q) (f, init) k now → MayFold (Some now.1) (found k) now.0

  -- ---- Lanes that are gone along in parallel: the total of each and its element at one coordinate, one lane after the
  -- other.
  -- Says that for each lane below `count` a call was shown its total of `before` and its element, and returned its
  -- total of `after`, one lane after the other, from the closure `first` to `last`.
  abbrev pub FoldsInParallel : (ℕ → Option B) → (ℕ → Option A) → (ℕ → Option B) → F → ℕ → F → Type 0
  FoldsInParallel before elements after first count last = RanTo (λ p r q. FoldsBetween (before r) (elements r) (after r) p q) first count last

  -- Says that from the closure `f` on, once the calls for all lower lanes were made, that for the next lane below
  -- `count` may be.
  abbrev pub TakesInParallel : (ℕ → Option B) → (ℕ → Option A) → ℕ → F → Type 0
  TakesInParallel before elements count f = (after : ℕ → Option B) (r : ℕ) (now : F) → r < count → FoldsInParallel before elements after f r now → MayFold (before r) (elements r) now

  -- Says that for each item of `before` a call was shown it and that of `elements`, and returned that of `after`, one
  -- item after the other, from the closure `first` to `last`.
  abbrev pub FoldsSlice : List B → List A → List B → F → F → Type 0
  FoldsSlice before elements after first last = FoldsInParallel (slice_get before) (slice_get elements) (slice_get after) first (length before) last

  -- ---- Calls by numbers: each number is that of a lane and a coordinate.
  -- Says that the calls with the numbers below `count` led from `first` to `last`. The call `m`, for the coordinate
  -- `column m` of the lane `lane m`, led from the total before this coordinate to the total after it.
  abbrev pub FoldsNumbered : (ℕ → ℕ) → (ℕ → ℕ) → (ℕ → ℕ → Option A) → (ℕ → ℕ → Option B) → F → ℕ → F → Type 0
  FoldsNumbered lane column elements totals first count last =
      RanTo (λ p m q. FoldsBetween (totals (lane m) (column m)) (elements (lane m) (column m)) (totals (lane m) (suc (column m))) p q) first count last

  -- Says that from the closure `f` on, once all calls with lower numbers were made, the next call with a number below
  -- `all` may be, where each of the `lanes` lanes has its first total from `start`.
  abbrev pub FoldableNumbered : (ℕ → ℕ) → (ℕ → ℕ) → ℕ → ℕ → (ℕ → ℕ → Option A) → (ℕ → Option B) → F → Type 0
  FoldableNumbered lane column lanes all elements start f =
      (totals : ℕ → ℕ → Option B) (m : ℕ) (now : F) → m < all → ((r : ℕ) → r < lanes → totals r 0 ≡ start r) → FoldsNumbered lane column elements totals f m now
      → MayFold (totals (lane m) (column m)) (elements (lane m) (column m)) now

  -- Says that all calls with numbers below `all` were made from the closure `f` on, where each of the `lanes` lanes has
  -- its first total from `start`, and in `found` its total after `count` coordinates.
  abbrev pub AreFoldedTo : (ℕ → ℕ) → (ℕ → ℕ) → ℕ → ℕ → ℕ → (ℕ → ℕ → Option A) → (ℕ → Option B) → F → (ℕ → Option B) → Type 0
  AreFoldedTo lane column lanes count all elements start f found =
      (totals : ℕ → ℕ → Option B) × ((r : ℕ) → r < lanes → totals r 0 ≡ start r) × ((r : ℕ) → r < lanes → found r ≡ totals r count) × ((last : F) × FoldsNumbered lane column elements totals f all last)

  -- Says that in each order in which the coordinates of each lane rise, once earlier calls were made from the closure
  -- `f` on, the next call may be. There are `lanes` lanes of `count` elements, each with the first total `init`.
  abbrev pub FoldableLanes : ℕ → ℕ → (ℕ → ℕ → Option A) → B → F → Type 0
  FoldableLanes lanes count elements init f =
      (all : ℕ) (lane column : ℕ → ℕ) (number : ℕ → ℕ → ℕ) → IsPairing lanes count all lane column number → FoldableNumbered lane column lanes all elements (λ r. Some init) f

  -- All calls were made from the closure `f` on, in some order in which the coordinates of each lane rise. Each lane
  -- has the first total `init`, and in `found` its total after its `count` elements.
  pub record AreLanesFolded (lanes count : ℕ) (elements : ℕ → ℕ → Option A) (init : B) (f : F) (found : ℕ → Option B) : Type 0 where
    pub all : ℕ
    pub lane : ℕ → ℕ
    pub column : ℕ → ℕ
    pub number : ℕ → ℕ → ℕ
    pub pairs : IsPairing lanes count all lane column number
    pub folded : AreFoldedTo lane column lanes count all elements (λ r. Some init) f found

  -- ---- The elements of a storage at the places of lanes.
  module _ {S : Type 0} (stored : S → ℕ → Option A) (at : LanePlaces) where
    -- Returns the element that the storage `s` holds at the number `k` of the lane `r`.
    abbrev pub lanes_at : S → ℕ → ℕ → Option A
    lanes_at s r k = stored_at (stored s) (at.place r k)

    -- Says that in each order in which the coordinates of each lane rise, once earlier calls were made from the closure
    -- `f` on, the next call may be. Each lane has the first total `init`.
    abbrev pub LanesFoldable : S → B → F → Type 0
    LanesFoldable s init f = FoldableLanes at.lanes at.count (lanes_at s) init f

    -- Says that all calls were made from the closure `f` on, in some order in which the coordinates of each lane rise.
    -- Each lane has the first total `init`, and in the vector `found` its last.
    abbrev pub LanesFoldedTo : {Z : Type 0} → S → B → F → Vec B Z → Type 0
    LanesFoldedTo s init f found = AreLanesFolded at.lanes at.count (lanes_at s) init f (slice_get found.items)

    -- Says that with one coordinate after the other, and at each one lane after the other, once earlier calls were made
    -- from the closure `f` on, the next call may be. Each lane has its first total from `start`.
    abbrev pub FoldableInParallel : S → (ℕ → Option B) → F → Type 0
    FoldableInParallel s start f = FoldableNumbered (λ m. m % at.lanes) (λ m. m / at.lanes) at.lanes (at.count * at.lanes) (lanes_at s) start f

    -- Says that all calls were made from the closure `f` on, with one coordinate after the other, and at each one lane
    -- after the other. Each lane has its first total from `start`, and in `found` its last.
    abbrev pub AreFoldedInParallel : S → (ℕ → Option B) → F → (ℕ → Option B) → Type 0
    AreFoldedInParallel s start f found = AreFoldedTo (λ m. m % at.lanes) (λ m. m / at.lanes) at.lanes at.count (at.count * at.lanes) (lanes_at s) start f found

  -- Says that all lanes of `lanes` were folded from the closure `f` on, in some order in which the coordinates of each
  -- lane rise. Each lane has the first total `init`, and in the vector `found` its last.
  abbrev pub FoldsEachLane : {S Z : Type 0} → (S → ℕ → Option A) → AxisLanes → S → B → F → Vec B Z → Type 0
  FoldsEachLane stored lanes s init f found = LanesFoldedTo stored (lanes_in lanes) s init f found

  -- As many lanes as there are totals in `starts`. The first is `lane`, and each next one begins one place further.
  module _ {S Z : Type 0} (stored : S → ℕ → Option A) (lane : Lane) (s : S) (starts : Vec B Z) where
    -- Says that with one coordinate after the other, and at each one lane after the other, once earlier calls were made
    -- from the closure `f` on, the next call may be.
    abbrev pub FoldableFrom : F → Type 0
    FoldableFrom f = FoldableInParallel stored (parallel_lanes (vec_len starts) lane) s (slice_get starts.items) f

    -- Says that all calls were made from the closure `f` on, with one coordinate after the other, and at each one lane
    -- after the other. Each lane has in the vector `found` its last total.
    abbrev pub FoldedFrom : F → Vec B Z → Type 0
    FoldedFrom f found = AreFoldedInParallel stored (parallel_lanes (vec_len starts) lane) s (slice_get starts.items) f (slice_get found.items)
