-- Closures that are handed each lane of an axis to be written, once, in an order that is free, and return something.
use Rattle.std.specs.Prelude.{◌≡◌, ◌<◌, ℕ, List, length, [], ◌∷◌, Option, None, Some, ℤ, pos, nat_lt, slice_index, if◌then◌else◌}
use Rattle.std.specs.Borrow.{MutBor}
use Rattle.std.specs.Fn.{Mut, CalledAtMut}
use Rattle.std.specs.declared.vec.Vec.{Vec}
use Rattle.nd_region.specs.declared.divided_mutable_borrow.Region.{Region}
use Rattle.nd_region.specs.Region.{region_stored, borrow_of}
use Rattle.nd_elements.specs.declared.along.lane_mut.LaneMut.{LaneMut}
use Rattle.nd_elements.specs.CollectedElements.{stored_along}
use Rattle.nd_elements.specs.ShapeAndElements.{Meaning, inside}
use Rattle.nd_layout.specs.NumberedPlacesAndWalks.{Numbered}
use Rattle.nd_elements.specs.ElementsAtNumberedPlaces.{elements_at}
use Rattle.nd_elements.specs.StoragePlaces.{stored_at}
use Rattle.nd_elements.specs.along.AxisLanes.{LanePlaces}
use Rattle.nd_elements.specs.elements.ElementChanges.{IsChangedBy}
use Rattle.nd_elements.specs.elements.ElementMaps.{Replaces, TakesNumbered}
use Rattle.nd_elements.specs.elements.ElementMapsMut.{Collects}

-- Returns the meaning of an array with one axis that has the `count` elements that `at` has at the numbers from 0 on.
abbrev pub line_meaning : {A : Type 0} → (ℕ → Option A) → ℕ → Meaning A
line_meaning at count = record { shape = count ∷ []; at = λ k. inside (count ∷ []) k (at (slice_index k 0)) }

-- Returns the elements of the storage `s` at the numbered places as the meaning of an array with one axis.
abbrev pub line_at : {S A : Type 0} → (S → ℕ → Option A) → Numbered → S → Meaning A
line_at stored at s = line_meaning (elements_at stored at s) at.count

-- Every place but the numbered ones holds in `new` what it holds in `old`.
abbrev pub ChangesNoOther : {S A : Type 0} → (S → ℕ → Option A) → Numbered → S → S → Type 0
ChangesNoOther stored at old new = (p : ℕ) → ((k : ℕ) → k < at.count → ¬ (at.place k ≡ pos p)) → stored new p ≡ stored old p

-- Returns the lane `r` of `lanes` lanes as the meaning of an array with one axis, and `None` where there is no such
-- lane. `place r k` is the place with the number `k` of its `count` places.
abbrev pub lanes_held : {A : Type 0} → (ℕ → ℕ → ℤ) → ℕ → ℕ → (ℕ → Option A) → ℕ → Option (Meaning A)
lanes_held place lanes count stored r = if nat_lt r lanes then Some (line_meaning (λ k. stored_at stored (place r k)) count) else None

-- Returns what the lane `v` holds as the meaning of an array with one axis.
unfoldable pub lane_held : {A : Type 0} → LaneMut A → Meaning A
lane_held v = line_meaning (stored_along (region_stored v.region) v.lane.place v.lane.stride) v.lane.count

-- Returns how many elements the lane `v` has.
unfoldable pub lane_len : {A : Type 0} → LaneMut A → ℕ
lane_len v = v.lane.count

-- Says that `v` and `w` are the same lane of the same borrow.
abbrev pub IsSameLane : {A : Type 0} → LaneMut A → LaneMut A → Type 0
IsSameLane v w = (borrow_of w.region ≡ borrow_of v.region) × (w.lane ≡ v.lane)

-- Returns the element of the lane `v` with the number `k`, and `None` where the lane isn't so long.
abbrev pub held_at : {A : Type 0} → LaneMut A → ℕ → Option A
held_at v k = (lane_held v).at (k ∷ [])

module _ {F A B : Type 0} (g : Mut F (MutBor (LaneMut A) × Unit {0}) (B × (MutBor (LaneMut A) × Unit {0}))) where
  -- Says that a call of `f` for a lane that holds `lane` may leave it with `out.0`, return `out.1`, and leave the
  -- closure as `f'`.
  abbrev pub LeavesLane : F → Option (Meaning A) → Meaning A × B → F → Type 0
  LeavesLane f lane out f' = (v : LaneMut A) × (w : LaneMut A) × (lane ≡ Some (lane_held v)) × (out.0 ≡ lane_held w) × CalledAtMut g f v out.1 f' w

  -- Says that `f` may be called with a `&mut` to a lane that holds `lane`.
  abbrev pub MayBeHandedLane : F → Option (Meaning A) → Type 0
  MayBeHandedLane f lane = (v : MutBor (LaneMut A)) → lane ≡ Some (lane_held v.now) → g.pre f (v, tt)

  -- Says that each call leaves the lane that it is handed the same lane, whatever becomes of its elements.
  abbrev pub KeepsLanes : Type 0
  KeepsLanes = (f : F) (v w : LaneMut A) (b : B) (f' : F) → CalledAtMut g f v b f' w → IsSameLane v w

  -- Says that each call of `f` leaves at each number of the lane what `h` gives of the lane and the number, and leaves
  -- `f` as it is.
  abbrev pub LeavesLanesBy : (Meaning A → ℕ → Option A) → F → Type 0
  LeavesLanesBy h f = (v w : LaneMut A) (b : B) (f' : F) → CalledAtMut g f v b f' w → (f' ≡ f) × ((k : ℕ) → held_at w k ≡ h (lane_held v) k)

  -- Says that each call of `f` returns what `h` gives of the lane that it is handed, and leaves `f` as it is.
  abbrev pub AnswersHandedLanesBy : (Meaning A → B) → F → Type 0
  AnswersHandedLanesBy h f = (v w : LaneMut A) (b : B) (f' : F) → CalledAtMut g f v b f' w → (f' ≡ f) × (b ≡ h (lane_held v))

  -- ---- Lanes told by their places.
  -- Says that `f` was handed the lane of `r` that begins at `place`, has length `count` and goes on by `stride`. Then
  -- `out` has the region, of the same borrow with the same places, the closure, and what it returned.
  abbrev pub IsAnsweredInside : Region A → ℕ → ℕ → ℤ → F → Region A × (F × B) → Type 0
  IsAnsweredInside r place count stride f out =
      (borrow_of out.0 ≡ borrow_of r) × LeavesLane f (Some (line_meaning (stored_along (region_stored r) place stride) count)) (line_meaning (stored_along (region_stored out.0) place stride) count, out.1.1) out.1.0

  module _ (place : ℕ → ℕ → ℤ) where
    -- The first `done` lanes were handed out one after the other, which led from the closure `first` to the closure and
    -- results `last`, and nothing else changed.
    pub record AreHandedOut (lanes count done : ℕ) (old new : ℕ → Option A) (first : F) (last : F × List B) : Type 0 where
      pub calls : IsChangedBy (Replaces (Collects LeavesLane)) (λ r. pos r) done (lanes_held place lanes count old) (lanes_held place lanes count new) (first, []) last
      pub left : (p : ℕ) → ((r k : ℕ) → r < done → k < count → ¬ (place r k ≡ pos p)) → new p ≡ old p

  -- ---- The lanes of a storage.
  module _ {S : Type 0} (stored : S → ℕ → Option A) where
    -- Says that a call for the lane at the numbered places changed it from what `old` holds to what `new` holds,
    -- returned `last.1`, and led from the closure `first` to `last.0`.
    abbrev pub LeavesLaneAt : Numbered → S → S → F → F × B → Type 0
    LeavesLaneAt at old new first last = LeavesLane first (Some (line_at stored at old)) (line_at stored at new, last.1) last.0

    -- Says that the closure `f` may be called with a `&mut` to the lane that `s` has at the numbered places.
    abbrev pub TakesLaneAt : Numbered → S → F → Type 0
    TakesLaneAt at s f = MayBeHandedLane f (Some (line_at stored at s))

    -- Says that calls for all lanes, one after the other, changed `old` to `new` and led from the closure `first` to
    -- `last.0`, and nothing else changed. The vector `last.1` has what they returned.
    abbrev pub HandsOut : {Z : Type 0} → LanePlaces → S → S → F → F × Vec B Z → Type 0
    HandsOut at old new first last = AreHandedOut at.place at.lanes at.count at.lanes (stored old) (stored new) first (last.0, last.1.items)

    -- Says that calls for all lanes, one after the other, changed `old` to `new` and led from the closure `first` to
    -- `last`, and nothing else changed. What they returned isn't kept.
    abbrev pub HandsOutEach : LanePlaces → S → S → F → F → Type 0
    HandsOutEach at old new first last = (answers : List B) × (length answers ≡ at.lanes) × AreHandedOut at.place at.lanes at.count at.lanes (stored old) (stored new) first (last, answers)

    -- Says that from the closure `f` on, once all lanes with lower numbers were handed out, it may be called for the
    -- next.
    abbrev pub TakesAllLanes : LanePlaces → S → F → Type 0
    TakesAllLanes at s f = TakesNumbered LeavesLane MayBeHandedLane (lanes_held at.place at.lanes at.count (stored s)) f at.lanes
