-- A lane is a part of its places: what holds of all of them holds along it, and what is found along it is found there.
use Rattle.nd_elements.proofs.NamesFromOtherCrates.{◌≡◌, ◌+◌, ◌<◌, ◌≤◌, ◌∙◌, ℕ, pos, ap, sym, arith, Option, Some, IsTrue, is_some, AreLanesOf, along, ranked, IsLane, Lane, Lanes, Places, lane_of}
use Rattle.nd_elements.specs.LackOfMemory.{MayLackBelow}
use Rattle.nd_elements.specs.EqualClones.{ClonesAreEqual}
use Rattle.nd_elements.specs.ElementsAtNumberedPlaces.{PlacesDiffer}
use Rattle.nd_elements.specs.StoragePlaces.{stored_at, names_place}
use Rattle.nd_elements.proofs.RewrittenElements.{later_same}

module _ (places : Places) (lanes : Lanes) (lane : Lane) (of : AreLanesOf places lanes) (given : IsLane lanes.first lanes.lengths.now lanes.strides.now lanes.rank lane.place lane.count lane.stride) where
  lies : IsLane places.first places.lengths.now places.strides.now lanes.rank lane.place lane.count lane.stride
  lies = lane_of places lanes lane of given

  within : (j : ℕ) → j < lane.count → lanes.rank + j < (ranked places).count
  within j below = let all = lies.within in omega (arith, all, below)

  pub some_place : 0 < (ranked places).count
  some_place = let all = lies.within in let some = lies.some in omega (arith, all, some)

  pub lane_apart : PlacesDiffer (ranked places) → PlacesDiffer (along lane)
  lane_apart apart i j under below same =
      omega (arith, apart (lanes.rank + i) (lanes.rank + j) (within i under) (within j below) (sym (lies.places i under) ∙ (same ∙ lies.places j below)))

  -- room for as many as there are places is room for those of the lane after those before it
  pub room_first : (now most : ℕ) → now ≡ lanes.rank → (ranked places).count ≤ most → now + lane.count ≤ most
  room_first now most is room = let all = lies.within in omega (arith, all, is, room)

  pub room_after : (had now most : ℕ) → now ≡ had + lanes.rank → had + (ranked places).count ≤ most → now + lane.count ≤ most
  room_after had now most is room = let all = lies.within in omega (arith, all, is, room)

  module _ {A : Type 0} (old : ℕ → Option A) where
    pub lane_shows : (j : ℕ) → j < lane.count → stored_at old ((along lane).place j) ≡ stored_at old ((ranked places).place (lanes.rank + j))
    lane_shows j below = ap (stored_at old) (lies.places j below)

    pub lane_refused : (is_infallible : A → Type 0) → MayLackBelow is_infallible (λ k. stored_at old ((along lane).place k)) lane.count → MayLackBelow is_infallible (λ k. stored_at old ((ranked places).place k)) (ranked places).count
    lane_refused is_infallible refused = (lanes.rank + refused.0, refused.1, within refused.0 refused.2, sym (lane_shows refused.0 refused.2) ∙ refused.3, refused.4)

    pub lane_holds : ((k : ℕ) → k < (ranked places).count → IsTrue (names_place old ((ranked places).place k))) → (k : ℕ) → k < lane.count → IsTrue (names_place old ((along lane).place k))
    lane_holds holds k below = ap is_some (lane_shows k below) ∙ holds (lanes.rank + k) (within k below)

    pub lane_clones : (is_clone : A → A → Type 0) → ((k : ℕ) (x : A) → k < (ranked places).count → stored_at old ((ranked places).place k) ≡ Some x → ClonesAreEqual is_clone x) → (k : ℕ) (x : A) → k < lane.count → stored_at old ((along lane).place k) ≡ Some x → ClonesAreEqual is_clone x
    lane_clones is_clone equal k x below is = equal (lanes.rank + k) x (within k below) (sym (lane_shows k below) ∙ is)

    -- the same once the lanes before it were written
    module _ (now : ℕ → Option A) (apart : PlacesDiffer (ranked places)) (left : (p : ℕ) → ((k : ℕ) → k < lanes.rank → ¬ ((ranked places).place k ≡ pos p)) → now p ≡ old p) where
      still_shows : (j : ℕ) → j < lane.count → stored_at now ((along lane).place j) ≡ stored_at old ((ranked places).place (lanes.rank + j))
      still_shows j below =
          ap (stored_at now) (lies.places j below)
          ∙ later_same (ranked places).place lanes.rank (ranked places).count apart old now left (lanes.rank + j) (omega arith) (within j below)

      pub still_holds : ((k : ℕ) → k < (ranked places).count → IsTrue (names_place old ((ranked places).place k))) → (k : ℕ) → k < lane.count → IsTrue (names_place now ((along lane).place k))
      still_holds holds k below = ap is_some (still_shows k below) ∙ holds (lanes.rank + k) (within k below)

      pub still_clones : (is_clone : A → A → Type 0) → ((k : ℕ) (x : A) → k < (ranked places).count → stored_at old ((ranked places).place k) ≡ Some x → ClonesAreEqual is_clone x) → (k : ℕ) (x : A) → k < lane.count → stored_at now ((along lane).place k) ≡ Some x → ClonesAreEqual is_clone x
      still_clones is_clone equal k x below is = equal (lanes.rank + k) x (within k below) (sym (still_shows k below) ∙ is)
