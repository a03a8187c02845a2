-- Elements moved into the order of fresh storage that is to grow along an axis.
use Rattle.nd_elements.proofs.NamesFromOtherCrates.{◌≡◌, ℕ, ◌<◌, true, List, ℤ, pos, ◌+ℤ◌, length, ap, ◌∙◌, arith, ints, Option, is_some, slice_get, in_box, size_of, place_of, IsSeparated, growing_strides, IsInGrowingOrder, place_at_rank}
use Rattle.nd_elements.specs.CollectedElements.{collected, stored_by_rank}
use Rattle.nd_elements.specs.StoragePlaces.{stored_at, names_place, HoldsAll}
use Rattle.nd_elements.specs.elements.ElementChanges.{AreDistinct}
use Rattle.nd_elements.proofs.elements_lemmas.ElementsCollectedInOrder.{get-collected}
use Rattle.nd_elements.proofs.elements_lemmas.ReplacedElements.{ranks_apart}
use Rattle.nd_elements.proofs.WriteAtOneIndex.{one_index}

module _ (axis offset : ℕ) (ns : List ℕ) (ss : List ℤ) (start : ℕ) (ms : List ℕ) (ts : List ℤ) (growing : IsInGrowingOrder axis offset ns ss start ms ts) where
  pub relaid_apart : length ss ≡ length ns → IsSeparated ns ss → AreDistinct (place_at_rank start ms ts) (size_of ms)
  relaid_apart many apart = ranks_apart offset ns ss start ms ts growing.order (λ i j on_i on_j e. one_index ns ss offset i j many (λ _. apart) on_i on_j e)

  module _ {A : Type 0} (stored : ℕ → Option A) (holds : HoldsAll stored offset ns ss) where
    pub relaid_holds : (r : ℕ) → r < size_of ms → is_some (stored_by_rank stored start ms ts r) ≡ true
    relaid_holds r below = ap (names_place stored) (growing.order.same r below) ∙ holds (growing.order.index_of r) (growing.order.within r below)

    pub relaid_element : (items : List A) (from : ℕ) (us : List ℤ) → items ≡ collected (stored_by_rank stored start ms ts) (size_of ms) → from ≡ 0 → us ≡ growing_strides axis ns
        → (i : List ℕ) → in_box ns i ≡ true → stored_at (slice_get items) (place_of from us i) ≡ stored_at stored (place_of offset ss i)
    relaid_element items from us put zero_first strides i h =
        (λ k. stored_at (slice_get (put k)) (place_of (zero_first k) (strides k) i))
        ∙ ap (stored_at (slice_get (collected (stored_by_rank stored start ms ts) (size_of ms)))) place
        ∙ get-collected (stored_by_rank stored start ms ts) (size_of ms) rank below relaid_holds
        ∙ ap (stored_at stored) (growing.order.same rank below ∙ ap (place_of offset ss) (growing.order.back i h))
      where
        rank : ℕ
        rank = growing.order.rank_of i

        below : rank < size_of ms
        below = growing.order.below i h

        place : place_of 0 (growing_strides axis ns) i ≡ pos rank
        place = ap (λ z. pos 0 +ℤ z) (growing.ranked i h) ∙ omega (arith, ints)
