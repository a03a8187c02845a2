-- A run, laid out as one axis from its lowest place on.
use Rattle.nd_layout.proofs.NamesFromOtherCrates.{◌≡◌, ℕ, ◌+◌, ◌-◌, ◌/◌, ◌<◌, ◌≤◌, Bool, true, false, ltb, List, [], ◌∷◌, length, drop, get_or, set, refl, ap, sym, ◌∙◌, arith, ℤ, pos, negsuc, ◌+ℤ◌, ltb-true, lt-ltb, false≢true, drop_more, drop_all, length-set, get_or-set_same, get_or-set_other, in_box, size_of, row_rank, HasCheckedSize, displacement_of, place_of, span_of, IsSeparated, row_rank_below, nonzero_product-size_of, index_at-row_rank}
use Rattle.std.proofs.Common.{neg_ℤ}
use borrow.Author.Differences.{neg_is}
use Rattle.nd_layout.specs.ValidMemoryPlaces.{is_place, ReachesPlaces}
use Rattle.nd_layout.specs.RanksAndReshapeStrides.{IsRun}
use Rattle.nd_layout.specs.StridesAfterLayoutCalls.{reach_down}
use Rattle.nd_layout.specs.RowMajorWalk.{place_at_rank, IsOneLane, IsRearranged, IsRejoined}
use Rattle.nd_layout.proofs.Integers.{sums}
use Rattle.nd_layout.proofs.DistinctPlaces.{same_index}
use Rattle.nd_layout.proofs.reshape_lemmas.RunFromSpan.{above_low, above_low-is, above_low-lt, each_above_low}
use Rattle.nd_layout.proofs.reshape_lemmas.RunBySpanAndStrides.{run_strides, run_span}
use Rattle.nd_layout.proofs.order_lemmas.AxisJoins.{ones_in_front, joined_order, joined_checked}
use Rattle.nd_layout.proofs.order_lemmas.RearrangedPlaces.{rearranged_again}

-- so far above the lowest place
pub from_low : (offset down k : ℕ) (z : ℤ) → down ≤ offset → z ≡ neg_ℤ (pos down) +ℤ pos k → pos offset +ℤ z ≡ pos (offset - down + k)
from_low offset down k z room e = omega (arith, sums, neg_is (pos down), e, room)

pub low_room : (offset down p : ℕ) (z : ℤ) → z ≡ neg_ℤ (pos down) +ℤ pos 0 → pos offset +ℤ z ≡ pos p → down ≤ offset
low_room offset down p z e q = omega (arith, sums, neg_is (pos down), e, q)

above_same : (down k m : ℕ) (z : ℤ) → z ≡ neg_ℤ (pos down) +ℤ pos k → z ≡ neg_ℤ (pos down) +ℤ pos m → m ≡ k
above_same down k m z e q = omega (arith, sums, neg_is (pos down), e, q)

pub is_number : (z : ℤ) → is_place z ≡ true → (p : ℕ) × (z ≡ pos p)
is_number (pos p) h = (p, refl)
is_number (negsuc p) h = absurd (false≢true h)

-- what is relaid out has a place for each index
pub rearranged_reach : (p : ℕ) (ns : List ℕ) (ss : List ℤ) (q : ℕ) (ms : List ℕ) (ts : List ℤ) → IsRearranged p ns ss q ms ts → ReachesPlaces p ns ss → ReachesPlaces q ms ts
rearranged_reach p ns ss q ms ts order reach i h =
    let r = row_rank ms i in
    let below = row_rank_below ms i h in
    let same : place_of q ts i ≡ place_of p ss (order.index_of r) = ap (place_of q ts) (sym (index_at-row_rank ms i h)) ∙ order.same r below in
    ap is_place same ∙ reach (order.index_of r) (order.within r below)

-- the place of a rank along one axis of stride 1
along_memory : (low n r : ℕ) → place_at_rank low (n ∷ []) (pos 1 ∷ []) r ≡ pos (low + r)
along_memory low n r =
    let whole : r / 1 ≡ r = omega arith in
    rw whole (omega (arith, sums))

module _ (offset : ℕ) (ns : List ℕ) (ss : List ℤ) (long : length ss ≡ length ns) (reach : ReachesPlaces offset ns ss) (some : 0 < size_of ns) (run : IsRun ns ss) where
  abbrev low : ℕ
  low = offset - reach_down ns ss

  apart : IsSeparated ns ss
  apart = run_strides ns ss long some run

  full : span_of ns ss + 1 ≡ size_of ns
  full = run_span ns ss long some run

  room : reach_down ns ss ≤ offset
  room =
      let i = each_above_low ns ss long apart full 0 some in
      let p = is_number (place_of offset ss i.0) (reach i.0 i.1) in
      low_room offset (reach_down ns ss) p.0 (displacement_of ss i.0) i.2 p.1

  -- the index that lies so far above the lowest place
  abbrev picked : (k : ℕ) (b : Bool) → ltb k (size_of ns) ≡ b → List ℕ
  picked k true e = (each_above_low ns ss long apart full k (ltb-true k (size_of ns) e)).0
  picked k false e = []

  abbrev index_of : ℕ → List ℕ
  index_of k = picked k (ltb k (size_of ns)) refl

  picked_there : (k : ℕ) (b : Bool) (e : ltb k (size_of ns) ≡ b) → k < size_of ns → (in_box ns (picked k b e) ≡ true) × (displacement_of ss (picked k b e) ≡ neg_ℤ (pos (reach_down ns ss)) +ℤ pos k)
  picked_there k true e h = let i = each_above_low ns ss long apart full k (ltb-true k (size_of ns) e) in (i.1, i.2)
  picked_there k false e h = absurd (false≢true (sym e ∙ lt-ltb k (size_of ns) h))

  there : (k : ℕ) → k < size_of ns → (in_box ns (index_of k) ≡ true) × (displacement_of ss (index_of k) ≡ neg_ℤ (pos (reach_down ns ss)) +ℤ pos k)
  there k h = picked_there k (ltb k (size_of ns)) refl h

  abbrev rank_of : List ℕ → ℕ
  rank_of i = above_low ns ss (displacement_of ss i)

  rank_below : (i : List ℕ) → in_box ns i ≡ true → rank_of i < size_of ns
  rank_below i h = above_low-lt ns ss i full h

  one_axis : IsRearranged offset ns ss low (size_of ns ∷ []) (pos 1 ∷ [])
  one_axis = record {
    index_of = index_of;
    rank_of = rank_of;
    within = λ r h. (there r (omega (arith, h))).0;
    below = λ i h. let below = rank_below i h in omega (arith, below);
    there = λ r h.
        let at = there r (omega (arith, h)) in
        above_same (reach_down ns ss) r (rank_of (index_of r)) (displacement_of ss (index_of r)) at.1 (above_low-is ns ss (index_of r) at.0);
    back = λ i h.
        let at = there (rank_of i) (rank_below i h) in
        same_index ns ss (index_of (rank_of i)) i long apart at.0 h (at.1 ∙ sym (above_low-is ns ss i h));
    same = λ r h.
        let at = there r (omega (arith, h)) in
        along_memory low (size_of ns) r ∙ sym (from_low offset (reach_down ns ss) r (displacement_of ss (index_of r)) room at.1);
  }

  -- the same after axes of length 1
  module _ (ms : List ℕ) (ts : List ℤ) (as_many : length ts ≡ length ms) (axes : 0 < length ms) (lane : IsOneLane (size_of ns) ms ts) where
    last_ms : drop (length ms - 1) ms ≡ size_of ns ∷ []
    last_ms =
        let k = length ms - 1 in
        drop_more ms k 1 (omega (arith, axes)) ∙ (ap (λ l. get_or ms k 1 ∷ l) (drop_all (k + 1) ms (omega (arith, axes))) ∙ ap (λ n. n ∷ []) lane.long)

    last_ts : drop (length ms - 1) ts ≡ pos 1 ∷ []
    last_ts =
        let k = length ms - 1 in
        let here : k ≡ length ts - 1 = omega (arith, as_many) in
        drop_more ts k (pos 1) (omega (arith, axes, as_many)) ∙ (ap (λ l. get_or ts k (pos 1) ∷ l) (drop_all (k + 1) ts (omega (arith, axes, as_many))) ∙ ap (λ s. s ∷ []) (ap (λ j. get_or ts j (pos 1)) here ∙ lane.by_one))

    joined : IsRejoined (size_of ns ∷ []) (pos 1 ∷ []) ms ts
    joined =
        let front = ones_in_front (length ms - 1) ms ts as_many (omega (arith, axes)) (λ k h. lane.ones k (omega (arith, h, axes))) in
        rw (last_ms, last_ts) at front

    pub line_order : IsRearranged offset ns ss low ms ts
    line_order = rearranged_again offset ns ss low (size_of ns ∷ []) (pos 1 ∷ []) low ms ts one_axis (joined_order low (size_of ns ∷ []) (pos 1 ∷ []) ms ts joined)

    pub line_reach : ReachesPlaces low ms ts
    line_reach = rearranged_reach offset ns ss low ms ts line_order reach

    pub line_checked : HasCheckedSize ns → HasCheckedSize ms
    line_checked checked =
        let whole = nonzero_product-size_of ns some in
        let one = nonzero_product-size_of (size_of ns ∷ []) (omega (arith, some)) in
        joined_checked low (size_of ns ∷ []) (pos 1 ∷ []) ms ts joined (omega (arith, some)) (omega (arith, one, whole, checked))

    pub line_spread : HasCheckedSize ns → span_of ms ts < 9223372036854775808
    line_spread checked =
        let whole = nonzero_product-size_of ns some in
        omega (arith, whole, checked, joined.span)

-- the axes after the loop, and the last one stretched
pub stretched : (count : ℕ) (ms : List ℕ) (ts : List ℤ) (last : ℕ) → length ts ≡ length ms → length ms ≡ last + 1 → ((k : ℕ) → k < last → get_or ms k 0 ≡ 1) → IsOneLane count (set ms last count) (set ts last (pos 1))
stretched count ms ts last many all ones =
    let ms_long = length-set ms last count in
    let ts_long = length-set ts last (pos 1) in
    let at_ms : length (set ms last count) - 1 ≡ last = omega (arith, ms_long, all) in
    let at_ts : length (set ts last (pos 1)) - 1 ≡ last = omega (arith, ts_long, many, all) in
    record {
      long = ap (λ j. get_or (set ms last count) j 1) at_ms ∙ get_or-set_same ms last count 1 (omega (arith, all));
      by_one = ap (λ j. get_or (set ts last (pos 1)) j (pos 1)) at_ts ∙ get_or-set_same ts last (pos 1) (pos 1) (omega (arith, all, many));
      ones = λ k h. get_or-set_other ms last k count 0 (omega (arith, h, ms_long, all)) ∙ ones k (omega (arith, h, ms_long, all));
    }

-- where there are no axes there is one place
pub no_axes_lane : (ns : List ℕ) (ss : List ℤ) → length ss ≡ length ns → length ns ≡ 0 → IsOneLane (size_of ns) ns ss
no_axes_lane [] [] many none = record { long = refl; by_one = refl; ones = λ k h. absurd (omega (arith, h)) }
no_axes_lane [] (s ∷ ss) many none = absurd (omega arith)
no_axes_lane (n ∷ ns) ss many none = absurd (omega (arith, none))
