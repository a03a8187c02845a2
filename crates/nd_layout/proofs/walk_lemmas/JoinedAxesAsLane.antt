-- Axes that go on where the next one ends, as one lane.
use Rattle.nd_layout.proofs.NamesFromOtherCrates.{◌≡◌, ℕ, zero, suc, ◌+◌, ◌*◌, ◌/◌, ◌%◌, ◌<◌, ◌≤◌, Bool, true, false, List, [], ◌∷◌, length, drop, get_or, refl, ap, sym, ◌∙◌, arith, false≢true, ℤ, pos, ◌+ℤ◌, ◌*ℤ◌, div-add-mod', div-eq_of_lt, mod-eq_of_lt, mod_below, div-one, mod-one, drop_all, drop_more, size_of, nonzero_product, index_at, HasCheckedSize, displacement_of, in_box-index_at, mul_comm}
use Rattle.nd_layout.specs.NumberedPlacesAndWalks.{by_rank, NumberSamePlaces}
use Rattle.nd_layout.specs.LayoutStepsOfCalls.{as_placement}
use Rattle.nd_layout.specs.ValidMemoryPlaces.{is_place, ReachesPlaces}
use Rattle.nd_layout.specs.RowMajorWalk.{place_at_rank, StepsThrough}
use Rattle.nd_layout.proofs.Integers.{sums, zero-mul, add-mul, mul-mul}
use Rattle.nd_layout.proofs.SizesOfChangedAxes.{size-le-product}
use Rattle.nd_layout.proofs.walk_lemmas.NextIndexOfWalk.{place_small}

-- ---- two axes
pub steps_of_one : (within : Bool) (len : ℕ) (outer inner : ℤ) → StepsThrough within len outer 1 inner outer
steps_of_one within len outer inner r _ = rw (div-one r, mod-one r, zero-mul inner) (idr (pos r *ℤ outer))
  where
    idr : (z : ℤ) → z +ℤ pos 0 ≡ z
    idr z = omega (arith, sums)

pub steps_on : (within : Bool) (len : ℕ) (outer : ℤ) (count : ℕ) (inner : ℤ) → outer ≡ pos count *ℤ inner → StepsThrough within len outer count inner inner
steps_on within len outer count inner e r _ =
    let whole : r ≡ r / count * count + r % count = sym (div-add-mod' r count) in
    let parts : pos r *ℤ inner ≡ (pos (r / count * count) *ℤ inner) +ℤ (pos (r % count) *ℤ inner) = ap (λ k. pos k *ℤ inner) whole ∙ add-mul (r / count * count) (r % count) inner in
    let product = mul-mul (r / count) count inner in
    rw e (omega (arith, sums, parts, product))

-- an axis of length 1 adds nothing
pub steps_within : (within : Bool) (len : ℕ) (outer : ℤ) (count : ℕ) (inner : ℤ) → within ≡ true → len ≡ 1 → StepsThrough within len outer count inner inner
steps_within within len outer count inner bound one r ranked =
    let below : r < count = small (ranked bound) in
    rw (div-eq_of_lt below, mod-eq_of_lt below) (none (pos r *ℤ inner))
  where
    none : (z : ℤ) → (pos 0 *ℤ outer) +ℤ z ≡ z
    none z = let zero = zero-mul outer in omega (arith, sums, zero)

    small : r < count * len → r < count
    small h = let once : count * 1 ≡ count = omega arith in let to : r < count * 1 = rw one at h in omega (arith, once, to)

-- the product of some of the lengths
product_drop : (ns : List ℕ) (k : ℕ) → nonzero_product (drop k ns) ≤ nonzero_product ns
product_drop ns zero = omega arith
product_drop [] (suc k) = omega arith
product_drop (zero ∷ ns) (suc k) = product_drop ns k
product_drop (suc n ∷ ns) (suc k) =
    let rest = product_drop ns k in
    let more : suc n * nonzero_product ns ≡ n * nonzero_product ns + nonzero_product ns = grind arith in
    omega (arith, rest, more)

-- ---- the loop: the axes from this one on are one lane
module _ (ns : List ℕ) (ss : List ℤ) (within : Bool) where
  pub record IsLaneFrom (axis count : ℕ) (stride : ℤ) : Type 0 where
    pub on : axis ≤ length ns
    pub some : 0 < count
    pub size : size_of (drop axis ns) ≡ count
    pub same : (r : ℕ) → (within ≡ true → r < count) → displacement_of (drop axis ss) (index_at (drop axis ns) r) ≡ pos r *ℤ stride

  pub lane_none : length ss ≡ length ns → IsLaneFrom (length ns) 1 (pos 0)
  lane_none many =
      let none : drop (length ns) ns ≡ [] = drop_all (length ns) ns (omega arith) in
      let no_stride : drop (length ns) ss ≡ [] = drop_all (length ns) ss (omega (arith, many)) in
      record {
        on = omega arith;
        some = omega arith;
        size = rw none refl;
        same = λ r _. rw (none, no_stride) (sym (times_zero r));
      }
    where
      times_zero : (r : ℕ) → pos r *ℤ pos 0 ≡ pos 0
      times_zero r = ap pos (let e : r * 0 ≡ 0 = omega arith in e)

  pub lane_small : (axis count : ℕ) (stride : ℤ) → IsLaneFrom axis count stride → HasCheckedSize ns → count < 9223372036854775808
  lane_small axis count stride so_far checked = let le = size-le-product (drop axis ns) in let less = product_drop ns axis in omega (arith, le, less, so_far.size, checked)

  module _ (many : length ss ≡ length ns) (axis k count : ℕ) (stride : ℤ) (next : axis ≡ k + 1) (so_far : IsLaneFrom axis count stride) where
    ns_here : drop k ns ≡ get_or ns k 0 ∷ drop axis ns
    ns_here = drop_more ns k 0 (omega (arith, so_far.on, next)) ∙ ap (λ a. get_or ns k 0 ∷ drop a ns) (sym next)

    ss_here : drop k ss ≡ get_or ss k (pos 0) ∷ drop axis ss
    ss_here = drop_more ss k (pos 0) (omega (arith, so_far.on, next, many)) ∙ ap (λ a. get_or ss k (pos 0) ∷ drop a ss) (sym next)

    pub size_here : size_of (drop k ns) ≡ count * get_or ns k 0
    size_here = ap size_of ns_here ∙ ap (λ c. get_or ns k 0 * c) so_far.size ∙ mul_comm (get_or ns k 0) count

    pub lane_fits : HasCheckedSize ns → count * get_or ns k 0 < 9223372036854775808
    lane_fits checked = let le = size-le-product (drop k ns) in let less = product_drop ns k in omega (arith, le, less, size_here, checked)

    product_some : (m n : ℕ) → 0 < m → 0 < n → 0 < m * n
    product_some zero n h e = absurd (omega (arith, h))
    product_some (suc m) zero h e = absurd (omega (arith, e))
    product_some (suc m) (suc n) h e = let more : suc m * suc n ≡ m * suc n + suc n = grind arith in omega (arith, more)

    pub lane_more : (whole : ℤ) → 0 < get_or ns k 0 → StepsThrough within (get_or ns k 0) (get_or ss k (pos 0)) count stride whole → IsLaneFrom k (count * get_or ns k 0) whole
    lane_more whole long steps = record {
      on = omega (arith, so_far.on, next);
      some = product_some count (get_or ns k 0) so_far.some long;
      size = size_here;
      same = λ r below. rw (ns_here, ss_here, so_far.size) (ap (λ z. (pos (r / count) *ℤ get_or ss k (pos 0)) +ℤ z) (so_far.same (r % count) (λ _. mod_below r count so_far.some)) ∙ steps r below);
    }

-- ---- the whole lane
module _ (first : ℕ) (ns : List ℕ) (ss : List ℤ) (within : Bool) (count : ℕ) (stride : ℤ) (all : IsLaneFrom ns ss within 0 count stride) where
  lane_place : (k : ℕ) → (within ≡ true → k < count) → pos first +ℤ (pos k *ℤ stride) ≡ place_at_rank first ns ss k
  lane_place k below = ap (λ d. pos first +ℤ d) (sym (all.same k below))

  pub lane_ranked : within ≡ false → record { count = count; place = λ k. pos first +ℤ (pos k *ℤ stride) } ≡ by_rank (as_placement first ns ss)
  lane_ranked every j = record { count = sym all.size j; place = λ k. lane_place k (λ bound. absurd (false≢true (sym every ∙ bound))) j }

  pub lane_same : NumberSamePlaces (record { count = count; place = λ k. pos first +ℤ (pos k *ℤ stride) }) (by_rank (as_placement first ns ss))
  lane_same = record {
    count = sym all.size;
    place = λ k below. lane_place k (λ _. omega (arith, below, all.size));
  }

  pub lane_reach : ReachesPlaces first ns ss → (k : ℕ) → k < count → is_place (pos first +ℤ (pos k *ℤ stride)) ≡ true
  lane_reach reach k below = ap is_place (lane_place k (λ _. below)) ∙ reach (index_at ns k) (in_box-index_at ns k (omega (arith, below, all.size)))

  pub lane_from : ReachesPlaces first ns ss → 0 < count → first < 9223372036854775808
  lane_from reach some = place_small first (pos first +ℤ (pos 0 *ℤ stride)) (sym (start first stride)) (lane_reach reach 0 some)
    where
      start : (p : ℕ) (s : ℤ) → pos p +ℤ (pos 0 *ℤ s) ≡ pos p
      start p s = let none = zero-mul s in omega (arith, sums, none)
