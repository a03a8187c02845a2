-- The places of a layout, cut into lanes along its last axis.
use Rattle.nd_layout.proofs.NamesFromOtherCrates.{◌≡◌, ℕ, zero, suc, ◌+◌, ◌-◌, ◌*◌, ◌/◌, ◌%◌, ◌<◌, ◌≤◌, true, List, [], ◌∷◌, ◌++◌, length, take, get_or, refl, ap, sym, ◌∙◌, arith, ℤ, pos, ◌+ℤ◌, ◌*ℤ◌, mul_comm, mul-le-mul_left, mul-le-mul_right, div-div-eq-div-mul, mul_assoc, mod-mul, div-mul-add, mod-mul-add, mod_below, get_or_default, lt-one, +ℤ_idr, size_of, nonzero_product, index_at, row_rank, HasCheckedSize, displacement_of, place_of, positive-cons, row_rank_below, in_box-index_at, index_at-row_rank, nonzero_product_positive, positive_at}
use Rattle.nd_layout.specs.ValidMemoryPlaces.{is_place, ReachesPlaces}
use Rattle.nd_layout.specs.RowMajorWalk.{place_at_rank, IsLane, IsCutInLanes}
use Rattle.nd_layout.specs.PlacesInTurn.{BeginLanes}
use Rattle.nd_layout.proofs.Integers.{sums, zero-mul}
use Rattle.nd_layout.proofs.SizesOfChangedAxes.{size-le-product}
use Rattle.nd_layout.proofs.walk_lemmas.NextIndexOfWalk.{place_small}

-- ---- all axes but the last
pub size_of-front : (ns : List ℕ) (k : ℕ) → length ns ≡ k + 1 → size_of (take k ns) * get_or ns k 0 ≡ size_of ns
size_of-front [] k e = absurd (omega arith)
size_of-front (n ∷ []) zero e = omega arith
size_of-front (n ∷ m ∷ ns) zero e = absurd (omega arith)
size_of-front (n ∷ ns) (suc k) e =
    let rest = size_of-front ns k (omega arith) in
    mul_assoc n (size_of (take k ns)) (get_or ns k 0) ∙ ap (λ s. n * s) rest

pub checked-front : (ns : List ℕ) (k : ℕ) → nonzero_product (take k ns) ≤ nonzero_product ns
checked-front ns zero = nonzero_product_positive ns
checked-front [] (suc k) = omega arith
checked-front (zero ∷ ns) (suc k) = checked-front ns k
checked-front (suc n ∷ ns) (suc k) = mul-le-mul_left (suc n) (checked-front ns k)

-- the rank of an index, by the rank of all its coordinates but the last, and that one
pub displacement_of-front : (ns : List ℕ) (ss : List ℤ) (k r j : ℕ) → length ns ≡ k + 1 → length ss ≡ length ns → 0 < size_of ns → r < size_of (take k ns) → j < get_or ns k 0 → displacement_of ss (index_at ns (r * get_or ns k 0 + j)) ≡ displacement_of (take k ss) (index_at (take k ns) r) +ℤ (pos j *ℤ get_or ss k (pos 0))
displacement_of-front [] ss k r j e f some h below = absurd (omega arith)
displacement_of-front (n ∷ ns) [] k r j e f some h below = absurd (omega arith)
displacement_of-front (n ∷ m ∷ ns) (s ∷ ss) zero r j e f some h below = absurd (omega arith)
displacement_of-front (n ∷ []) (s ∷ t ∷ ss) zero r j e f some h below = absurd (omega arith)
displacement_of-front (n ∷ []) (s ∷ []) zero r j e f some h below =
    let none : r ≡ 0 = omega arith in
    let first : (r * n + j) / 1 ≡ j = rw none (omega arith) in
    rw first (omega (arith, sums))
displacement_of-front (n ∷ ns) (s ∷ ss) (suc k) r j e f some h below =
    let c = get_or ns k 0 in
    let front = size_of (take k ns) in
    let whole : front * c ≡ size_of ns = size_of-front ns k (omega arith) in
    let later : 0 < size_of ns = (positive-cons n ns some).1 in
    let some_front : 0 < front = (positive-cons n (take k ns) (omega (arith, h))).1 in
    let some_c : 0 < c = omega (arith, below) in
    let q : (r * c + j) / size_of ns ≡ r / front = ap (λ m. (r * c + j) / m) (sym whole ∙ mul_comm front c) ∙ (sym (div-div-eq-div-mul (r * c + j) c front) ∙ ap (λ x. x / front) (div-mul-add r c j below)) in
    let d : (r * c + j) % size_of ns ≡ r % front * c + j = ap (λ m. (r * c + j) % m) (sym whole) ∙ (mod-mul (r * c + j) some_front some_c ∙ digits r c j front below) in
    let rest = displacement_of-front ns ss k (r % front) j (omega arith) (omega arith) later (mod_below r front some_front) below in
    rw (q, d) (omega (arith, sums, rest))
  where
    digits : (r c j front : ℕ) → j < c → (r * c + j) / c % front * c + (r * c + j) % c ≡ r % front * c + j
    digits r c j front h = rw (div-mul-add r c j h, mod-mul-add r c j h) refl

-- the index of such a rank: the last coordinate stands after the others
pub index_at-front : (ns : List ℕ) (k r j : ℕ) → length ns ≡ k + 1 → 0 < size_of ns → r < size_of (take k ns) → j < get_or ns k 0 → index_at ns (r * get_or ns k 0 + j) ≡ index_at (take k ns) r ++ j ∷ []
index_at-front [] k r j e some h below = absurd (omega arith)
index_at-front (n ∷ m ∷ ns) zero r j e some h below = absurd (omega arith)
index_at-front (n ∷ []) zero r j e some h below =
    let none : r ≡ 0 = omega arith in
    let first : (r * n + j) / 1 ≡ j = rw none (omega arith) in
    ap (λ i. i ∷ []) first
index_at-front (n ∷ ns) (suc k) r j e some h below =
    let c = get_or ns k 0 in
    let front = size_of (take k ns) in
    let whole : front * c ≡ size_of ns = size_of-front ns k (omega arith) in
    let later : 0 < size_of ns = (positive-cons n ns some).1 in
    let some_front : 0 < front = (positive-cons n (take k ns) (omega (arith, h))).1 in
    let some_c : 0 < c = omega (arith, below) in
    let q : (r * c + j) / size_of ns ≡ r / front = ap (λ m. (r * c + j) / m) (sym whole ∙ mul_comm front c) ∙ (sym (div-div-eq-div-mul (r * c + j) c front) ∙ ap (λ x. x / front) (div-mul-add r c j below)) in
    let d : (r * c + j) % size_of ns ≡ r % front * c + j = ap (λ m. (r * c + j) % m) (sym whole) ∙ (mod-mul (r * c + j) some_front some_c ∙ digits r c j front below) in
    rw (q, d) (ap (λ is. (r / front) ∷ is) (index_at-front ns k (r % front) j (omega arith) later (mod_below r front some_front) below))
  where
    digits : (r c j front : ℕ) → j < c → (r * c + j) / c % front * c + (r * c + j) % c ≡ r % front * c + j
    digits r c j front h = rw (div-mul-add r c j h, mod-mul-add r c j h) refl

module _ (first : ℕ) (ns : List ℕ) (ss : List ℤ) where
  -- no axis is taken off: each place is a lane of its own
  pub cut_whole : (stride : ℤ) → IsCutInLanes first ns ss first ns ss 1 stride
  cut_whole stride = record {
    size = omega arith;
    places = λ r k h below.
        let same : r * 1 + k ≡ r = omega (arith, below) in
        let none : pos k *ℤ stride ≡ pos 0 = ap (λ i. pos i *ℤ stride) (lt-one below) ∙ zero-mul stride in
        rw (same, none) (+ℤ_idr (place_at_rank first ns ss r));
  }

  module _ (as_many : length ss ≡ length ns) (k : ℕ) (last : length ns ≡ k + 1) (some : 0 < get_or ns k 0) where
    pub cut_last : IsCutInLanes first ns ss first (take k ns) (take k ss) (get_or ns k 0) (get_or ss k (pos 0))
    cut_last = record {
      size = size_of-front ns k last;
      places = λ r j h below.
          let whole = size_of-front ns k last in
          let more : 1 * get_or ns k 0 ≤ size_of (take k ns) * get_or ns k 0 = mul-le-mul_right {m = 1} {n = size_of (take k ns)} (get_or ns k 0) (omega (arith, h)) in
          let front = displacement_of-front ns ss k r j last as_many (omega (arith, whole, more, some)) h below in
          omega (arith, sums, front);
    }

    pub reach_front : ReachesPlaces first ns ss → ReachesPlaces first (take k ns) (take k ss)
    reach_front reach i h =
        let r = row_rank (take k ns) i in
        let below = row_rank_below (take k ns) i h in
        let same = cut_last.places r 0 below some in
        let here : place_at_rank first (take k ns) (take k ss) r ≡ place_of first (take k ss) i = ap (place_of first (take k ss)) (index_at-row_rank (take k ns) i h) in
        let none : pos 0 *ℤ get_or ss k (pos 0) ≡ pos 0 = zero-mul (get_or ss k (pos 0)) in
        let there : place_of first (take k ss) i ≡ place_at_rank first ns ss (r * get_or ns k 0 + 0) = omega (arith, sums, same, here, none) in
        let whole = size_of-front ns k last in
        let more : (r + 1) * get_or ns k 0 ≤ size_of (take k ns) * get_or ns k 0 = mul-le-mul_right {m = r + 1} {n = size_of (take k ns)} (get_or ns k 0) (omega (arith, below)) in
        let within : r * get_or ns k 0 + 0 < size_of ns = rank_within r (get_or ns k 0) (size_of ns) (omega (arith, whole, more)) some in
        ap is_place there ∙ reach (index_at ns (r * get_or ns k 0 + 0)) (in_box-index_at ns (r * get_or ns k 0 + 0) within)
      where
        rank_within : (r c s : ℕ) → (r + 1) * c ≤ s → 0 < c → r * c + 0 < s
        rank_within r c s h some = let e : (r + 1) * c ≡ r * c + c = grind arith in omega (arith, h, some, e)

-- ---- the last axis
pub none_at_last : (ns : List ℕ) → get_or ns (length ns - 1) 0 ≡ 0 → 0 < size_of ns → length ns ≡ 0
none_at_last [] e some = refl
none_at_last (n ∷ ns) e some =
    let here = positive_at (n ∷ ns) (length (n ∷ ns) - 1) (omega arith) some in
    absurd (omega (arith, here.0, e))

-- where there is none, a lane has one place
pub along_none : (ns : List ℕ) (ss : List ℤ) → length ss ≡ length ns → length ns ≡ 0 → (1 ≡ get_or ns (length ns - 1) 1) × (pos 1 ≡ get_or ss (length ss - 1) (pos 1))
along_none [] [] e none = (refl, refl)
along_none [] (s ∷ ss) e none = absurd (omega arith)
along_none (n ∷ ns) ss e none = absurd (omega arith)

pub along_last : (ns : List ℕ) (ss : List ℤ) (k : ℕ) → length ss ≡ length ns → length ns ≡ k + 1 → (get_or ns k 0 ≡ get_or ns (length ns - 1) 1) × (get_or ss k (pos 0) ≡ get_or ss (length ss - 1) (pos 1))
along_last ns ss k e last =
    let here : k ≡ length ns - 1 = omega arith in
    let there : k ≡ length ss - 1 = omega arith in
    (get_or_default ns k 0 1 (omega arith) ∙ ap (λ i. get_or ns i 1) here, get_or_default ss k (pos 0) (pos 1) (omega (arith, e, last)) ∙ ap (λ i. get_or ss i (pos 1)) there)

-- lanes begin at the places of the layout of all axes but the last
pub begin_lanes : (first : ℕ) (ns : List ℕ) (ss : List ℤ) (outer_first : ℕ) (ms : List ℕ) (ts : List ℤ) (count : ℕ) (stride : ℤ) → IsCutInLanes first ns ss outer_first ms ts count stride → BeginLanes first ns ss (size_of ms) (place_at_rank outer_first ms ts) count stride
begin_lanes first ns ss outer_first ms ts count stride cut = record { size = cut.size; places = cut.places }

-- ---- a lane of ranks: it has few places, and each of them is one
module _ (first : ℕ) (ns : List ℕ) (ss : List ℤ) (rank place count : ℕ) (stride : ℤ) (lane : IsLane first ns ss rank place count stride) where
  pub ranked_small : HasCheckedSize ns → count < 9223372036854775808
  ranked_small checked = omega (arith, lane.within, size-le-product ns, checked)

  pub ranked_reach : ReachesPlaces first ns ss → (k : ℕ) → k < count → is_place (pos place +ℤ (pos k *ℤ stride)) ≡ true
  ranked_reach reach k below =
      let within = lane.within in
      ap is_place (lane.places k below) ∙ reach (index_at ns (rank + k)) (in_box-index_at ns (rank + k) (omega (arith, within, below)))

  pub ranked_from : ReachesPlaces first ns ss → place < 9223372036854775808
  ranked_from reach = place_small place (pos place +ℤ (pos 0 *ℤ stride)) (from_first place stride) (ranked_reach reach 0 lane.some)
    where
      from_first : (p : ℕ) (s : ℤ) → pos p ≡ pos p +ℤ (pos 0 *ℤ s)
      from_first p s = let none : pos 0 *ℤ s ≡ pos 0 = zero-mul s in omega (arith, sums, none)

-- ---- from lane to lane
pub nothing_passed : (r count : ℕ) → r ≡ 0 → 0 ≡ r * count
nothing_passed r count e = rw e (omega arith)

module _ (first : ℕ) (ns : List ℕ) (ss : List ℤ) (lanes : ℕ) (start : ℕ → ℤ) (count : ℕ) (stride : ℤ) (cut : BeginLanes first ns ss lanes start count stride) (rank r : ℕ) (passed : rank ≡ r * count) where
  more_ranks : r < lanes → rank + count ≤ size_of ns
  more_ranks h =
      let more : (r + 1) * count ≤ lanes * count = mul-le-mul_right {m = r + 1} {n = lanes} count (omega (arith, h)) in
      let next : (r + 1) * count ≡ r * count + count = grind arith in
      omega (arith, more, next, passed, cut.size)

  pub next_small : HasCheckedSize ns → r < lanes → rank + count < 9223372036854775808
  next_small checked h = omega (arith, more_ranks h, size-le-product ns, checked)

  pub next_lane : (place : ℕ) → 0 < count → r < lanes → pos place ≡ start r → IsLane first ns ss rank place count stride
  next_lane place some h at = record {
    some = some;
    within = more_ranks h;
    places = λ k below. ap (λ z. z +ℤ (pos k *ℤ stride)) at ∙ (cut.places r k h below ∙ ap (λ x. place_at_rank first ns ss (x + k)) (sym passed));
  }

  pub next_reach : ReachesPlaces first ns ss → (place : ℕ) → 0 < count → r < lanes → pos place ≡ start r → (k : ℕ) → k < count → is_place (pos place +ℤ (pos k *ℤ stride)) ≡ true
  next_reach reach place some h at = ranked_reach first ns ss rank place count stride (next_lane place some h at) reach

  pub next_from : ReachesPlaces first ns ss → (place : ℕ) → 0 < count → r < lanes → pos place ≡ start r → place < 9223372036854775808
  next_from reach place some h at = ranked_from first ns ss rank place count stride (next_lane place some h at) reach

  pub next_passed : rank + count ≡ (r + 1) * count
  next_passed =
      let whole : (r + 1) * count ≡ r * count + count = grind arith in
      omega (arith, whole, passed)

  -- the number of lanes is no greater than that of places
  pub next_given : HasCheckedSize ns → 0 < count → r < lanes → r + 1 < 9223372036854775808
  next_given checked some h =
      let each : (r + 1) * 1 ≤ (r + 1) * count = mul-le-mul_left (r + 1) (omega (arith, some)) in
      let whole : (r + 1) * count ≡ r * count + count = grind arith in
      omega (arith, each, whole, more_ranks h, passed, size-le-product ns, checked)
