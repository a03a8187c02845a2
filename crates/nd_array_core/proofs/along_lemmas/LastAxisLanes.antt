-- The lane of the last axis in which a row-major rank lies: its ranks, and where they are stored.
use Rattle.nd_array_core.proofs.NamesFromOtherCrates.{◌≡◌, ℕ, zero, suc, ◌+◌, ◌-◌, ◌*◌, ◌/◌, ◌%◌, ◌<◌, ◌≤◌, Bool, true, List, [], ◌∷◌, length, take, get_or, refl, ap, sym, subst, ◌∙◌, arith, ℤ, pos, negsuc, ◌+ℤ◌, ◌*ℤ◌, Option, None, is_some, slice_get, if◌then◌else◌, filter_map, mul-le-mul_right, div-lt_iff_lt-mul, div-add-mod', nat_tests, in_box, size_of, index_at, indexes_of, HasCheckedSize, place_of, in_box-index_at, positive_at, is_place, ReachesPlaces, place_at_rank, IsCutInLanes, IsLastAxis, sums, zero-mul, size-le-product, size_of-front, cut_last, along_last, stored_along, inside, stored_at, names_place, HoldsAll}
use Rattle.nd_array_core.proofs.reshape_lemmas.ElementsListedInOrder.{listed_row}

-- a lane of the last axis: its ranks, and their places
pub record IsRankLane (first : ℕ) (ns : List ℕ) (ss : List ℤ) (from count : ℕ) (stride : ℤ) : Type 0 where
  pub some : 0 < count
  pub within : from + count ≤ size_of ns
  pub places : (k : ℕ) → k < count → place_at_rank first ns ss from +ℤ (pos k *ℤ stride) ≡ place_at_rank first ns ss (from + k)

-- no axis
lane_of_none : (first : ℕ) (stride : ℤ) (from : ℕ) → from ≡ 0 → IsRankLane first [] [] from 1 stride
lane_of_none first stride from none = record {
  some = omega arith;
  within = omega (arith, none);
  places = λ k below. nothing k below;
}
  where
    nothing : (k : ℕ) → k < 1 → place_at_rank first [] [] from +ℤ (pos k *ℤ stride) ≡ place_at_rank first [] [] (from + k)
    nothing zero below = let z = zero-mul stride in omega (arith, sums, z)
    nothing (suc k) below = absurd (omega (arith, below))

-- ranks by the number of the lane
module _ (first : ℕ) (ns : List ℕ) (ss : List ℤ) (as_many : length ss ≡ length ns) (k : ℕ) (last : length ns ≡ k + 1) (some : 0 < get_or ns k 0) where
  lane_of_number : (q from : ℕ) → q < size_of (take k ns) → from ≡ q * get_or ns k 0 → IsRankLane first ns ss from (get_or ns k 0) (get_or ss k (pos 0))
  lane_of_number q from below is = record {
    some = some;
    within = inside q from (get_or ns k 0) (size_of (take k ns)) (size_of ns) below is (size_of-front ns k last);
    places = λ j under.
        let here = cut.places q 0 below some in
        let there = cut.places q j below under in
        let none = zero-mul (get_or ss k (pos 0)) in
        let e : q * get_or ns k 0 + 0 ≡ from = omega (arith, is) in
        let f : q * get_or ns k 0 + j ≡ from + j = omega (arith, is) in
        let start : place_at_rank first ns ss from ≡ place_at_rank first (take k ns) (take k ss) q = ap (place_at_rank first ns ss) (sym e) ∙ sym here ∙ nothing (place_at_rank first (take k ns) (take k ss) q) (pos 0 *ℤ get_or ss k (pos 0)) none in
        ap (λ z. z +ℤ (pos j *ℤ get_or ss k (pos 0))) start ∙ there ∙ ap (place_at_rank first ns ss) f;
  }
    where
      cut : IsCutInLanes first ns ss first (take k ns) (take k ss) (get_or ns k 0) (get_or ss k (pos 0))
      cut = cut_last first ns ss as_many k last some

      nothing : (z w : ℤ) → w ≡ pos 0 → z +ℤ w ≡ z
      nothing z w e = omega (arith, sums, e)

      inside : (q from c front whole : ℕ) → q < front → from ≡ q * c → front * c ≡ whole → from + c ≤ whole
      inside q from c front whole h e f =
          let more : (q + 1) * c ≤ front * c = mul-le-mul_right {m = q + 1} {n = front} c (omega (arith, h)) in
          let next : (q + 1) * c ≡ q * c + c = grind arith in
          omega (arith, more, next, e, f)

-- the lane in which a rank lies
pub lane_of_rank : (first : ℕ) (ns : List ℕ) (ss : List ℤ) → length ss ≡ length ns → (count : ℕ) (stride : ℤ) → IsLastAxis ns ss count stride → (rank : ℕ) → rank < size_of ns → IsRankLane first ns ss (rank - rank % count) count stride
lane_of_rank first [] [] as_many count stride last rank below =
    subst (λ c. IsRankLane first [] [] (rank - rank % c) c stride) (sym last.0) (lane_of_none first stride (rank - rank % 1) (omega (arith, below)))
lane_of_rank first [] (s ∷ ss) as_many count stride last rank below = absurd (omega (arith, as_many))
lane_of_rank first (n ∷ ns) ss as_many count stride last rank below =
    let k = length ns in
    let c = get_or (n ∷ ns) k 0 in
    let longer : length (n ∷ ns) ≡ k + 1 = omega arith in
    let is = along_last (n ∷ ns) ss k as_many longer in
    let some : 0 < c = (positive_at (n ∷ ns) k (omega arith) (omega (arith, below))).0 in
    let whole = size_of-front (n ∷ ns) k longer in
    let parts = div-add-mod' rank c in
    let lower : rank / c < size_of (take k (n ∷ ns)) = (div-lt_iff_lt-mul some).1 (omega (arith, whole, below)) in
    let from : rank - rank % c ≡ rank / c * c = omega (arith, parts) in
    subst (λ d. IsRankLane first (n ∷ ns) ss (rank - rank % d) d stride) (is.0 ∙ sym last.0)
    (subst (λ t. IsRankLane first (n ∷ ns) ss (rank - rank % c) c t) (is.1 ∙ sym last.1)
    (lane_of_number first (n ∷ ns) ss as_many k longer some (rank / c) (rank - rank % c) lower from))

opened : {A : Type 0} (t : Bool) (o : Option A) → t ≡ true → (if t then o else None) ≡ o
opened t o e = ap (λ (b : Bool). if b then o else None) e

-- what a lane shows at a number below its length
pub lane_opens : {A : Type 0} (n k : ℕ) (o : Option A) → k < n → inside (n ∷ []) (k ∷ []) o ≡ o
lane_opens n k o below = opened (in_box (n ∷ []) (k ∷ [])) o (grind (arith, nat_tests, below))

-- a storage that shows what another does, along a lane
pub shown_along : {A : Type 0} (shown stored : ℕ → Option A) → ((p : ℕ) → shown p ≡ stored p) → (place : ℕ) (stride : ℤ) (k : ℕ) → stored_along shown place stride k ≡ stored_along stored place stride k
shown_along shown stored same place stride k = by_sign (pos place +ℤ (pos k *ℤ stride))
  where
    by_sign : (z : ℤ) → stored_at shown z ≡ stored_at stored z
    by_sign (pos p) = same p
    by_sign (negsuc p) = refl

-- what is stored along a lane of ranks
module _ {A : Type 0} (stored : ℕ → Option A) (first : ℕ) (ns : List ℕ) (ss : List ℤ) (from count : ℕ) (stride : ℤ) (lane : IsRankLane first ns ss from count stride) (place : ℕ) (at : pos place ≡ place_at_rank first ns ss from) where
  within : (k : ℕ) → k < count → from + k < size_of ns
  within k below = let upto = lane.within in omega (arith, below, upto)

  goes : (k : ℕ) → k < count → pos place +ℤ (pos k *ℤ stride) ≡ place_at_rank first ns ss (from + k)
  goes k below = ap (λ z. z +ℤ (pos k *ℤ stride)) at ∙ lane.places k below

  pub lane_is_short : HasCheckedSize ns → count < 9223372036854775808
  lane_is_short checked = let upto = lane.within in omega (arith, upto, size-le-product ns, checked)

  pub lane_reaches : ReachesPlaces first ns ss → (k : ℕ) → k < count → is_place (pos place +ℤ (pos k *ℤ stride)) ≡ true
  lane_reaches reach k below = ap is_place (goes k below) ∙ reach (index_at ns (from + k)) (in_box-index_at ns (from + k) (within k below))

  module _ (holds : HoldsAll stored first ns ss) where
    pub lane_holds : (k : ℕ) → k < count → is_some (stored_along stored place stride k) ≡ true
    lane_holds k below = ap (names_place stored) (goes k below) ∙ holds (index_at ns (from + k)) (in_box-index_at ns (from + k) (within k below))

    pub rank_listed : (k : ℕ) → k < count → stored_along stored place stride k ≡ slice_get (filter_map (λ j. inside ns j (stored_at stored (place_of first ss j))) (indexes_of ns)) (from + k)
    rank_listed k below =
        ap (stored_at stored) (goes k below)
        ∙ sym (listed_row stored first ns ss holds (from + k) (within k below) ∙ opened (in_box ns (index_at ns (from + k))) (stored_at stored (place_at_rank first ns ss (from + k))) (in_box-index_at ns (from + k) (within k below)))
