-- Places one after another, in runs of places that lie a stride apart.
use Rattle.nd_layout.proofs.NamesFromOtherCrates.{◌≡◌, ℕ, zero, suc, ◌+◌, ◌-◌, ◌*◌, ◌/◌, ◌%◌, ◌<◌, ◌≤◌, List, [], ◌∷◌, length, take, get_or, refl, ap, sym, subst, ◌∙◌, arith, ℤ, pos, ◌+ℤ◌, ◌*ℤ◌, mul-le-mul_right, div-lt_iff_lt-mul, div-add-mod', mod_below, zero-div, zero-mod, size_of, index_at, displacement_of, positive_at}
use Rattle.nd_layout.specs.RowMajorWalk.{place_at_rank, IsLane}
use Rattle.nd_layout.specs.PlacesInTurn.{RunGoesOn}
use Rattle.nd_layout.proofs.Integers.{sums, zero-mul, add-mul}
use Rattle.nd_layout.proofs.walk_lemmas.PlacesCutIntoLanes.{size_of-front, cut_last}

-- ---- the lane along the last axis from a rank on
displacement_of-first : (ns : List ℕ) (ss : List ℤ) → displacement_of ss (index_at ns 0) ≡ pos 0
displacement_of-first [] [] = refl
displacement_of-first [] (s ∷ ss) = refl
displacement_of-first (n ∷ ns) [] = refl
displacement_of-first (n ∷ ns) (s ∷ ss) =
    let rest = displacement_of-first ns ss in
    let none = zero-mul s in
    rw (zero-div (size_of ns), zero-mod (size_of ns)) (omega (arith, sums, rest, none))

-- without an axis there is one place
pub lane_of_none : (first : ℕ) (ns : List ℕ) (ss : List ℤ) → length ns ≡ 0 → (stride : ℤ) (rank place : ℕ) → rank < size_of ns → pos place ≡ place_at_rank first ns ss rank → IsLane first ns ss rank place 1 stride
lane_of_none first [] ss none stride rank place below at = record {
  some = omega arith;
  within = omega (arith, below);
  places = λ k under. from_first k under;
}
  where
    from_first : (k : ℕ) → k < 1 → pos place +ℤ (pos k *ℤ stride) ≡ place_at_rank first [] ss (rank + k)
    from_first zero under = let none = zero-mul stride in omega (arith, sums, none, at)
    from_first (suc k) under = absurd (omega (arith, under))
lane_of_none first (n ∷ ns) ss none stride rank place below at = absurd (omega (arith, none))

pub first_of_none : (first : ℕ) (ns : List ℕ) (ss : List ℤ) → length ns ≡ 0 → (rank : ℕ) → pos first ≡ place_at_rank first ns ss rank
first_of_none first [] [] none rank = omega (arith, sums)
first_of_none first [] (s ∷ ss) none rank = omega (arith, sums)
first_of_none first (n ∷ ns) ss none rank = absurd (omega (arith, none))

module _ (first : ℕ) (ns : List ℕ) (ss : List ℤ) (as_many : length ss ≡ length ns) (k : ℕ) (last : length ns ≡ k + 1) (rank : ℕ) (below : rank < size_of ns) where
  pub last_some : 0 < get_or ns k 0
  last_some = (positive_at ns k (omega (arith, last)) (omega (arith, below))).0

  pub lane_of_last : (place : ℕ) → pos place ≡ place_at_rank first ns ss rank → IsLane first ns ss rank place (get_or ns k 0 - rank % get_or ns k 0) (get_or ss k (pos 0))
  lane_of_last place at =
      let n = get_or ns k 0 in
      let s = get_or ss k (pos 0) in
      let parts = div-add-mod' rank n in
      let under : rank % n < n = mod_below rank n last_some in
      let whole = size_of-front ns k last in
      let outer : rank / n < size_of (take k ns) = (div-lt_iff_lt-mul last_some).1 (omega (arith, whole, below)) in
      let cut = cut_last first ns ss as_many k last last_some in
      let more : (rank / n + 1) * n ≤ size_of (take k ns) * n = mul-le-mul_right {m = rank / n + 1} {n = size_of (take k ns)} n (omega (arith, outer)) in
      let next : (rank / n + 1) * n ≡ rank / n * n + n = grind arith in
      record {
        some = omega (arith, under);
        within = omega (arith, more, next, whole, parts, under);
        places = λ i h.
            let here = cut.places (rank / n) (rank % n) outer under in
            let there = cut.places (rank / n) (rank % n + i) outer (omega (arith, under, h)) in
            let split = add-mul (rank % n) i s in
            let same : rank + i ≡ rank / n * n + (rank % n + i) = omega (arith, parts) in
            let start : pos place ≡ place_at_rank first ns ss (rank / n * n + rank % n) = at ∙ ap (place_at_rank first ns ss) (sym parts) in
            rw same (omega (arith, sums, here, there, split, start));
      }

  -- from the first place on it is a whole lane
  pub lane_of_first : rank ≡ 0 → IsLane first ns ss rank first (get_or ns k 0) (get_or ss k (pos 0))
  lane_of_first none =
      let n = get_or ns k 0 in
      let nothing : rank % n ≡ 0 = ap (λ r. r % n) none ∙ zero-mod n in
      let whole : n - rank % n ≡ n = omega (arith, nothing) in
      let origin = displacement_of-first ns ss in
      let start : pos first ≡ place_at_rank first ns ss 0 = omega (arith, sums, origin) in
      subst (λ c. IsLane first ns ss rank first c (get_or ss k (pos 0))) whole (lane_of_last first (start ∙ ap (place_at_rank first ns ss) (sym none)))

-- ---- the one lane of a layout with one axis
-- a number is below a bound that is greater than 0, if it is below the bound wherever it isn't 0
pub below_if_some : (n bound : ℕ) → 0 < bound → (0 < n → n < bound) → n < bound
below_if_some zero bound some below = some
below_if_some (suc n) bound some below = below (omega arith)

size_of_one : (ns : List ℕ) → length ns ≡ 1 → size_of ns ≡ get_or ns 0 0
size_of_one [] one = absurd (omega (arith, one))
size_of_one (n ∷ []) one = omega arith
size_of_one (n ∷ m ∷ ns) one = absurd (omega (arith, one))

module _ (first : ℕ) (ns : List ℕ) (ss : List ℤ) (as_many : length ss ≡ length ns) (one : length ns ≡ 1) where
  pub one_lane : 0 < get_or ns 0 0 → IsLane first ns ss 0 first (get_or ns 0 0) (get_or ss 0 (pos 0))
  one_lane some = let size = size_of_one ns one in lane_of_first first ns ss as_many 0 one 0 (omega (arith, size, some)) refl

  pub one_goes_on : RunGoesOn (size_of ns) (place_at_rank first ns ss) (get_or ns 0 0) first (get_or ss 0 (pos 0)) 0 0
  one_goes_on =
      let size = size_of_one ns one in
      record {
        from = omega arith;
        upto = omega arith;
        within = omega (arith, size);
        places = λ k under. (one_lane (omega (arith, under))).places k under;
      }

-- ---- from place to place
module _ (count : ℕ) (place : ℕ → ℤ) (many first : ℕ) (stride : ℤ) (begun given : ℕ) (so_far : RunGoesOn count place many first stride begun given) where
  pub goes_on_place : given < begun + many → (given < count) × (pos first +ℤ (pos (given - begun) *ℤ stride) ≡ place given)
  goes_on_place h =
      let same : begun + (given - begun) ≡ given = omega (arith, so_far.from) in (
        omega (arith, so_far.within, h),
        so_far.places (given - begun) (omega (arith, so_far.from, h)) ∙ ap place same,
      )
