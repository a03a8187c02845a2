-- The indexes of a run, numbered by their places from the lowest on.
use Rattle.nd_array_core.proofs.NamesFromOtherCrates.{◌≡◌, ℕ, ◌+◌, ◌-◌, ◌<◌, Bool, true, false, List, [], length, ℤ, pos, ◌+ℤ◌, neg_ℤ, refl, ap, sym, ◌∙◌, arith, ⊎_elim, nat_tests, ◌⊎◌, Option, nat_lt, slice_get, ltb-true, in_box, size_of, displacement_of, place_of, span_of, IsSeparated, row_rank_below, IsRun, reach_down, same_index, sums, above_low, above_low-is, above_low-lt, each_above_low, from_low, run_strides, run_span, none_or_some, inside, stored_at, IsNumbering}
use borrow.Author.Differences.{neg_is}

-- each index has a number, which is its place where the run begins at place 0
pub record IsRunNumbered (ns : List ℕ) (ss : List ℤ) : Type 0 where
  pub index : ℕ → List ℕ
  pub rank : List ℕ → ℕ
  pub numbered : IsNumbering ns (size_of ns) index rank
  pub places : (k : ℕ) → k < size_of ns → place_of (reach_down ns ss) ss (index k) ≡ pos k

module _ (ns : List ℕ) (ss : List ℤ) (long : length ss ≡ length ns) where
  empty_numbered : size_of ns ≡ 0 → IsRunNumbered ns ss
  empty_numbered none = record {
    index = λ k. [];
    rank = λ i. 0;
    numbered = record {
      inside = λ r below. absurd (omega (arith, none, below));
      rank_is = λ r below. absurd (omega (arith, none, below));
      index_is = λ i h. absurd (omega (arith, none, row_rank_below ns i h));
      below = λ i h. absurd (omega (arith, none, row_rank_below ns i h));
    };
    places = λ k below. absurd (omega (arith, none, below));
  }

  module _ (apart : IsSeparated ns ss) (full : span_of ns ss + 1 ≡ size_of ns) where
    abbrev at_number : (k : ℕ) (t : Bool) → nat_lt k (size_of ns) ≡ t → List ℕ
    at_number k true e = (each_above_low ns ss long apart full k (ltb-true k (size_of ns) e)).0
    at_number k false e = []

    is_there : (k : ℕ) → k < size_of ns → (t : Bool) (e : nat_lt k (size_of ns) ≡ t) → (in_box ns (at_number k t e) ≡ true) × (displacement_of ss (at_number k t e) ≡ neg_ℤ (pos (reach_down ns ss)) +ℤ pos k)
    is_there k below true e = let at = each_above_low ns ss long apart full k (ltb-true k (size_of ns) e) in (at.1, at.2)
    is_there k below false e = absurd (grind (arith, nat_tests, e, below))

    abbrev index_of : ℕ → List ℕ
    index_of k = at_number k (nat_lt k (size_of ns)) refl

    there : (k : ℕ) → k < size_of ns → (in_box ns (index_of k) ≡ true) × (displacement_of ss (index_of k) ≡ neg_ℤ (pos (reach_down ns ss)) +ℤ pos k)
    there k below = is_there k below (nat_lt k (size_of ns)) refl

    abbrev rank_of : List ℕ → ℕ
    rank_of i = above_low ns ss (displacement_of ss i)

    rank_there : (k : ℕ) → k < size_of ns → rank_of (index_of k) ≡ k
    rank_there k below =
        let at = there k below in
        let by_rank = above_low-is ns ss (index_of k) at.0 in
        let by_number = at.1 in
        same_number (reach_down ns ss) (rank_of (index_of k)) k (displacement_of ss (index_of k)) by_rank by_number
      where
        same_number : (down m n : ℕ) (z : ℤ) → z ≡ neg_ℤ (pos down) +ℤ pos m → z ≡ neg_ℤ (pos down) +ℤ pos n → m ≡ n
        same_number down m n z one other = omega (arith, sums, neg_is (pos down), one, other)

    full_numbered : IsRunNumbered ns ss
    full_numbered = record {
      index = index_of;
      rank = rank_of;
      numbered = record {
        inside = λ k below. (there k below).0;
        rank_is = rank_there;
        index_is = λ i h.
            let below = above_low-lt ns ss i full h in
            let at = there (rank_of i) below in
            same_index ns ss (index_of (rank_of i)) i long apart at.0 h (at.1 ∙ sym (above_low-is ns ss i h));
        below = λ i h. above_low-lt ns ss i full h;
      };
      places = λ k below.
          let down = reach_down ns ss in
          let from = from_low down down k (displacement_of ss (index_of k)) (omega arith) (there k below).1 in
          let nothing : down - down + k ≡ k = omega arith in
          from ∙ ap pos nothing;
    }

  pub run_numbered : (size_of ns ≡ 0) ⊎ IsRun ns ss → IsRunNumbered ns ss
  run_numbered which =
      none_or_some (IsRunNumbered ns ss) (size_of ns) empty_numbered
      (λ some.
      ⊎_elim
      (λ (none : size_of ns ≡ 0). empty_numbered none)
      (λ (run : IsRun ns ss). full_numbered (run_strides ns ss long some run) (run_span ns ss long some run))
      which)

-- a list that lies along a run from place 0 on shows its items by their numbers
pub run_shows : {A : Type 0} (ns : List ℕ) (ss : List ℤ) (by : IsRunNumbered ns ss) (xs : List A) (seen : List ℕ → Option A) → ((i : List ℕ) → inside ns i (stored_at (slice_get xs) (place_of (reach_down ns ss) ss i)) ≡ seen i) → (k : ℕ) → k < size_of ns → slice_get xs k ≡ seen (by.index k)
run_shows ns ss by xs seen shows k below =
    let here : inside ns (by.index k) (stored_at (slice_get xs) (place_of (reach_down ns ss) ss (by.index k))) ≡ slice_get xs k = rw (by.numbered.inside k below, by.places k below) refl in
    sym here ∙ shows (by.index k)
