-- The layout of a new array in an order is valid, and its elements lie at their ranks.
use Rattle.nd_layout.proofs.NamesFromOtherCrates.{◌≡◌, ℕ, zero, suc, ◌+◌, ◌<◌, true, List, length, replicate, ℤ, pos, ◌+ℤ◌, refl, ap, sym, ◌∙◌, subst, arith, ints, length-replicate, nat_tests, Order, RowMajor, ColumnMajor, in_box, size_of, nonzero_product, row_rank, column_rank, HasCheckedSize, displacement_of, place_of, span_of, IsSeparated, row_strides, c_strides, column_strides_from, f_strides, row_rank_below, displacement_of-row, nonzero_product-size_of, span_of-row_strides, IsSeparated-row_strides, span_of-zeros, c_strides-empty, c_strides-full, length-row_strides, column_rank_below, displacement_of-column, span_of-column_strides, IsSeparated-column_strides, f_strides-empty, f_strides-full, length-column_strides_from}
use Rattle.nd_layout.specs.ValidMemoryPlaces.{is_place}
use Rattle.nd_layout.specs.RanksAndReshapeStrides.{rank_in}
use Rattle.nd_layout.specs.GivenStrides.{ordered_strides}
use Rattle.nd_layout.specs.ValidLayoutsAndSteps.{IsValid}

-- strides under which each index lies at its rank, each rank below the size
pub record IsRanked (ns : List ℕ) (ss : List ℤ) (rank : List ℕ → ℕ) : Type 0 where
  pub as_many : length ss ≡ length ns
  pub spread : span_of ns ss < 9223372036854775808
  pub below : (i : List ℕ) → in_box ns i ≡ true → rank i < size_of ns
  pub at : (i : List ℕ) → in_box ns i ≡ true → displacement_of ss i ≡ pos (rank i)
  pub apart : 0 < size_of ns → IsSeparated ns ss

-- a number is 0 or above
pub none_or_some : (P : Type 0) (n : ℕ) → ((n ≡ 0) → P) → (0 < n → P) → P
none_or_some P zero none some = none refl
none_or_some P (suc n) none some = some (omega arith)

-- strides of 0 where there is no element, and dense ones where there is
module _ (ns : List ℕ) (ss dense : List ℤ) (rank : List ℕ → ℕ) (empty : size_of ns ≡ 0 → ss ≡ replicate (length ns) (pos 0)) (full : 0 < size_of ns → ss ≡ dense) where
  ranked_from : HasCheckedSize ns → length dense ≡ length ns → (0 < size_of ns → span_of ns dense + 1 ≡ size_of ns) → ((i : List ℕ) → in_box ns i ≡ true → rank i < size_of ns) → ((i : List ℕ) → in_box ns i ≡ true → displacement_of dense i ≡ pos (rank i)) → (0 < size_of ns → IsSeparated ns dense) → IsRanked ns ss rank
  ranked_from checked long span below at apart = record {
    as_many =
        none_or_some (length ss ≡ length ns) (size_of ns)
        (λ none. ap length (empty none) ∙ length-replicate (length ns) (pos 0))
        (λ some. ap length (full some) ∙ long);
    spread =
        none_or_some (span_of ns ss < 9223372036854775808) (size_of ns)
        (λ none. let nowhere : span_of ns ss ≡ 0 = ap (span_of ns) (empty none) ∙ span_of-zeros ns (length ns) in omega (arith, nowhere))
        (λ some.
        let all : span_of ns ss ≡ span_of ns dense = ap (span_of ns) (full some) in
        let whole = span some in
        let size = nonzero_product-size_of ns some in
        let limit : nonzero_product ns < 9223372036854775808 = checked in
        omega (arith, all, whole, size, limit));
    below = below;
    at = λ i h.
        let under = below i h in
        ap (λ ts. displacement_of ts i) (full (omega (arith, under))) ∙ at i h;
    apart = λ some. subst (IsSeparated ns) (sym (full some)) (apart some);
  }

pub ordered_is_ranked : (order : Order) (ns : List ℕ) → HasCheckedSize ns → IsRanked ns (ordered_strides order ns) (rank_in order ns)
ordered_is_ranked RowMajor ns checked =
    ranked_from ns (c_strides ns) (row_strides ns) (row_rank ns) (c_strides-empty ns) (c_strides-full ns) checked (length-row_strides ns) (span_of-row_strides ns) (row_rank_below ns) (displacement_of-row ns) (IsSeparated-row_strides ns)
ordered_is_ranked ColumnMajor ns checked =
    ranked_from ns (f_strides ns) (column_strides_from 1 ns) (column_rank ns) (f_strides-empty ns) (f_strides-full ns) checked (length-column_strides_from 1 ns) (span_of-column_strides ns) (column_rank_below ns) (displacement_of-column ns) (IsSeparated-column_strides ns)

module _ {ns : List ℕ} {ss : List ℤ} {rank : List ℕ → ℕ} (ranked : IsRanked ns ss rank) where
  pub ranked_place : (i : List ℕ) → in_box ns i ≡ true → place_of 0 ss i ≡ pos (rank i)
  ranked_place i h = ap (λ z. pos 0 +ℤ z) (ranked.at i h) ∙ omega (arith, ints)

  pub ranked_is_valid : HasCheckedSize ns → IsValid 0 ns ss
  ranked_is_valid checked = record {
    as_many = ranked.as_many;
    spread = ranked.spread;
    checked = checked;
    reach = λ i h.
        let below = ranked.below i h in
        let size = nonzero_product-size_of ns (omega (arith, below)) in
        let limit : nonzero_product ns < 9223372036854775808 = checked in
        let small : rank i < 9223372036854775808 = omega (arith, below, size, limit) in
        ap is_place (ranked_place i h) ∙ grind (arith, nat_tests, small);
  }
