-- Separated strides whose span is one less than the size make a run.
use Rattle.nd_layout.proofs.NamesFromOtherCrates.{ℕ, ◌+◌, ◌-◌, ◌<◌, ◌≤◌, ◌≡◌, List, length, true, arith, ap, sym, ◌∙◌, ℤ, pos, ◌+ℤ◌, neg_ℤ, in_box, size_of, column_rank, displacement_of, span_of, IsSeparated}
use borrow.Author.Differences.{up, down, neg_is}
use Rattle.nd_layout.specs.StridesAfterLayoutCalls.{reach_down}
use Rattle.nd_layout.specs.RanksAndReshapeStrides.{IsRun, column_index}
use Rattle.nd_layout.proofs.Integers.{sums}
use Rattle.nd_layout.proofs.PlacesWithinSpan.{offset_bounds, span_of-reaches}
use Rattle.nd_layout.proofs.DistinctPlaces.{same_index}
use Rattle.nd_layout.proofs.NthElementInColumnMajor.{in_box-column_index, column_rank-column_index}
use Rattle.nd_layout.proofs.reshape_lemmas.Pigeonhole.{pigeonhole}

-- how far above the lowest place a displacement lies
abbrev pub above_low : List ℕ → List ℤ → ℤ → ℕ
above_low ns ss z = reach_down ns ss + up z - down z

-- a displacement is the lowest one and that
pub above_low-is : (ns : List ℕ) (ss : List ℤ) (i : List ℕ) → in_box ns i ≡ true → displacement_of ss i ≡ neg_ℤ (pos (reach_down ns ss)) +ℤ pos (above_low ns ss (displacement_of ss i))
above_low-is ns ss i h = let b = offset_bounds ns ss i h in omega (arith, sums, neg_is (pos (reach_down ns ss)))

-- that is at most the span
pub above_low-le : (ns : List ℕ) (ss : List ℤ) (i : List ℕ) → in_box ns i ≡ true → above_low ns ss (displacement_of ss i) ≤ span_of ns ss
above_low-le ns ss i h = let b = offset_bounds ns ss i h in omega (arith, span_of-reaches ns ss)

same_displacement : (ns : List ℕ) (ss : List ℤ) (i j : List ℕ) → in_box ns i ≡ true → in_box ns j ≡ true → above_low ns ss (displacement_of ss i) ≡ above_low ns ss (displacement_of ss j) → displacement_of ss i ≡ displacement_of ss j
same_displacement ns ss i j h q e = above_low-is ns ss i h ∙ ap (λ n. neg_ℤ (pos (reach_down ns ss)) +ℤ pos n) e ∙ sym (above_low-is ns ss j q)

-- in a full layout that is below the size
pub above_low-lt : (ns : List ℕ) (ss : List ℤ) (i : List ℕ) → span_of ns ss + 1 ≡ size_of ns → in_box ns i ≡ true → above_low ns ss (displacement_of ss i) < size_of ns
above_low-lt ns ss i full h = let l = above_low-le ns ss i h in omega arith

-- distinct numbers below the size, one for each index: each number below it is one of them
pub each_above_low : (ns : List ℕ) (ss : List ℤ) → length ss ≡ length ns → IsSeparated ns ss → span_of ns ss + 1 ≡ size_of ns → (k : ℕ) → k < size_of ns → (i : List ℕ) × (in_box ns i ≡ true) × (displacement_of ss i ≡ neg_ℤ (pos (reach_down ns ss)) +ℤ pos k)
each_above_low ns ss e apart full k h =
    let f : ℕ → ℕ = λ r. above_low ns ss (displacement_of ss (column_index ns r)) in
    let below : (r : ℕ) → r < size_of ns → f r < size_of ns = λ r h. above_low-lt ns ss (column_index ns r) full (in_box-column_index ns r h) in
    let once : (r q : ℕ) → r < size_of ns → q < size_of ns → f r ≡ f q → r ≡ q =
    λ r q h k same.
    let i = column_index ns r in
    let j = column_index ns q in
    let in_i = in_box-column_index ns r h in
    let in_j = in_box-column_index ns q k in
    sym (column_rank-column_index ns r h) ∙ ap (λ x. column_rank ns x) (same_index ns ss i j e apart in_i in_j (same_displacement ns ss i j in_i in_j same)) ∙ column_rank-column_index ns q k in
    let w = pigeonhole (size_of ns) f below once k h in
    let inside = in_box-column_index ns w.0 w.1 in
    (column_index ns w.0, inside, above_low-is ns ss (column_index ns w.0) inside ∙ ap (λ n. neg_ℤ (pos (reach_down ns ss)) +ℤ pos n) w.2)

-- so they are a run
pub IsRun-from_separated : (ns : List ℕ) (ss : List ℤ) → length ss ≡ length ns → IsSeparated ns ss → span_of ns ss + 1 ≡ size_of ns → IsRun ns ss
IsRun-from_separated ns ss e apart full = record {
  low = neg_ℤ (pos (reach_down ns ss));
  within = λ i h. (above_low ns ss (displacement_of ss i), above_low-lt ns ss i full h, above_low-is ns ss i h);
  each = each_above_low ns ss e apart full;
  once = λ i j h q same. same_index ns ss i j e apart h q same;
}
