-- What a run is, by its span and its strides.
use Rattle.nd_layout.proofs.NamesFromOtherCrates.{ℕ, suc, zero, ◌+◌, ◌<◌, ◌≡◌, ◌∙◌, arith, ap, refl, sym, Bool, true, false, false≢true, ◌↔◌, List, length, ℤ, pos, ◌+ℤ◌, row_rank, index_at, size_of, span_of, IsSeparated, row_rank_below, in_box-index_at, index_at-row_rank, row_rank-index_at}
use Rattle.nd_layout.specs.RanksAndReshapeStrides.{IsRun, IsStandard}
use Rattle.nd_layout.proofs.Integers.{sums}
use Rattle.nd_layout.proofs.reshape_lemmas.RunFromSpan.{IsRun-from_separated}
use Rattle.nd_layout.proofs.reshape_lemmas.RunIsSeparatedWithFullSpan.{DotRun-from_run, span-from_run, IsSeparated-from_run}

-- a run is separated
pub run_strides : (ns : List ℕ) (ss : List ℤ) → length ss ≡ length ns → 0 < size_of ns → IsRun ns ss → IsSeparated ns ss
run_strides ns ss e some run = IsSeparated-from_run ns ss e some (DotRun-from_run ns ss e some run)

-- its span is one less than its size
pub run_span : (ns : List ℕ) (ss : List ℤ) → length ss ≡ length ns → 0 < size_of ns → IsRun ns ss → span_of ns ss + 1 ≡ size_of ns
run_span ns ss e some run = span-from_run ns ss e some (DotRun-from_run ns ss e some run)

-- and both make a run
pub run_from : (ns : List ℕ) (ss : List ℤ) → length ss ≡ length ns → span_of ns ss + 1 ≡ size_of ns → IsSeparated ns ss → IsRun ns ss
run_from ns ss e full apart = IsRun-from_separated ns ss e apart full

-- a standard layout is a run
pub run_standard : (ns : List ℕ) (ss : List ℤ) → IsStandard ns ss → IsRun ns ss
run_standard ns ss standard = record {
  low = pos 0;
  within = λ i h. (row_rank ns i, row_rank_below ns i h, standard i h ∙ from_zero (row_rank ns i));
  each = λ k h. (index_at ns k, in_box-index_at ns k h, standard (index_at ns k) (in_box-index_at ns k h) ∙ ap pos (row_rank-index_at ns k h) ∙ from_zero k);
  once = λ i j h q same.
      let ranks : row_rank ns i ≡ row_rank ns j = omega (arith, sums, standard i h, standard j q, same) in
      sym (index_at-row_rank ns i h) ∙ ap (index_at ns) ranks ∙ index_at-row_rank ns j q;
}
  where
    from_zero : (k : ℕ) → pos k ≡ pos 0 +ℤ pos k
    from_zero k = omega (arith, sums)

-- an empty one is standard, so any other has an element
pub some_unless_standard : (ns : List ℕ) (ss : List ℤ) (is : Bool) → (is ≡ true) ↔ IsStandard ns ss → is ≡ false → 0 < size_of ns
some_unless_standard ns ss is tells isnt = by_size (size_of ns) refl
  where
    by_size : (n : ℕ) → size_of ns ≡ n → 0 < n
    by_size zero none = absurd (false≢true (sym isnt ∙ tells.1 (λ i h. absurd (omega (arith, row_rank_below ns i h, none)))))
    by_size (suc n) some = omega arith
