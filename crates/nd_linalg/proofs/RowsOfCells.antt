-- Rows of cells one after the other.
use Rattle.std.proofs.Common.{◌≡◌, ℕ, zero, suc, ◌+◌, ◌*◌, ◌<◌, ◌≤◌, List, length, ap, refl, sym, ◌∙◌, arith}
use Rattle.std.specs.Prelude.{Option, Bool, true, false, nat_lt, slice_get}
use Rattle.std.proofs.lemmas.Bool.Decides.{nat_tests}

-- a row lies within the cells
pub row_within : (i n m : ℕ) → i < n → i * m + m ≤ n * m
row_within i zero m h = absurd (omega (arith, h))
row_within zero (suc n) m h = omega arith
row_within (suc i) (suc n) m h = let below = row_within i n m (omega (arith, h)) in omega (arith, below)

-- one row more after the cells of i rows
module _ {A : Type 0} (value : ℕ → ℕ → Option A) (i m : ℕ) (cells new : List A) (count : length cells ≡ i * m) where
  pub row_more : ((p : ℕ) → p < length cells → slice_get new p ≡ slice_get cells p) → ((j : ℕ) → j < m → slice_get new (length cells + j) ≡ value i j) → ((h j : ℕ) → h < i → j < m → slice_get cells (h * m + j) ≡ value h j)
      → (h j : ℕ) → h < i + 1 → j < m → slice_get new (h * m + j) ≡ value h j
  row_more before row each h j below inside = by_test (nat_lt h i) refl
    where
      by_test : (t : Bool) → nat_lt h i ≡ t → slice_get new (h * m + j) ≡ value h j
      by_test true e =
          let above : h < i = grind (arith, nat_tests, e) in
          let within = row_within h i m above in
          before (h * m + j) (omega (arith, within, count, inside)) ∙ each h j above inside
      by_test false e =
          let same : h ≡ i = grind (arith, nat_tests, e, below) in
          let at : h * m + j ≡ length cells + j = ap (λ k. k * m + j) same ∙ ap (λ k. k + j) (sym count) in
          ap (slice_get new) at ∙ row j inside ∙ ap (λ k. value k j) (sym same)
