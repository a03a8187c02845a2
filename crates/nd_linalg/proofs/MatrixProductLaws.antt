-- Why the laws of products hold.
use Rattle.std.proofs.Common.{◌≡◌, ℕ, zero, suc, ◌+◌, ◌<◌, [], ◌∷◌, Bool, true, false, ℤ, pos, refl, ap, sym, ◌∙◌, arith, rules}
use Rattle.std.specs.Prelude.{Option, Some, None, nat_eq, nat_lt, slice_index, FitsSigned, if◌then◌else◌}
use Rattle.std.specs.Int.{w64, cast_unsigned, int_wrap, int_wrapping_add, int_wrapping_mul}
use Rattle.std.proofs.lemmas.Bool.Decides.{nat_tests}
use Rattle.std.proofs.lemmas.Int.{int_wrap_fits, ints, wrapping_add_is, wrapping_mul_is}
use native.Mathlib.Nat.{mul_comm}
use Rattle.nd_array_core.specs.elements.BroadcastPairs.{option_both}
use Rattle.nd_linalg.specs.DotAndMatrixProducts.{sum_of_products}
use Rattle.nd_linalg.specs.MatrixProductLaws.{TurnsProducts, KeepsMatrices}
use Rattle.nd_linalg.proofs.SumsOfProducts.{sums_agree}

abbrev plus : ℤ → ℤ → ℤ
plus = int_wrapping_add w64

abbrev times : ℤ → ℤ → ℤ
times = int_wrapping_mul w64

-- ---- the factors of a product exchanged
both_turned : {A B : Type 0} (h : A → A → B) → ((x y : A) → h x y ≡ h y x) → (x y : Option A) → option_both h x y ≡ option_both h y x
both_turned h turns (Some x) (Some y) = ap Some (turns x y)
both_turned h turns (Some x) None = refl
both_turned h turns None (Some y) = refl
both_turned h turns None None = refl

times_turned : (x y : ℤ) → times x y ≡ times y x
times_turned x y = rw (mul_comm (cast_unsigned w64 x) (cast_unsigned w64 y)) refl

sums_turned : (xs ys : ℕ → Option ℤ) (n : ℕ) → sum_of_products plus times (pos 0) xs ys n ≡ sum_of_products plus times (pos 0) ys xs n
sums_turned xs ys zero = refl
sums_turned xs ys (suc n) =
    let before = sums_turned xs ys n in
    let last = both_turned times times_turned (xs n) (ys n) in
    (λ t. option_both plus (before t) (last t))

pub turned_product : TurnsProducts
turned_product m n m' n' left right inner i j =
    sums_turned (λ k. n'.at (j ∷ k ∷ [])) (λ k. m'.at (k ∷ i ∷ [])) (slice_index n'.shape 1)
    ∙ sums_agree plus times (pos 0) (λ k. m'.at (k ∷ i ∷ [])) (λ k. m.at (i ∷ k ∷ [])) (λ k. n'.at (j ∷ k ∷ [])) (λ k. n.at (k ∷ j ∷ [])) (slice_index n'.shape 1) (λ k h. left i k) (λ k h. right k j)
    ∙ ap (sum_of_products plus times (pos 0) (λ k. m.at (i ∷ k ∷ [])) (λ k. n.at (k ∷ j ∷ []))) inner

-- ---- zero and one
zero_fits : FitsSigned w64 (pos 0)
zero_fits = search rules

one_fits : FitsSigned w64 (pos 1)
one_fits = search rules

module _ (x : ℤ) (fits : FitsSigned w64 x) where
  zero_times : times (pos 0) x ≡ pos 0
  zero_times = wrapping_mul_is w64 (pos 0) x zero_fits fits ∙ ap (int_wrap w64) (omega (arith, ints)) ∙ int_wrap_fits w64 (pos 0) zero_fits

  one_times : times (pos 1) x ≡ x
  one_times = wrapping_mul_is w64 (pos 1) x one_fits fits ∙ ap (int_wrap w64) (omega (arith, ints)) ∙ int_wrap_fits w64 x fits

  plus_zero : plus x (pos 0) ≡ x
  plus_zero = wrapping_add_is w64 x (pos 0) fits zero_fits ∙ ap (int_wrap w64) (omega (arith, ints)) ∙ int_wrap_fits w64 x fits

  zero_plus : plus (pos 0) x ≡ x
  zero_plus = wrapping_add_is w64 (pos 0) x zero_fits fits ∙ ap (int_wrap w64) (omega (arith, ints)) ∙ int_wrap_fits w64 x fits

-- ---- the sum of a row of the identity and a column: zero up to the diagonal, and then the column's element there
module _ (n i : ℕ) (row column : ℕ → Option ℤ) (diagonal : (k : ℕ) → k < n → row k ≡ Some (if nat_eq i k then pos 1 else pos 0)) (held : (k : ℕ) → k < n → (x : ℤ) × (column k ≡ Some x) × FitsSigned w64 x) (below : i < n) where
  sum_so_far : (k : ℕ) → k < n + 1 → sum_of_products plus times (pos 0) row column k ≡ (if nat_lt i k then column i else Some (pos 0))
  sum_so_far zero h = let none : nat_lt i 0 ≡ false = grind (arith, nat_tests) in ap (λ t. if t then column i else Some (pos 0)) (sym none)
  sum_so_far (suc k) h = by_test (sum_so_far k (omega (arith, h))) (nat_eq i k) refl
    where
      here : (x : ℤ) × (column k ≡ Some x) × FitsSigned w64 x
      here = held k (omega (arith, h))

      there : (x : ℤ) × (column i ≡ Some x) × FitsSigned w64 x
      there = held i below

      by_test : sum_of_products plus times (pos 0) row column k ≡ (if nat_lt i k then column i else Some (pos 0)) → (t : Bool) → nat_eq i k ≡ t → option_both plus (sum_of_products plus times (pos 0) row column k) (option_both times (row k) (column k)) ≡ (if nat_lt i (suc k) then column i else Some (pos 0))
      by_test before true e =
          let same : i ≡ k = grind (arith, nat_tests, e) in
          let not_yet : nat_lt i k ≡ false = grind (arith, nat_tests, same) in
          let now : nat_lt i (suc k) ≡ true = grind (arith, nat_tests, same) in
          let one : row k ≡ Some (pos 1) = diagonal k (omega (arith, h)) ∙ ap (λ t. Some (if t then pos 1 else pos 0)) e in
          let none : sum_of_products plus times (pos 0) row column k ≡ Some (pos 0) = before ∙ ap (λ t. if t then column i else Some (pos 0)) not_yet in
          (λ t. option_both plus (none t) (option_both times (one t) (here.1 t)))
          ∙ ap Some (ap (plus (pos 0)) (one_times here.0 here.2) ∙ zero_plus here.0 here.2)
          ∙ sym here.1 ∙ ap column (sym same) ∙ ap (λ t. if t then column i else Some (pos 0)) (sym now)
      by_test before false e = by_side (nat_lt i k) refl
        where
          nothing : row k ≡ Some (pos 0)
          nothing = diagonal k (omega (arith, h)) ∙ ap (λ t. Some (if t then pos 1 else pos 0)) e

          by_side : (t : Bool) → nat_lt i k ≡ t → option_both plus (sum_of_products plus times (pos 0) row column k) (option_both times (row k) (column k)) ≡ (if nat_lt i (suc k) then column i else Some (pos 0))
          by_side true f =
              let still : nat_lt i (suc k) ≡ true = grind (arith, nat_tests, f) in
              let so_far : sum_of_products plus times (pos 0) row column k ≡ Some there.0 = before ∙ ap (λ t. if t then column i else Some (pos 0)) f ∙ there.1 in
              (λ t. option_both plus (so_far t) (option_both times (nothing t) (here.1 t)))
              ∙ ap Some (ap (plus there.0) (zero_times here.0 here.2) ∙ plus_zero there.0 there.2)
              ∙ sym there.1 ∙ ap (λ t. if t then column i else Some (pos 0)) (sym still)
          by_side false f =
              let still : nat_lt i (suc k) ≡ false = grind (arith, nat_tests, e, f) in
              let so_far : sum_of_products plus times (pos 0) row column k ≡ Some (pos 0) = before ∙ ap (λ t. if t then column i else Some (pos 0)) f in
              (λ t. option_both plus (so_far t) (option_both times (nothing t) (here.1 t)))
              ∙ ap Some (ap (plus (pos 0)) (zero_times here.0 here.2) ∙ plus_zero (pos 0) zero_fits)
              ∙ ap (λ t. if t then column i else Some (pos 0)) (sym still)

  pub sum_whole : sum_of_products plus times (pos 0) row column n ≡ column i
  sum_whole =
      let there : nat_lt i n ≡ true = grind (arith, nat_tests, below) in
      sum_so_far n (omega arith) ∙ ap (λ t. if t then column i else Some (pos 0)) there

pub identity_keeps : KeepsMatrices
identity_keeps e m identity held i j row column =
    ap (sum_of_products plus times (pos 0) (λ k. e.at (i ∷ k ∷ [])) (λ k. m.at (k ∷ j ∷ []))) identity.0
    ∙ sum_whole (slice_index m.shape 0) i (λ k. e.at (i ∷ k ∷ [])) (λ k. m.at (k ∷ j ∷ [])) (λ k h. identity.1 i k row h) (λ k h. held k j h column) row
