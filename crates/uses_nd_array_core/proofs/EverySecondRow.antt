-- What slices of every second row name of a grid, from the first row on or from the second.
use Rattle.std.proofs.Common.{◌≡◌, ℕ, ◌+◌, ◌-◌, ◌*◌, ◌/◌, ◌%◌, ◌<◌, ◌≤◌, Bool, true, false, ◌&&◌, List, [], ◌∷◌, length, pos, refl, ap, sym, ◌∙◌, subst, arith}
use Rattle.std.specs.Prelude.{Option, slice_index, Some, None, nat_eq, max, if◌then◌else◌}
use Rattle.std.specs.Option.{is_some, unwrap_or}
use Rattle.std.proofs.lemmas.Bool.Decides.{nat_tests}
use Rattle.std.proofs.Math.Nat.{max-eq_right}
use Rattle.nd_array_core.specs.Prelude.{Slice}
use Rattle.nd_array_core.specs.Prelude.{SliceInfoElem}
use Rattle.nd_array_core.specs.SliceInfoElem.TheVariants.{Slice as Part}
use Rattle.nd_array_core.specs.ShapesAndIndexOrders.{in_box}
use Rattle.nd_array_core.specs.Slice.{low_of, high_of, sliced_length, quotient_up}
use Rattle.nd_array_core.specs.SliceInfo.{fits_shape, shape_after, index_before}
use Rattle.nd_array_core.proofs.IndexesWithChangedCoordinates.{in_two_axes, bound_within}
use Rattle.nd_array_core.specs.layout.MultiSlice.{NameNothingInCommon, TwoFit}
use Rattle.uses_nd_array_core.proofs.EverySecondColumn.{start_is, low_is, whole_length, two_below}

-- every second from one on
abbrev pub second_from : ℕ → Slice
second_from k = record { start = pos k; end = None; step = pos 2 }

abbrev pub rows_from : ℕ → List SliceInfoElem
rows_from k = Part (pos k) None (pos 2) ∷ Part (pos 0) None (pos 1) ∷ []

abbrev first_of : List ℕ → ℕ
first_of [] = 0
first_of (a ∷ is) = a

low_at : (n k : ℕ) → k ≤ n → low_of n (second_from k) ≡ k
low_at n k h = ap (λ b. unwrap_or b 0) (bound_within n k h)

rows_extent : (n k : ℕ) → k ≤ n → high_of n (second_from k) - low_of n (second_from k) ≡ n - k
rows_extent n k h =
    let high : high_of n (second_from k) ≡ n = ap (λ l. max l n) (low_at n k h) ∙ max-eq_right h in
    let low = low_at n k h in
    omega (arith, high, low)

rows_length : (n k : ℕ) → k ≤ n → sliced_length n (second_from k) ≡ (n - k + 1) / 2
rows_length n k h = ap (λ e. quotient_up e 2) (rows_extent n k h)

pub rows_fit : (n m k : ℕ) → k ≤ n → fits_shape (n ∷ m ∷ []) (rows_from k) ≡ true
rows_fit n m k h = (λ i. is_some (bound_within n k h i) && true && (is_some (start_is m i) && true && true) && true)

rows_shape : (n m k : ℕ) → k ≤ n → shape_after (n ∷ m ∷ []) (rows_from k) ≡ ((n - k + 1) / 2) ∷ m ∷ []
rows_shape n m k h = λ i. rows_length n k h i ∷ whole_length m i ∷ []

rows_index : (n m k i j : ℕ) → k ≤ n → index_before (n ∷ m ∷ []) (rows_from k) (i ∷ j ∷ []) ≡ (k + i * 2) ∷ j ∷ []
rows_index n m k i j h =
    let first : low_of n (second_from k) + i * 2 ≡ k + i * 2 = ap (λ l. l + i * 2) (low_at n k h) in
    let second : low_of m (record { start = pos 0; end = None; step = pos 1 }) + j * 1 ≡ j = ap (λ l. l + j * 1) (low_is m 1) ∙ omega arith in
    (λ e. first e ∷ second e ∷ [])

-- no row has an even number and an odd one
pub rows_apart : (n m : ℕ) → 0 < n → NameNothingInCommon (n ∷ m ∷ []) (rows_from 0) (rows_from 1)
rows_apart n m some met = differ met.in_first.new met.in_second.new met.in_first.in_result met.in_second.in_result (met.in_first.stands_for ∙ sym met.in_second.stands_for)
  where
    differ : (i j : List ℕ) → in_box (shape_after (n ∷ m ∷ []) (rows_from 0)) i ≡ true → in_box (shape_after (n ∷ m ∷ []) (rows_from 1)) j ≡ true → index_before (n ∷ m ∷ []) (rows_from 0) i ≡ index_before (n ∷ m ∷ []) (rows_from 1) j → ⊥
    differ [] j h g e = cc
    differ (a ∷ i) [] h g e = cc
    differ (a ∷ i) (b ∷ j) h g e =
        let same : low_of n (second_from 0) + a * 2 ≡ low_of n (second_from 1) + b * 2 = ap first_of e in
        let even = low_at n 0 (omega arith) in
        let odd = low_at n 1 (omega (arith, some)) in
        absurd (omega (arith, same, even, odd))

pub two_rows_fit : (n m : ℕ) → 0 < n → TwoFit (n ∷ m ∷ []) (rows_from 0) (rows_from 1)
two_rows_fit n m some = (rows_fit n m 0 (omega arith), rows_fit n m 1 (omega (arith, some)), rows_apart n m some)

module _ {A : Type 0} (n m : ℕ) (x y : A) (new : List ℕ → Option A) where
  -- a row that is k more than a number of twos shows what the list from k on was filled with
  row_filled : (k : ℕ) (v : A) → k ≤ n → ((i : List ℕ) → in_box (shape_after (n ∷ m ∷ []) (rows_from k)) i ≡ true → new (index_before (n ∷ m ∷ []) (rows_from k) i) ≡ Some v) → (row column : ℕ) → row < n → column < m → row % 2 ≡ k → new (row ∷ column ∷ []) ≡ Some v
  row_filled k v h filled row column r c odd =
      let back : k + row / 2 * 2 ≡ row = omega (arith, odd) in
      let within : row / 2 < (n - k + 1) / 2 = omega (arith, r, odd) in
      let inside : in_box (shape_after (n ∷ m ∷ []) (rows_from k)) ((row / 2) ∷ column ∷ []) ≡ true = ap (λ s. in_box s ((row / 2) ∷ column ∷ [])) (rows_shape n m k h) ∙ in_two_axes ((n - k + 1) / 2) m (row / 2) column within c in
      ap new (sym (rows_index n m k (row / 2) column h ∙ ap (λ a. a ∷ column ∷ []) back)) ∙ filled ((row / 2) ∷ column ∷ []) inside

  pub interleaved : 0 < n → ((i : List ℕ) → in_box (shape_after (n ∷ m ∷ []) (rows_from 0)) i ≡ true → new (index_before (n ∷ m ∷ []) (rows_from 0) i) ≡ Some x) → ((i : List ℕ) → in_box (shape_after (n ∷ m ∷ []) (rows_from 1)) i ≡ true → new (index_before (n ∷ m ∷ []) (rows_from 1) i) ≡ Some y)
      → (row column : ℕ) → in_box (n ∷ m ∷ []) (row ∷ column ∷ []) ≡ true → new (row ∷ column ∷ []) ≡ Some (if nat_eq (row % 2) 0 then x else y)
  interleaved some evens odds row column h =
      let below = two_below n m row column h in
      by_case (nat_eq (row % 2) 0) refl below.0 below.1
    where
      by_case : (t : Bool) → nat_eq (row % 2) 0 ≡ t → row < n → column < m → new (row ∷ column ∷ []) ≡ Some (if t then x else y)
      by_case true e r c = row_filled 0 x (omega arith) evens row column r c (grind (arith, nat_tests, e))
      by_case false e r c =
          let other : row % 2 ≡ 0 → ⊥ = λ even. let yes : nat_eq (row % 2) 0 ≡ true = grind (arith, nat_tests, even) in cc in
          row_filled 1 y (omega (arith, some)) odds row column r c (omega (arith, other))

-- ---- the same of a shape of two axes, and of lists that are known to be these
pub lists_fit : (ns : List ℕ) (es fs : List SliceInfoElem) → length ns ≡ 2 → (slice_index ns 0 ≡ 0 → ⊥) → es ≡ rows_from 0 → fs ≡ rows_from 1 → TwoFit ns es fs
lists_fit [] es fs e some evens odds = absurd (omega (arith, e))
lists_fit (n ∷ []) es fs e some evens odds = absurd (omega (arith, e))
lists_fit (n ∷ m ∷ []) es fs e some evens odds = subst (λ (z : List SliceInfoElem × List SliceInfoElem). TwoFit (n ∷ m ∷ []) z.0 z.1) (λ i. (sym evens i, sym odds i)) (two_rows_fit n m (omega (arith, some)))
lists_fit (n ∷ m ∷ k ∷ ns) es fs e some evens odds = absurd (omega (arith, e))

abbrev pub Filled : {A : Type 0} → List ℕ → List SliceInfoElem → (List ℕ → Option A) → A → Type 0
Filled ns es new v = (i : List ℕ) → in_box (shape_after ns es) i ≡ true → new (index_before ns es i) ≡ Some v

pub interleaved_by : {A : Type 0} (ns : List ℕ) (es fs : List SliceInfoElem) (x y : A) (new : List ℕ → Option A) → length ns ≡ 2 → (slice_index ns 0 ≡ 0 → ⊥) → es ≡ rows_from 0 → fs ≡ rows_from 1 → Filled ns es new x → Filled ns fs new y
    → (row column : ℕ) → in_box ns (row ∷ column ∷ []) ≡ true → new (row ∷ column ∷ []) ≡ Some (if nat_eq (row % 2) 0 then x else y)
interleaved_by [] es fs x y new e some evens odds first second = absurd (omega (arith, e))
interleaved_by (n ∷ []) es fs x y new e some evens odds first second = absurd (omega (arith, e))
interleaved_by (n ∷ m ∷ []) es fs x y new e some evens odds first second =
    interleaved n m x y new (omega (arith, some)) (subst (λ (l : List SliceInfoElem). Filled (n ∷ m ∷ []) l new x) evens first) (subst (λ (l : List SliceInfoElem). Filled (n ∷ m ∷ []) l new y) odds second)
interleaved_by (n ∷ m ∷ k ∷ ns) es fs x y new e some evens odds first second = absurd (omega (arith, e))
