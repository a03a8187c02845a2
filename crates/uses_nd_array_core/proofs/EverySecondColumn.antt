-- What a slice of every second column names of a grid.
use Rattle.std.proofs.Common.{◌≡◌, ℕ, ◌+◌, ◌-◌, ◌*◌, ◌/◌, ◌%◌, ◌<◌, Bool, true, false, ◌&&◌, List, [], ◌∷◌, length, pos, refl, ap, sym, ◌∙◌, arith}
use Rattle.std.specs.Prelude.{Option, Some, None, nat_eq, nat_lt, max, if◌then◌else◌}
use Rattle.std.specs.Option.{is_some, unwrap_or}
use Rattle.std.proofs.Math.Nat.{zero-max}
use Rattle.std.proofs.lemmas.Bool.{and_parts}
use Rattle.std.proofs.lemmas.Bool.Decides.{nat_tests}
use Rattle.std.proofs.Math.Dec.{leb-zero}
use Rattle.std.proofs.Math.Bool.{and-false}
use Rattle.nd_array_core.specs.Prelude.{Slice}
use Rattle.nd_array_core.specs.Prelude.{SliceInfoElem}
use Rattle.nd_array_core.specs.SliceInfoElem.TheVariants.{Slice as Part}
use Rattle.nd_array_core.specs.ShapesAndIndexOrders.{in_box}
use Rattle.nd_array_core.specs.Slice.{bound_on, low_of, high_of, sliced_length, quotient_up}
use Rattle.nd_array_core.specs.SliceInfo.{fits_shape, shape_after, index_before}
use Rattle.nd_array_core.proofs.IndexesWithChangedCoordinates.{in_two_axes}
use Rattle.nd_array_core.specs.scoped.ViewTasks.{OthersKeep}

-- the second number of a list
abbrev second_of : List ℕ → ℕ
second_of [] = 0
second_of (a ∷ []) = 0
second_of (a ∷ b ∷ is) = b

-- all of an axis by a step
abbrev pub by_step : ℕ → Slice
by_step k = record { start = pos 0; end = None; step = pos k }

abbrev pub columns : List SliceInfoElem
columns = Part (pos 0) None (pos 1) ∷ Part (pos 0) None (pos 2) ∷ []

pub start_is : (n : ℕ) → bound_on n (pos 0) ≡ Some 0
start_is n = ap (λ t. if t then Some 0 else None) (leb-zero n)

pub low_is : (n k : ℕ) → low_of n (by_step k) ≡ 0
low_is n k = ap (λ b. unwrap_or b 0) (start_is n)

-- a coordinate of a whole axis names itself
pub itself : (n i : ℕ) → low_of n (by_step 1) + i * 1 ≡ i
itself n i = ap (λ l. l + i * 1) (low_is n 1) ∙ omega arith

high_is : (n k : ℕ) → high_of n (by_step k) ≡ n
high_is n k = ap (λ l. max l n) (low_is n k) ∙ zero-max n

extent_is : (n k : ℕ) → high_of n (by_step k) - low_of n (by_step k) ≡ n
extent_is n k =
    let high = high_is n k in
    let low = low_is n k in
    omega (arith, high, low)

pub whole_length : (n : ℕ) → sliced_length n (by_step 1) ≡ n
whole_length n = ap (λ h. quotient_up h 1) (extent_is n 1) ∙ omega arith

half_length : (n : ℕ) → sliced_length n (by_step 2) ≡ (n + 1) / 2
half_length n = ap (λ h. quotient_up h 2) (extent_is n 2) ∙ omega arith

pub columns_fit : (n m : ℕ) → fits_shape (n ∷ m ∷ []) columns ≡ true
columns_fit n m = (λ k. is_some (start_is n k) && true && (is_some (start_is m k) && true && true) && true)

pub columns_shape : (n m : ℕ) → shape_after (n ∷ m ∷ []) columns ≡ n ∷ ((m + 1) / 2) ∷ []
columns_shape n m = λ k. whole_length n k ∷ half_length m k ∷ []

pub columns_index : (n m i j : ℕ) → index_before (n ∷ m ∷ []) columns (i ∷ j ∷ []) ≡ i ∷ (j * 2) ∷ []
columns_index n m i j =
    let first : low_of n (by_step 1) + i * 1 ≡ i = ap (λ l. l + i * 1) (low_is n 1) ∙ omega arith in
    let second : low_of m (by_step 2) + j * 2 ≡ j * 2 = ap (λ l. l + j * 2) (low_is m 2) ∙ omega arith in
    (λ k. first k ∷ second k ∷ [])

pub two_below : (n m i j : ℕ) → in_box (n ∷ m ∷ []) (i ∷ j ∷ []) ≡ true → (i < n) × (j < m)
two_below n m i j h =
    let rows = and_parts (nat_lt i n) (nat_lt j m && true) h in
    let columns = and_parts (nat_lt j m) true rows.1 in
    (grind (arith, nat_tests, rows.0), grind (arith, nat_tests, columns.0))

-- the columns of even number are painted, and the others are not
module _ {A : Type 0} (n m : ℕ) (x : A) (old new : List ℕ → Option A) (filled : (i : List ℕ) → in_box (shape_after (n ∷ m ∷ []) columns) i ≡ true → new (index_before (n ∷ m ∷ []) columns i) ≡ Some x) (kept : OthersKeep (shape_after (n ∷ m ∷ []) columns) (index_before (n ∷ m ∷ []) columns) old new) where
  even_painted : (row column : ℕ) → row < n → column < m → column % 2 ≡ 0 → new (row ∷ column ∷ []) ≡ Some x
  even_painted row column r c even =
      let half : column / 2 * 2 ≡ column = omega (arith, even) in
      let inside : in_box (shape_after (n ∷ m ∷ []) columns) (row ∷ (column / 2) ∷ []) ≡ true = ap (λ s. in_box s (row ∷ (column / 2) ∷ [])) (columns_shape n m) ∙ in_two_axes n ((m + 1) / 2) row (column / 2) r (omega (arith, c, even)) in
      ap new (sym (columns_index n m row (column / 2) ∙ ap (λ k. row ∷ k ∷ []) half)) ∙ filled (row ∷ (column / 2) ∷ []) inside

  odd_kept : (row column : ℕ) → (column % 2 ≡ 0 → ⊥) → new (row ∷ column ∷ []) ≡ old (row ∷ column ∷ [])
  odd_kept row column odd = kept (row ∷ column ∷ []) never
    where
      never : (j : List ℕ) → in_box (shape_after (n ∷ m ∷ []) columns) j ≡ true → index_before (n ∷ m ∷ []) columns j ≡ row ∷ column ∷ [] → ⊥
      never [] h e = let none : false ≡ true = sym (ap (λ s. in_box s []) (columns_shape n m)) ∙ h in cc
      never (a ∷ []) h e = let none : false ≡ true = sym (ap (λ s. in_box s (a ∷ [])) (columns_shape n m) ∙ no_second a) ∙ h in cc
        where
          no_second : (i : ℕ) → in_box (n ∷ ((m + 1) / 2) ∷ []) (i ∷ []) ≡ false
          no_second i = and-false (nat_lt i n)
      never (a ∷ b ∷ []) h e =
          let same : b * 2 ≡ column = ap second_of (sym (columns_index n m a b) ∙ e) in
          odd (omega (arith, same))
      never (a ∷ b ∷ c ∷ j) h e = let none : false ≡ true = sym (ap (λ s. in_box s (a ∷ b ∷ c ∷ j)) (columns_shape n m) ∙ no_third a b) ∙ h in cc
        where
          no_third : (i k : ℕ) → in_box (n ∷ ((m + 1) / 2) ∷ []) (i ∷ k ∷ c ∷ j) ≡ false
          no_third i k = by_test (nat_lt i n) (nat_lt k ((m + 1) / 2))
            where
              by_test : (t u : Bool) → (t && (u && false)) ≡ false
              by_test true true = refl
              by_test true false = refl
              by_test false u = refl

  pub every_second : (row column : ℕ) → in_box (n ∷ m ∷ []) (row ∷ column ∷ []) ≡ true → new (row ∷ column ∷ []) ≡ (if nat_eq (column % 2) 0 then Some x else old (row ∷ column ∷ []))
  every_second row column h =
      let below = two_below n m row column h in
      by_case (nat_eq (column % 2) 0) refl below.0 below.1
    where
      by_case : (t : Bool) → nat_eq (column % 2) 0 ≡ t → row < n → column < m → new (row ∷ column ∷ []) ≡ (if t then Some x else old (row ∷ column ∷ []))
      by_case true e r c = even_painted row column r c (grind (arith, nat_tests, e))
      by_case false e r c = odd_kept row column (λ even. let yes : nat_eq (column % 2) 0 ≡ true = grind (arith, nat_tests, even) in cc)

-- a list of two
pub two_of : (ns : List ℕ) → length ns ≡ 2 → (n : ℕ) × (m : ℕ) × (ns ≡ n ∷ m ∷ [])
two_of [] e = absurd (omega (arith, e))
two_of (n ∷ []) e = absurd (omega (arith, e))
two_of (n ∷ m ∷ []) e = (n, m, refl)
two_of (n ∷ m ∷ k ∷ ns) e = absurd (omega (arith, e))

pub every_second_of : {A : Type 0} (ns : List ℕ) (x : A) (old new : List ℕ → Option A) → length ns ≡ 2 → ((i : List ℕ) → in_box (shape_after ns columns) i ≡ true → new (index_before ns columns i) ≡ Some x) → OthersKeep (shape_after ns columns) (index_before ns columns) old new
    → (row column : ℕ) → in_box ns (row ∷ column ∷ []) ≡ true → new (row ∷ column ∷ []) ≡ (if nat_eq (column % 2) 0 then Some x else old (row ∷ column ∷ []))
every_second_of [] x old new e filled kept = absurd (omega (arith, e))
every_second_of (n ∷ []) x old new e filled kept = absurd (omega (arith, e))
every_second_of (n ∷ m ∷ []) x old new e filled kept = every_second n m x old new filled kept
every_second_of (n ∷ m ∷ k ∷ ns) x old new e filled kept = absurd (omega (arith, e))
