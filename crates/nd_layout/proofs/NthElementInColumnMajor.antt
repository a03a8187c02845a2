-- Displacements by rank: two axes of which the second goes on where the first ends are one axis.
use Rattle.nd_layout.proofs.NamesFromOtherCrates.{ℕ, zero, suc, ◌+◌, ◌*◌, ◌/◌, ◌%◌, ◌<◌, ◌≡◌, List, [], ◌∷◌, ltb, true, arith, refl, ap, ◌∙◌, ℤ, pos, ◌+ℤ◌, ◌*ℤ◌, +ℤ_idl, mod-mul, mul_comm, zero-add, zero-mod, zero-div, mod-one, div-one, mod-lt, mod-add-div, mod-eq_of_lt, div-eq_of_lt, div-div-eq-div-mul, div-lt_iff_lt-mul, add-mul-div_left, add-mul-mod_self_left, mul-mod_right, mul-div_right, ltb-true, lt-ltb, and_parts, and_from, false≢true, in_box, size_of, column_rank, displacement_of}
use lib.IntN.{+ℤ_idr}
use Rattle.nd_layout.specs.RanksAndReshapeStrides.{at_rank, column_index}
use Rattle.nd_layout.proofs.Integers.{sums, zero-mul, add-mul, mul-mul}

-- rank 0 is the offset
pub at_rank-zero : (ns : List ℕ) (ss : List ℤ) → at_rank ns ss 0 ≡ pos 0
at_rank-zero [] ss = refl
at_rank-zero (n ∷ ns) [] = refl
at_rank-zero (n ∷ ns) (s ∷ ss) = rw (zero-mod n, zero-div n, zero-mul s, at_rank-zero ns ss) refl

-- an axis of length 1 changes nothing
pub at_rank-one : (ns : List ℕ) (s : ℤ) (ss : List ℤ) (r : ℕ) → at_rank (1 ∷ ns) (s ∷ ss) r ≡ at_rank ns ss r
at_rank-one ns s ss r = rw (mod-one r, div-one r, zero-mul s) (+ℤ_idl (at_rank ns ss r))

-- an axis n, and an axis m that goes on where it ends, are one axis
pub glued : (n m : ℕ) (s : ℤ) (ns : List ℕ) (ss : List ℤ) (r : ℕ) → 0 < n → 0 < m → at_rank (n ∷ m ∷ ns) (s ∷ (pos n *ℤ s) ∷ ss) r ≡ at_rank (n * m ∷ ns) (s ∷ ss) r
glued n m s ns ss r some_n some_m =
    let d : r % (n * m) ≡ r / n % m * n + r % n = ap (λ k. r % k) (mul_comm n m) ∙ mod-mul r some_m some_n in
    let q = div-div-eq-div-mul r n m in
    let product = mul-mul (r / n % m) n s in
    let parts = add-mul (r / n % m * n) (r % n) s in
    rw (q, d) (omega (arith, sums))

-- at the multiples of the first length, the first axis's coordinate is 0
pub at_rank-multiple : (n : ℕ) (s : ℤ) (ns : List ℕ) (ss : List ℤ) (r : ℕ) → 0 < n → at_rank (n ∷ ns) (s ∷ ss) (n * r) ≡ at_rank ns ss r
at_rank-multiple n s ns ss r some = rw (mul-mod_right n r, mul-div_right r some, zero-mul s) (+ℤ_idl (at_rank ns ss r))

-- below the first length, only the first axis moves
pub at_rank-below : (n : ℕ) (s : ℤ) (ns : List ℕ) (ss : List ℤ) (r : ℕ) → r < n → at_rank (n ∷ ns) (s ∷ ss) r ≡ pos r *ℤ s
at_rank-below n s ns ss r h = rw (mod-eq_of_lt h, div-eq_of_lt h, at_rank-zero ns ss) (+ℤ_idr (pos r *ℤ s))

-- ---- ranks and indexes
-- the displacement at an index's rank is the index's
pub at_rank-column_rank : (ns : List ℕ) (ss : List ℤ) (i : List ℕ) → in_box ns i ≡ true → at_rank ns ss (column_rank ns i) ≡ displacement_of ss i
at_rank-column_rank [] [] [] h = refl
at_rank-column_rank [] [] (k ∷ i) h = absurd (false≢true h)
at_rank-column_rank [] (s ∷ ss) [] h = refl
at_rank-column_rank [] (s ∷ ss) (k ∷ i) h = absurd (false≢true h)
at_rank-column_rank (n ∷ ns) [] i h = refl
at_rank-column_rank (n ∷ ns) (s ∷ ss) [] h = absurd (false≢true h)
at_rank-column_rank (n ∷ ns) (s ∷ ss) (k ∷ i) h =
    let w = and_parts (ltb k n) (in_box ns i) h in
    let below = ltb-true k n w.0 in
    let some : 0 < n = omega arith in
    let m : (k + n * column_rank ns i) % n ≡ k = add-mul-mod_self_left k n (column_rank ns i) ∙ mod-eq_of_lt below in
    let d : (k + n * column_rank ns i) / n ≡ column_rank ns i =
    add-mul-div_left k (column_rank ns i) some ∙ ap (λ v. v + column_rank ns i) (div-eq_of_lt below) ∙ zero-add (column_rank ns i) in
    rw (m, d) (ap (λ v. (pos k *ℤ s) +ℤ v) (at_rank-column_rank ns ss i w.1))

-- ---- the index of a column-major rank
-- is in the box where the rank is below the size
pub in_box-column_index : (ns : List ℕ) (r : ℕ) → r < size_of ns → in_box ns (column_index ns r) ≡ true
in_box-column_index [] r h = refl
in_box-column_index (n ∷ ns) r h =
    let some = first_some n (size_of ns) r h in
    let rest : r / n < size_of ns = (div-lt_iff_lt-mul some).1 (omega (arith, mul_comm n (size_of ns))) in
    and_from (ltb (r % n) n) (in_box ns (column_index ns (r / n))) (lt-ltb (r % n) n (mod-lt r some)) (in_box-column_index ns (r / n) rest)
  where
    first_some : (n m r : ℕ) → r < n * m → 0 < n
    first_some zero m r h = absurd (omega arith)
    first_some (suc n) m r h = omega arith

-- and has that rank
pub column_rank-column_index : (ns : List ℕ) (r : ℕ) → r < size_of ns → column_rank ns (column_index ns r) ≡ r
column_rank-column_index [] r h = omega arith
column_rank-column_index (n ∷ ns) r h =
    let some = first_some n (size_of ns) r h in
    let rest : r / n < size_of ns = (div-lt_iff_lt-mul some).1 (omega (arith, mul_comm n (size_of ns))) in
    ap (λ v. r % n + n * v) (column_rank-column_index ns (r / n) rest) ∙ mod-add-div r n
  where
    first_some : (n m r : ℕ) → r < n * m → 0 < n
    first_some zero m r h = absurd (omega arith)
    first_some (suc n) m r h = omega arith
