-- Column-major ranks and F strides: an index lies as far from the offset as its column-major rank says.
use Rattle.nd_shape_and_slice.proofs.NamesFromOtherCrates.{◌≡◌, ℕ, zero, suc, ◌+◌, ◌-◌, ◌*◌, ◌<◌, ◌≤◌, Bool, true, false, cond, eqb, leb, List, [], ◌∷◌, length, get_or, replicate, ℤ, pos, ◌+ℤ◌, ◌*ℤ◌, nat_abs, refl, ap, sym, ◌∙◌, arith, mul-le-mul_left, mul_comm, mul_assoc, nat_tests}
use Rattle.nd_shape_and_slice.specs.ShapesAndIndexOrders.{in_box, size_of, column_rank}
use Rattle.nd_shape_and_slice.specs.PlacesAndOverlaps.{displacement_of, span_of, span_within, magnitude_at, IsSeparated}
use Rattle.nd_shape_and_slice.specs.DefaultAndFortranStrides.{column_strides_from, f_strides}
use Rattle.nd_shape_and_slice.proofs.RowMajor.{in_box-cons, positive-cons}

-- column-major ranks are below the size
next_rank_below : (n i size rank : ℕ) → i < n → rank < size → i + n * rank < n * size
next_rank_below n i size rank h below =
    let more : n * suc rank ≤ n * size = mul-le-mul_left n below in
    let sum : n * suc rank ≡ n * rank + n = grind arith in
    omega (arith, more, sum)

pub column_rank_below : (ns is : List ℕ) → in_box ns is ≡ true → column_rank ns is < size_of ns
column_rank_below [] [] h = omega arith
column_rank_below [] (i ∷ is) h = cc
column_rank_below (n ∷ ns) [] h = cc
column_rank_below (n ∷ ns) (i ∷ is) h =
    let parts = in_box-cons n ns i is h in
    next_rank_below n i (size_of ns) (column_rank ns is) parts.0 (column_rank_below ns is parts.1)

-- under column strides an index lies at its column-major rank
joined : (i p n rank : ℕ) → (pos i *ℤ pos p) +ℤ pos (p * n * rank) ≡ pos (p * (i + n * rank))
joined i p n rank =
    let all : p * (i + n * rank) ≡ i * p + p * n * rank = grind arith in
    ap pos (sym all)

pub displacement_of-column_from : (p : ℕ) (ns is : List ℕ) → in_box ns is ≡ true → displacement_of (column_strides_from p ns) is ≡ pos (p * column_rank ns is)
displacement_of-column_from p [] [] h = ap pos nothing
  where
    nothing : 0 ≡ p * 0
    nothing = omega arith
displacement_of-column_from p [] (i ∷ is) h = cc
displacement_of-column_from p (n ∷ ns) [] h = cc
displacement_of-column_from p (n ∷ ns) (i ∷ is) h =
    ap (λ z. (pos i *ℤ pos p) +ℤ z) (displacement_of-column_from (p * n) ns is (in_box-cons n ns i is h).1) ∙ joined i p n (column_rank ns is)

pub displacement_of-column : (ns is : List ℕ) → in_box ns is ≡ true → displacement_of (column_strides_from 1 ns) is ≡ pos (column_rank ns is)
displacement_of-column ns is h = displacement_of-column_from 1 ns is h ∙ ap pos once
  where
    once : 1 * column_rank ns is ≡ column_rank ns is
    once = omega arith

-- column strides reach one less than the size
span_step : (n p size rest : ℕ) → 0 < n → rest + p * n ≡ p * n * size → ((n - 1) * p + rest) + p ≡ p * (n * size)
span_step zero p size rest h e = absurd (omega arith)
span_step (suc n) p size rest h e =
    let whole : p * (suc n * size) ≡ p * suc n * size = sym (mul_assoc p (suc n) size) in
    let once : p * suc n ≡ p * n + p = grind arith in
    let same : n * p ≡ p * n = mul_comm n p in
    let fewer : (suc n - 1) * p ≡ n * p = ap (λ k. k * p) less in
    omega (arith, whole, once, same, fewer, e)
  where
    less : suc n - 1 ≡ n
    less = omega arith

pub span_of-column_strides_from : (p : ℕ) (ns : List ℕ) → 0 < size_of ns → span_of ns (column_strides_from p ns) + p ≡ p * size_of ns
span_of-column_strides_from p [] h = omega arith
span_of-column_strides_from p (n ∷ ns) h =
    let parts = positive-cons n ns h in
    span_step n p (size_of ns) (span_of ns (column_strides_from (p * n) ns)) parts.0 (span_of-column_strides_from (p * n) ns parts.1)

pub span_of-column_strides : (ns : List ℕ) → 0 < size_of ns → span_of ns (column_strides_from 1 ns) + 1 ≡ size_of ns
span_of-column_strides ns h = span_of-column_strides_from 1 ns h ∙ once
  where
    once : 1 * size_of ns ≡ size_of ns
    once = omega arith

-- column strides are separated
skipped : (m n p : ℕ) (s : ℤ) (ns : List ℕ) (ss : List ℤ) → m < nat_abs s → span_within m (n ∷ ns) (s ∷ ss) ≡ span_within m ns ss
skipped m n p s ns ss h = grind (arith, nat_tests)

counted : (m n : ℕ) (s : ℤ) (ns : List ℕ) (ss : List ℤ) → span_within m (n ∷ ns) (s ∷ ss) ≤ (n - 1) * nat_abs s + span_within m ns ss
counted m n s ns ss = at (leb (nat_abs s) m)
  where
    at : (b : Bool) → cond b ((n - 1) * nat_abs s) 0 + span_within m ns ss ≤ (n - 1) * nat_abs s + span_within m ns ss
    at true = omega arith
    at false = omega arith

grown_step : (p n : ℕ) → 0 < n → p * n ≡ (n - 1) * p + p
grown_step p zero h = absurd (omega arith)
grown_step p (suc n) h =
    let once : p * suc n ≡ p * n + p = grind arith in
    let same : n * p ≡ p * n = mul_comm n p in
    let fewer : (suc n - 1) * p ≡ n * p = ap (λ k. k * p) less in
    omega (arith, once, same, fewer)
  where
    less : suc n - 1 ≡ n
    less = omega arith

at_least : (p n : ℕ) → 1 < n → 0 < p → p < p * n
at_least p n h some =
    let two : p * 2 ≤ p * n = mul-le-mul_left p h in
    omega (arith, two)

-- axes that step further than m aren't counted within m
none_within : (m p : ℕ) (ns : List ℕ) → 0 < size_of ns → m < p → span_within m ns (column_strides_from p ns) ≡ 0
none_within m p [] h k = refl
none_within m p (n ∷ ns) h k =
    let parts = positive-cons n ns h in
    let more : p * 1 ≤ p * n = mul-le-mul_left p parts.0 in
    skipped m n p (pos p) ns (column_strides_from (p * n) ns) k ∙ none_within m (p * n) ns parts.1 (omega (arith, more))

reach_below : (p : ℕ) (ns : List ℕ) (k : ℕ) → 0 < p → 0 < size_of ns → 1 < get_or ns k 0 → span_within (magnitude_at (column_strides_from p ns) k) ns (column_strides_from p ns) + p ≤ get_or ns k 0 * magnitude_at (column_strides_from p ns) k
reach_below p [] k some h g = absurd (omega arith)
reach_below p (n ∷ ns) zero some h g =
    let parts = positive-cons n ns h in
    let far = none_within p (p * n) ns parts.1 (at_least p n g some) in
    let first = counted p n (pos p) ns (column_strides_from (p * n) ns) in
    let grown = grown_step p n parts.0 in
    let same : n * p ≡ p * n = mul_comm n p in
    omega (arith, far, first, grown, same)
reach_below p (n ∷ ns) (suc k) some h g =
    let parts = positive-cons n ns h in
    let more : p * 1 ≤ p * n = mul-le-mul_left p parts.0 in
    let rest = reach_below (p * n) ns k (omega (arith, more)) parts.1 g in
    let first = counted (magnitude_at (column_strides_from (p * n) ns) k) n (pos p) ns (column_strides_from (p * n) ns) in
    let grown = grown_step p n parts.0 in
    omega (arith, rest, first, grown)

pub IsSeparated-column_strides : (ns : List ℕ) → 0 < size_of ns → IsSeparated ns (column_strides_from 1 ns)
IsSeparated-column_strides ns h k g =
    let below = reach_below 1 ns k (omega arith) h g in
    omega (arith, below)

-- F strides, by the test whether there are elements
pub f_strides-empty : (ns : List ℕ) → size_of ns ≡ 0 → f_strides ns ≡ replicate (length ns) (pos 0)
f_strides-empty ns h = rw h refl

pub f_strides-full : (ns : List ℕ) → 0 < size_of ns → f_strides ns ≡ column_strides_from 1 ns
f_strides-full ns h = at (size_of ns) h
  where
    at : (size : ℕ) → 0 < size → cond (eqb size 0) (replicate (length ns) (pos 0)) (column_strides_from 1 ns) ≡ column_strides_from 1 ns
    at zero k = absurd (omega arith)
    at (suc size) k = grind (arith, nat_tests)

pub length-column_strides_from : (p : ℕ) (ns : List ℕ) → length (column_strides_from p ns) ≡ length ns
length-column_strides_from p [] = refl
length-column_strides_from p (n ∷ ns) = ap suc (length-column_strides_from (p * n) ns)
