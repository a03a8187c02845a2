-- Ranks and C strides: an index lies as far from the offset as its row-major rank says.
use Rattle.nd_shape_and_slice.proofs.NamesFromOtherCrates.{◌≡◌, ℕ, zero, suc, ◌+◌, ◌-◌, ◌*◌, ◌<◌, ◌≤◌, Bool, true, false, cond, eqb, ltb, leb, List, [], ◌∷◌, length, drop, get_or, set, replicate, drop-cons, add-one, ℤ, pos, negsuc, ◌+ℤ◌, ◌*ℤ◌, nat_abs, refl, ap, sym, ◌∙◌, subst, arith, mul-le-mul_left, mul_comm, false≢true, ints, drop-set, nat_tests}
use Rattle.nd_shape_and_slice.proofs.NonzeroProducts.{size_of-drop}
use Rattle.nd_shape_and_slice.specs.ShapesAndIndexOrders.{in_box, size_of, nonzero_product, row_rank, HasCheckedSize}
use Rattle.nd_shape_and_slice.specs.PlacesAndOverlaps.{displacement_of, span_of, span_within, magnitude_at, IsSeparated}
use Rattle.nd_shape_and_slice.specs.DefaultAndFortranStrides.{row_strides, c_strides}

-- the two parts of an index in a box
pub in_box-cons : (n : ℕ) (ns : List ℕ) (i : ℕ) (is : List ℕ) → in_box (n ∷ ns) (i ∷ is) ≡ true → (i < n) × (in_box ns is ≡ true)
in_box-cons n ns i is h = (grind (arith, nat_tests), grind (arith, nat_tests))

-- an index in the box has one coordinate for each axis
pub length-in_box : (ns is : List ℕ) → in_box ns is ≡ true → length is ≡ length ns
length-in_box [] [] h = refl
length-in_box [] (i ∷ is) h = cc
length-in_box (n ∷ ns) [] h = cc
length-in_box (n ∷ ns) (i ∷ is) h = ap suc (length-in_box ns is (in_box-cons n ns i is h).1)

rank_step : (n i size rank : ℕ) → i < n → rank < size → i * size + rank < n * size
rank_step n i size rank h below =
    let more : suc i * size ≤ n * size = grind (arith, mul-le-mul_left size h) in
    let sum : suc i * size ≡ i * size + size = grind arith in
    omega (arith, more, sum)

-- ranks are below the size
pub row_rank_below : (ns is : List ℕ) → in_box ns is ≡ true → row_rank ns is < size_of ns
row_rank_below [] [] h = omega arith
row_rank_below [] (i ∷ is) h = cc
row_rank_below (n ∷ ns) [] h = cc
row_rank_below (n ∷ ns) (i ∷ is) h =
    let parts = in_box-cons n ns i is h in
    rank_step n i (size_of ns) (row_rank ns is) parts.0 (row_rank_below ns is parts.1)

-- under row strides an index lies at its rank
pub displacement_of-row : (ns is : List ℕ) → in_box ns is ≡ true → displacement_of (row_strides ns) is ≡ pos (row_rank ns is)
displacement_of-row [] [] h = refl
displacement_of-row [] (i ∷ is) h = cc
displacement_of-row (n ∷ ns) [] h = cc
displacement_of-row (n ∷ ns) (i ∷ is) h =
    rw (displacement_of-row ns is (in_box-cons n ns i is h).1) refl

-- a shape with elements has no length 0
pub positive-cons : (n : ℕ) (ns : List ℕ) → 0 < size_of (n ∷ ns) → (0 < n) × (0 < size_of ns)
positive-cons zero ns h = absurd (omega arith)
positive-cons (suc n) ns h = (omega arith, positive_right (suc n) (size_of ns) h)
  where
    positive_right : (a b : ℕ) → 0 < a * b → 0 < b
    positive_right a zero h = absurd (omega arith)
    positive_right a (suc b) h = omega arith

-- the checked product is the size where there are elements
pub nonzero_product-size_of : (ns : List ℕ) → 0 < size_of ns → nonzero_product ns ≡ size_of ns
nonzero_product-size_of [] h = refl
nonzero_product-size_of (zero ∷ ns) h = absurd (omega arith)
nonzero_product-size_of (suc n ∷ ns) h = ap (λ x. suc n * x) (nonzero_product-size_of ns (positive-cons (suc n) ns h).1)

span_step : (n size span : ℕ) → 0 < n → 0 < size → span + 1 ≡ size → (n - 1) * size + span + 1 ≡ n * size
span_step zero size span h k e = absurd (omega arith)
span_step (suc n) size span h k e = grind arith

-- under row strides the places of all elements fill the size
pub span_of-row_strides : (ns : List ℕ) → 0 < size_of ns → span_of ns (row_strides ns) + 1 ≡ size_of ns
span_of-row_strides [] h = refl
span_of-row_strides (n ∷ ns) h =
    let parts = positive-cons n ns h in
    span_step n (size_of ns) (span_of ns (row_strides ns)) parts.0 parts.1 (span_of-row_strides ns parts.1)

-- the sum over some axes is at most that over all
pub span_within-le : (m : ℕ) (ns : List ℕ) (ss : List ℤ) → span_within m ns ss ≤ span_of ns ss
span_within-le m [] ss = omega arith
span_within-le m (n ∷ ns) [] = omega arith
span_within-le m (n ∷ ns) (s ∷ ss) = at (leb (nat_abs s) m) (span_within-le m ns ss)
  where
    at : (b : Bool) → span_within m ns ss ≤ span_of ns ss → cond b ((n - 1) * nat_abs s) 0 + span_within m ns ss ≤ (n - 1) * nat_abs s + span_of ns ss
    at true h = omega arith
    at false h = omega arith

-- an axis steps, where the others have elements, no further than the whole shape reaches
pub stride_below : (ns : List ℕ) (k : ℕ) → 0 < size_of ns → 1 < get_or ns k 0 → get_or ns k 0 * magnitude_at (row_strides ns) k ≤ size_of ns
stride_below [] k h g = absurd (omega arith)
stride_below (n ∷ ns) zero h g = omega arith
stride_below (n ∷ ns) (suc k) h g =
    let parts = positive-cons n ns h in
    let rest = stride_below ns k parts.1 g in
    let more : 1 * size_of ns ≤ n * size_of ns = grind (arith, mul-le-mul_left (size_of ns) parts.0) in
    omega (arith, rest, more)

below_size : (g m size : ℕ) → 1 < g → 0 < size → g * m ≤ size → m < size
below_size g zero size h k le = k
below_size g (suc m) size h k le =
    let two : 2 * suc m ≤ g * suc m = grind (arith, mul-le-mul_left (suc m) h) in
    omega (arith, two)

-- an axis that steps further than m isn't counted within m
pub span_within-skip : (m n : ℕ) (s : ℤ) (ns : List ℕ) (ss : List ℤ) → m < nat_abs s → span_within m (n ∷ ns) (s ∷ ss) ≡ span_within m ns ss
span_within-skip m n s ns ss h = grind (arith, nat_tests)

separated_first : (n size within : ℕ) → 0 < n → within < size → (n - 1) * size + within < n * size
separated_first zero size within h k = absurd (omega arith)
separated_first (suc n) size within h k = grind arith

-- row strides are separated
pub IsSeparated-row_strides : (ns : List ℕ) → 0 < size_of ns → IsSeparated ns (row_strides ns)
IsSeparated-row_strides [] h k g = absurd (omega arith)
IsSeparated-row_strides (n ∷ ns) h zero g =
    let parts = positive-cons n ns h in
    let within = span_within-le (size_of ns) ns (row_strides ns) in
    let all = span_of-row_strides ns parts.1 in
    let below : span_within (size_of ns) ns (row_strides ns) < size_of ns = omega (arith, within, all) in
    let counted : span_within (size_of ns) (n ∷ ns) (pos (size_of ns) ∷ row_strides ns) ≡ (n - 1) * size_of ns + span_within (size_of ns) ns (row_strides ns) = grind (arith, nat_tests) in
    rw counted (separated_first n (size_of ns) (span_within (size_of ns) ns (row_strides ns)) parts.0 below)
IsSeparated-row_strides (n ∷ ns) h (suc k) g =
    let parts = positive-cons n ns h in
    let far : magnitude_at (row_strides ns) k < size_of ns = below_size (get_or ns k 0) (magnitude_at (row_strides ns) k) (size_of ns) g parts.1 (stride_below ns k parts.1 g) in
    let skip = span_within-skip (magnitude_at (row_strides ns) k) n (pos (size_of ns)) ns (row_strides ns) far in
    rw skip (IsSeparated-row_strides ns parts.1 k g)

-- strides of 0 reach nowhere
pub displacement_of-zeros : (n : ℕ) (is : List ℕ) → displacement_of (replicate n (pos 0)) is ≡ pos 0
displacement_of-zeros zero is = refl
displacement_of-zeros (suc n) [] = refl
displacement_of-zeros (suc n) (i ∷ is) = rw (displacement_of-zeros n is) (times_zero i)
  where
    times_zero : (i : ℕ) → (pos i *ℤ pos 0) +ℤ pos 0 ≡ pos 0
    times_zero i = omega (arith, ints)

pub span_of-zeros : (ns : List ℕ) (n : ℕ) → span_of ns (replicate n (pos 0)) ≡ 0
span_of-zeros [] n = refl
span_of-zeros (m ∷ ns) zero = refl
span_of-zeros (m ∷ ns) (suc n) = rw (span_of-zeros ns n) (omega arith)

-- an index of coordinates 0 lies at the offset
pub zeros_in_box : (ns is : List ℕ) → in_box ns is ≡ true → in_box ns (replicate (length ns) 0) ≡ true
zeros_in_box [] [] h = refl
zeros_in_box [] (i ∷ is) h = cc
zeros_in_box (n ∷ ns) [] h = cc
zeros_in_box (n ∷ ns) (i ∷ is) h =
    let parts = in_box-cons n ns i is h in
    let rest = zeros_in_box ns is parts.1 in
    let first : ltb 0 n ≡ true = grind (arith, nat_tests) in
    rw (first, rest) refl

pub displacement_of-origin : (ss : List ℤ) (n : ℕ) → displacement_of ss (replicate n 0) ≡ pos 0
displacement_of-origin [] n = refl
displacement_of-origin (s ∷ ss) zero = refl
displacement_of-origin (s ∷ ss) (suc n) = rw (displacement_of-origin ss n) (zero_times s)
  where
    zero_times : (s : ℤ) → (pos 0 *ℤ s) +ℤ pos 0 ≡ pos 0
    zero_times (pos n) = omega (arith, ints)
    zero_times (negsuc n) = omega (arith, ints)

-- C strides, by the test whether there are elements
pub c_strides-empty : (ns : List ℕ) → size_of ns ≡ 0 → c_strides ns ≡ replicate (length ns) (pos 0)
c_strides-empty ns h = rw h refl

pub c_strides-full : (ns : List ℕ) → 0 < size_of ns → c_strides ns ≡ row_strides ns
c_strides-full ns h = at (size_of ns) h
  where
    at : (size : ℕ) → 0 < size → cond (eqb size 0) (replicate (length ns) (pos 0)) (row_strides ns) ≡ row_strides ns
    at zero k = absurd (omega arith)
    at (suc size) k = grind (arith, nat_tests)

pub length-row_strides : (ns : List ℕ) → length (row_strides ns) ≡ length ns
length-row_strides [] = refl
length-row_strides (n ∷ ns) = ap suc (length-row_strides ns)

-- one axis more, on the way from the last axis to the first
pub size_of-drop_more : (ns : List ℕ) (k a step : ℕ) → a ≡ k + 1 → k < length ns → step ≡ size_of (drop a ns) → step * get_or ns k 0 ≡ size_of (drop k ns)
size_of-drop_more ns k a step e h is =
    let one = size_of-drop ns k h in
    let same : drop (k + 1) ns ≡ drop a ns = ap (λ x. drop x ns) (sym e) in
    (mul_comm step (get_or ns k 0) ∙ ap (λ x. get_or ns k 0 * x) (is ∙ ap size_of (sym same))) ∙ sym one

pub size_of-drop-le : (ns : List ℕ) (k : ℕ) → 0 < size_of ns → size_of (drop k ns) ≤ size_of ns
size_of-drop-le ns zero h = omega arith
size_of-drop-le [] (suc k) h = omega arith
size_of-drop-le (n ∷ ns) (suc k) h =
    let parts = positive-cons n ns h in
    let rest = size_of-drop-le ns k parts.1 in
    let more : 1 * size_of ns ≤ n * size_of ns = grind (arith, mul-le-mul_left (size_of ns) parts.0) in
    omega (arith, rest, more)

pub row_strides-drop_more : (ns : List ℕ) (ss : List ℤ) (k a step : ℕ) → a ≡ k + 1 → k < length ns → length ss ≡ length ns → step ≡ size_of (drop a ns) → drop a ss ≡ row_strides (drop a ns) → drop k (set ss k (pos step)) ≡ row_strides (drop k ns)
row_strides-drop_more ns ss k a step e h many is filled =
    let same : drop (suc k) ns ≡ drop a ns = ap (λ x. drop x ns) (sym (e ∙ add-one k)) in
    let right : row_strides (drop k ns) ≡ pos (size_of (drop (suc k) ns)) ∷ row_strides (drop (suc k) ns) = ap row_strides (drop-cons ns k 0 h) in
    let left = drop-set ss k (pos step) (subst (λ n. k < n) (sym many) h) in
    let tail : drop (k + 1) ss ≡ row_strides (drop a ns) = ap (λ x. drop x ss) (sym e) ∙ filled in
    (left ∙ ap (λ t. pos step ∷ t) tail) ∙ sym (right ∙ (rw (same, is) refl))

-- where there are elements and the checked size exists, every later product fits
pub drop_fits : (ns : List ℕ) (k : ℕ) → (size_of ns ≡ 0 → false ≡ true) → HasCheckedSize ns → size_of (drop k ns) < 9223372036854775808
drop_fits ns k full checked =
    let some : 0 < size_of ns = above (size_of ns) full in
    let le = size_of-drop-le ns k some in
    let same = nonzero_product-size_of ns some in
    let limit : nonzero_product ns < 9223372036854775808 = checked in
    omega (arith, le, same, limit)
  where
    above : (n : ℕ) → (n ≡ 0 → false ≡ true) → 0 < n
    above zero h = absurd (false≢true (h refl))
    above (suc n) h = omega arith
