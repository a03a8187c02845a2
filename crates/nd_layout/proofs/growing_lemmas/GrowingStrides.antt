-- The strides of storage that is to grow along an axis.
use Rattle.nd_layout.proofs.NamesFromOtherCrates.{ℕ, zero, suc, ◌+◌, ◌-◌, ◌*◌, ◌^◌, max, ◌<◌, ◌≤◌, ◌≡◌, List, [], ◌∷◌, length, get_or, set, eqb, cond, Bool, true, false, arith, refl, ap, sym, ◌∙◌, ℤ, pos, nat_abs, remove, insert, mul_assoc, eqb-true, get_or-set_same, size_of, nonzero_product, HasCheckedSize, span_of, row_strides, column_strides_from, Order, RowMajor, ColumnMajor, c_strides-full, f_strides-full, length_within}
use Rattle.nd_layout.specs.GivenStrides.{ordered_strides}
use Rattle.nd_layout.specs.GrowthAlongAxis.{growing_strides}
use Rattle.nd_layout.proofs.SizesOfChangedAxes.{size_of-set, nonzero_product-set, size-le-product}
use Rattle.nd_layout.proofs.AxisRemovedOrInserted.{le-product}
use Rattle.nd_layout.proofs.AxisChange.{span_of-at}

-- ---- in column-major order, where the axis is the last
column_growing : (p : ℕ) (ns : List ℕ) (a : ℕ) → a + 1 ≡ length ns → column_strides_from p ns ≡ set (column_strides_from p (set ns a 1)) a (pos (p * size_of (set ns a 1)))
column_growing p [] a e = absurd (omega arith)
column_growing p (n ∷ []) zero e = let o : p ≡ p * (1 * 1) = omega arith in ap (λ x. pos x ∷ []) o
column_growing p (n ∷ m ∷ ns) zero e = absurd (omega arith)
column_growing p (n ∷ ns) (suc a) e =
    ap (λ x. pos p ∷ x)
    (column_growing (p * n) ns a (omega arith) ∙ ap (λ x. set (column_strides_from (p * n) (set ns a 1)) a (pos x)) (mul_assoc p n (size_of (set ns a 1))))

-- ---- in row-major order
row_growing : (ns : List ℕ) (a : ℕ) (v : ℤ) → a < length ns → insert (row_strides (remove ns a)) a v ≡ set (row_strides (set ns a 1)) a v
row_growing [] a v h = absurd (omega arith)
row_growing (n ∷ ns) zero v h = refl
row_growing (n ∷ ns) (suc a) v h =
    let size : size_of (remove ns a) ≡ size_of (set ns a 1) = sym (size_of-set ns a 1 (omega arith) ∙ omega arith) in
    ap (λ x. pos x ∷ insert (row_strides (remove ns a)) a v) size ∙ ap (λ x. pos (size_of (set ns a 1)) ∷ x) (row_growing ns a v (omega arith))

-- ---- so the strides are these, by the lengths of the other axes alone
abbrev pub laid_out : ℕ → ℕ → List ℕ → List ℤ
laid_out a n os = set (cond (eqb (a + 1) n) (column_strides_from 1 os) (row_strides os)) a (pos (size_of os))

growing_cases : (b : Bool) (a : ℕ) (ns : List ℕ) → a < length ns → (b ≡ true → a + 1 ≡ length ns) → cond b (column_strides_from 1 ns) (insert (row_strides (remove ns a)) a (pos (size_of (remove ns a)))) ≡ set (cond b (column_strides_from 1 (set ns a 1)) (row_strides (set ns a 1))) a (pos (size_of (set ns a 1)))
growing_cases true a ns h last = column_growing 1 ns a (last refl) ∙ ap (λ x. set (column_strides_from 1 (set ns a 1)) a (pos x)) (omega arith)
growing_cases false a ns h last =
    let size : size_of (remove ns a) ≡ size_of (set ns a 1) = sym (size_of-set ns a 1 h ∙ omega arith) in
    row_growing ns a (pos (size_of (remove ns a))) h ∙ ap (λ x. set (row_strides (set ns a 1)) a (pos x)) size

-- the definition says the same
pub growing_strides-is : (a : ℕ) (ns : List ℕ) → a < length ns → growing_strides a ns ≡ laid_out a (length ns) (set ns a 1)
growing_strides-is a ns h = growing_cases (eqb (a + 1) (length ns)) a ns h (λ e. eqb-true (a + 1) (length ns) e)

-- so they are the strides of an order, of the lengths of the others, with one stride put in
ordered_cases : (b : Bool) (os : List ℕ) → 0 < size_of os → ordered_strides (cond b ColumnMajor RowMajor) os ≡ cond b (column_strides_from 1 os) (row_strides os)
ordered_cases true os some = f_strides-full os some
ordered_cases false os some = c_strides-full os some

pub laid_from : (ns : List ℕ) (a count : ℕ) (o : Order) (os : List ℕ) (base ts : List ℤ) (t : ℤ) → a < length ns → 0 < size_of (set ns a 1) → count ≡ length ns → o ≡ cond (eqb (a + 1) count) ColumnMajor RowMajor → os ≡ set ns a 1 → base ≡ ordered_strides o os → t ≡ pos (size_of (remove ns a)) → ts ≡ set base a t → ts ≡ growing_strides a ns
laid_from ns a count o os base ts t on some counted order shape based step is =
    let others = set ns a 1 in
    let chosen : o ≡ cond (eqb (a + 1) (length ns)) ColumnMajor RowMajor = order ∙ ap (λ n. cond (eqb (a + 1) n) ColumnMajor RowMajor) counted in
    let laid = based ∙ ap (λ l. ordered_strides o l) shape ∙ ap (λ r. ordered_strides r others) chosen ∙ ordered_cases (eqb (a + 1) (length ns)) others some in
    let size : size_of (remove ns a) ≡ size_of others = let e = size_of-set ns a 1 on in omega arith in
    is ∙ ap (λ l. set l a t) laid ∙ ap (λ z. set (cond (eqb (a + 1) (length ns)) (column_strides_from 1 others) (row_strides others)) a z) (step ∙ ap pos size) ∙ sym (growing_strides-is a ns on)

-- ---- sizes and reaches of the other axes
-- the grown length is small
pub grown_small : (ns : List ℕ) (a added : ℕ) → a < length ns → HasCheckedSize (set ns a (get_or ns a 0 + added)) → get_or ns a 0 + added < 2 ^ 63
grown_small ns a added h few =
    let l = length_within (set ns a (get_or ns a 0 + added)) a in
    let s = get_or-set_same ns a (get_or ns a 0 + added) 0 h in
    omega arith

-- the product of the other lengths is small
pub others_small : (ns : List ℕ) (a added : ℕ) → a < length ns → HasCheckedSize (set ns a (get_or ns a 0 + added)) → size_of (set ns a 1) < 2 ^ 63
others_small ns a added h few =
    let o = size_of-set ns a 1 h in
    let p = size-le-product (remove ns a) in
    let q = nonzero_product-set ns a (get_or ns a 0 + added) h in
    let l = le-product (max 1 (get_or ns a 0 + added)) (nonzero_product (remove ns a)) (omega arith) in
    omega arith

-- one axis reaches no further than the span
pub reach-le-span : (ns : List ℕ) (ss : List ℤ) (k : ℕ) → length ss ≡ length ns → k < length ns → (get_or ns k 0 - 1) * nat_abs (get_or ss k (pos 0)) ≤ span_of ns ss
reach-le-span ns ss k e h = omega (arith, span_of-at ns ss k e h)
