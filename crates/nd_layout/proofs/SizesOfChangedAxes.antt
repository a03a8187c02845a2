-- Sizes where one axis gets another length; an inverted axis.
use Rattle.nd_layout.proofs.NamesFromOtherCrates.{ℕ, zero, suc, max, ◌*◌, ◌<◌, ◌≤◌, ◌≡◌, List, [], ◌∷◌, length, get_or, set, arith, refl, ap, sym, ◌∙◌, ℤ, nat_abs, neg_ℤ, remove, mul-le-mul_left, mul-le-mul_right, mul_left_comm, size_of, nonzero_product, HasCheckedSize, length_within}
use borrow.Author.Differences.{abs_is, neg_is}
use Rattle.nd_layout.proofs.PermutedAxes.{nonzero-cons}
use Rattle.nd_layout.proofs.AxisRemovedOrInserted.{nonzero_product-removed}

-- the size with another length
pub size_of-set : (ns : List ℕ) (a m : ℕ) → a < length ns → size_of (set ns a m) ≡ m * size_of (remove ns a)
size_of-set [] a m h = absurd (omega arith)
size_of-set (n ∷ ns) zero m h = refl
size_of-set (n ∷ ns) (suc a) m h = ap (λ v. n * v) (size_of-set ns a m (omega arith)) ∙ mul_left_comm n m (size_of (remove ns a))

-- the product of the lengths other than 0, likewise
pub nonzero_product-set : (ns : List ℕ) (a m : ℕ) → a < length ns → nonzero_product (set ns a m) ≡ max 1 m * nonzero_product (remove ns a)
nonzero_product-set [] a m h = absurd (omega arith)
nonzero_product-set (n ∷ ns) zero m h = nonzero-cons m ns
nonzero_product-set (n ∷ ns) (suc a) m h =
    nonzero-cons n (set ns a m)
    ∙ ap (λ v. max 1 n * v) (nonzero_product-set ns a m (omega arith))
    ∙ mul_left_comm (max 1 n) (max 1 m) (nonzero_product (remove ns a))
    ∙ ap (λ v. max 1 m * v) (sym (nonzero-cons n (remove ns a)))

-- a shorter axis, or one of length 1, keeps the checked size
pub HasCheckedSize-set : (ns : List ℕ) (a m : ℕ) → a < length ns → m ≤ max 1 (get_or ns a 0) → HasCheckedSize ns → HasCheckedSize (set ns a m)
HasCheckedSize-set ns a m h shorter few =
    let product = mul-le-mul_right {m = max 1 m} {n = max 1 (get_or ns a 0)} (nonzero_product (remove ns a)) (omega arith) in
    omega (arith, few, nonzero_product-set ns a m h, nonzero_product-removed ns a h)

-- no length is greater than the product of those that aren't 0
pub length-le-product : (ns : List ℕ) (a : ℕ) → a < length ns → get_or ns a 0 ≤ nonzero_product ns
length-le-product ns a h = length_within ns a

-- an inverted axis
pub abs-neg : (s : ℤ) → nat_abs (neg_ℤ s) ≡ nat_abs s
abs-neg s = omega (arith, abs_is (neg_ℤ s), abs_is s, neg_is s)

-- the size is at most the product of the lengths that aren't 0
pub size-le-product : (ns : List ℕ) → size_of ns ≤ nonzero_product ns
size-le-product [] = omega arith
size-le-product (n ∷ ns) =
    let e = nonzero-cons n ns in
    let a = mul-le-mul_right {m = n} {n = max 1 n} (size_of ns) (omega arith) in
    let b = mul-le-mul_left {m = size_of ns} {n = nonzero_product ns} (max 1 n) (size-le-product ns) in
    omega arith

-- a product is 0 only where a factor is
pub zero_factor : (x y : ℕ) → x * y ≡ 0 → (x ≡ 0 → ⊥) → y ≡ 0
zero_factor zero y e some = absurd (some refl)
zero_factor (suc x) y e some = omega arith
