-- Three lengths that have a checked size: what their products are below, and that they are the size.
use Rattle.nd_array_core.proofs.NamesFromOtherCrates.{◌≡◌, ℕ, zero, suc, ◌*◌, ◌<◌, ◌≤◌, ◌^◌, [], ◌∷◌, ap, sym, ◌∙◌, subst, arith, mul_assoc, mul-le-mul_left, size_of, HasCheckedSize}

-- a factor 1 at the end changes nothing
pub in_one : (a b c : ℕ) → a * b * c ≡ size_of (a ∷ b ∷ c ∷ [])
in_one a b c =
    let once : c ≡ c * 1 = omega arith in
    mul_assoc a b c ∙ ap (λ n. a * (b * n)) once

one_more : (p c : ℕ) → p ≤ p * suc c
one_more p c =
    let one : 1 ≤ suc c = omega arith in
    let more : p * 1 ≤ p * suc c = mul-le-mul_left p one in
    omega (arith, more)

below : (x y z : ℕ) → x ≤ y → y < z → x < z
below x y z h k = omega arith

-- the product of all
pub all_fit : (a b c : ℕ) → HasCheckedSize (a ∷ b ∷ c ∷ []) → a * b * c < 2 ^ 63
all_fit zero b c h = omega arith
all_fit (suc a) zero c h = omega arith
all_fit (suc a) (suc b) zero h = omega arith
all_fit (suc a) (suc b) (suc c) h = subst (λ n. n < 2 ^ 63) (sym (in_one (suc a) (suc b) (suc c))) h

-- and of the first two
pub rows_fit : (a b c : ℕ) → HasCheckedSize (a ∷ b ∷ c ∷ []) → a * b < 2 ^ 63
rows_fit zero b c h = omega arith
rows_fit (suc a) zero c h = omega arith
rows_fit (suc a) (suc b) zero h =
    let once : suc b * 1 ≡ suc b = omega arith in
    subst (λ n. suc a * n < 2 ^ 63) once h
rows_fit (suc a) (suc b) (suc c) h = below (suc a * suc b) (suc a * suc b * suc c) (2 ^ 63) (one_more (suc a * suc b) c) (all_fit (suc a) (suc b) (suc c) h)
