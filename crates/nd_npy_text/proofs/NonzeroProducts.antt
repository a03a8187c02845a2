-- The product of the lengths that aren't 0, one length further.
use Rattle.std.proofs.Common.{◌≡◌, ◌∙◌, ℕ, zero, suc, ◌+◌, ◌*◌, ◌<◌, ◌≤◌, ◌^◌, true, false, List, [], ◌∷◌, length, drop, drop-cons, get_or, refl, sym, ap, add-one, arith}
use Rattle.std.specs.Prelude.{nat_lt}
use Rattle.std.proofs.Math.Nat.{mul-le-mul, mul-le-mul_left, mul-le-mul_right, mul_assoc}
use Rattle.std.proofs.lemmas.Bool.{le-ltb, lt-ltb, ltb-true}
use Rattle.std.proofs.lemmas.List.{drop_all}
use Rattle.nd_npy_text.specs.HeaderDescription.{factor_of, product_without_zeros}

factor_positive : (n : ℕ) → 1 ≤ factor_of n
factor_positive zero = omega arith
factor_positive (suc n) = omega arith

pub product_positive : (ns : List ℕ) → 1 ≤ product_without_zeros ns
product_positive [] = omega arith
product_positive (n ∷ ns) =
    let more : 1 * 1 ≤ factor_of n * product_without_zeros ns = mul-le-mul (factor_positive n) (product_positive ns) in
    omega (arith, more)

-- what is left of the product, one length further
left : (ns : List ℕ) (i : ℕ) → i < length ns → product_without_zeros (drop i ns) ≡ factor_of (get_or ns i 0) * product_without_zeros (drop (i + 1) ns)
left ns i inside = rw (add-one, drop-cons ns i 0) refl

pub product_on : (ns : List ℕ) (i p total : ℕ) → i < length ns → p * product_without_zeros (drop i ns) ≡ total → p * factor_of (get_or ns i 0) * product_without_zeros (drop (i + 1) ns) ≡ total
product_on ns i p total inside is =
    mul_assoc p (factor_of (get_or ns i 0)) (product_without_zeros (drop (i + 1) ns)) ∙ ap (λ x. p * x) (sym (left ns i inside)) ∙ is

pub product_some : (p n : ℕ) → 0 < p → 0 < p * factor_of n
product_some p n some =
    let more : 1 * 1 ≤ p * factor_of n = mul-le-mul some (factor_positive n) in
    omega (arith, more)

-- a product that passes the limit on the way passes it at the end
pub product_passes : (ns : List ℕ) (i p total : ℕ) → i < length ns → p * product_without_zeros (drop i ns) ≡ total → 2 ^ 63 ≤ p * factor_of (get_or ns i 0) → nat_lt total (2 ^ 63) ≡ false
product_passes ns i p total inside is above =
    let grown = product_on ns i p total inside is in
    let more : p * factor_of (get_or ns i 0) * 1 ≤ p * factor_of (get_or ns i 0) * product_without_zeros (drop (i + 1) ns) = mul-le-mul_left (p * factor_of (get_or ns i 0)) (product_positive (drop (i + 1) ns)) in
    le-ltb total (2 ^ 63) (omega (arith, grown, more, above))

pub product_ends : (ns : List ℕ) (i p total : ℕ) → length ns ≤ i → p * product_without_zeros (drop i ns) ≡ total → p < 2 ^ 63 → nat_lt total (2 ^ 63) ≡ true
product_ends ns i p total end is below =
    let same : p * 1 ≡ total = ap (λ (l : List ℕ). p * product_without_zeros l) (sym (drop_all i ns end)) ∙ is in
    lt-ltb total (2 ^ 63) (omega (arith, same, below))

-- a length, and the product of those after it, are at most the whole product
pub first_within : (n : ℕ) (ns : List ℕ) → product_without_zeros (n ∷ ns) < 2 ^ 63 → n < 2 ^ 63
first_within n ns below =
    let more : factor_of n * 1 ≤ factor_of n * product_without_zeros ns = mul-le-mul_left (factor_of n) (product_positive ns) in
    omega (arith, more, below, factor_least n)
  where
    factor_least : (n : ℕ) → n ≤ factor_of n
    factor_least zero = omega arith
    factor_least (suc n) = omega arith

pub rest_within : (n : ℕ) (ns : List ℕ) → product_without_zeros (n ∷ ns) < 2 ^ 63 → product_without_zeros ns < 2 ^ 63
rest_within n ns below =
    let more : 1 * product_without_zeros ns ≤ factor_of n * product_without_zeros ns = mul-le-mul_right (product_without_zeros ns) (factor_positive n) in
    omega (arith, more, below)

-- so is the product of the lengths, beside what it is multiplied by
pub product_within : (size : ℕ) (ns : List ℕ) → 1 ≤ size → nat_lt (size * product_without_zeros ns) (2 ^ 63) ≡ true → product_without_zeros ns < 2 ^ 63
product_within size ns some fits =
    let more : 1 * product_without_zeros ns ≤ size * product_without_zeros ns = mul-le-mul_right (product_without_zeros ns) some in
    let below = ltb-true (size * product_without_zeros ns) (2 ^ 63) fits in
    omega (arith, more, below)
