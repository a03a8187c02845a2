-- The product of the lengths that aren't 0, taken one length at a time.
use Rattle.nd_shape_and_slice.proofs.NamesFromOtherCrates.{◌≡◌, ℕ, zero, suc, ◌+◌, ◌*◌, ◌<◌, ◌≤◌, ◌≢◌, Bool, true, false, cond, eqb, List, [], ◌∷◌, length, drop, get_or, refl, ap, sym, ◌∙◌, arith, add-one, drop-cons, mul-le-mul_left, mul_assoc, mul-zero, list_any, nat_tests}
use Rattle.nd_shape_and_slice.specs.ShapesAndIndexOrders.{nonzero_product, size_of}

-- a length that isn't 0 is a factor
pub nonzero_product-cons : (n : ℕ) (ns : List ℕ) → n ≢ 0 → nonzero_product (n ∷ ns) ≡ n * nonzero_product ns
nonzero_product-cons zero ns h = absurd (h refl)
nonzero_product-cons (suc n) ns h = refl

one_le_product : (n p : ℕ) → 1 ≤ p → 1 ≤ suc n * p
one_le_product n p h = grind (arith, mul-le-mul_left (suc n) h)

-- the product is at least 1
pub nonzero_product_positive : (ns : List ℕ) → 1 ≤ nonzero_product ns
nonzero_product_positive [] = omega arith
nonzero_product_positive (zero ∷ ns) = nonzero_product_positive ns
nonzero_product_positive (suc n ∷ ns) = one_le_product n (nonzero_product ns) (nonzero_product_positive ns)

-- the product and the size of what is left of a list, one length further
pub nonzero_product-drop : (ns : List ℕ) (i : ℕ) → i < length ns → nonzero_product (drop i ns) ≡ nonzero_product (get_or ns i 0 ∷ drop (i + 1) ns)
nonzero_product-drop ns i h = rw (add-one, drop-cons ns i 0) refl

pub size_of-drop : (ns : List ℕ) (i : ℕ) → i < length ns → size_of (drop i ns) ≡ get_or ns i 0 * size_of (drop (i + 1) ns)
size_of-drop ns i h = rw (add-one, drop-cons ns i 0) refl

-- a length that is 0 leaves the product as it is
pub keeps_product : (ns : List ℕ) (i p : ℕ) → i < length ns → get_or ns i 0 ≡ 0 → p * nonzero_product (drop i ns) ≡ nonzero_product ns → p * nonzero_product (drop (i + 1) ns) ≡ nonzero_product ns
keeps_product ns i p h zero_here e =
    let here : nonzero_product (drop i ns) ≡ nonzero_product (drop (i + 1) ns) = nonzero_product-drop ns i h ∙ ap (λ n. nonzero_product (n ∷ drop (i + 1) ns)) zero_here in
    ap (λ x. p * x) (sym here) ∙ e

-- another length joins it
pub grows_product : (ns : List ℕ) (i p : ℕ) → i < length ns → get_or ns i 0 ≢ 0 → p * nonzero_product (drop i ns) ≡ nonzero_product ns → p * get_or ns i 0 * nonzero_product (drop (i + 1) ns) ≡ nonzero_product ns
grows_product ns i p h here e =
    let step = nonzero_product-drop ns i h ∙ nonzero_product-cons (get_or ns i 0) (drop (i + 1) ns) here in
    (mul_assoc p (get_or ns i 0) (nonzero_product (drop (i + 1) ns)) ∙ ap (λ x. p * x) (sym step)) ∙ e

-- a product that passes the limit on the way passes it at the end
pub passes_limit : (ns : List ℕ) (i p limit : ℕ) → i < length ns → get_or ns i 0 ≢ 0 → p * nonzero_product (drop i ns) ≡ nonzero_product ns → limit ≤ p * get_or ns i 0 → nonzero_product ns < limit → ⊥
passes_limit ns i p limit h here e above below =
    let rest : 1 ≤ nonzero_product (drop (i + 1) ns) = nonzero_product_positive (drop (i + 1) ns) in
    let grown = grows_product ns i p h here e in
    let more : p * get_or ns i 0 * 1 ≤ p * get_or ns i 0 * nonzero_product (drop (i + 1) ns) = mul-le-mul_left (p * get_or ns i 0) rest in
    omega (arith, grown, more)

-- the size, likewise
pub size_of_zero : (ns : List ℕ) (i p : ℕ) → i < length ns → get_or ns i 0 ≡ 0 → size_of ns ≡ p * size_of (drop i ns) → size_of ns ≡ 0
size_of_zero ns i p h zero_here e =
    let step = size_of-drop ns i h ∙ ap (λ n. n * size_of (drop (i + 1) ns)) zero_here in
    (e ∙ ap (λ x. p * x) step) ∙ omega arith

pub grows_size : (ns : List ℕ) (i p : ℕ) → i < length ns → size_of ns ≡ p * size_of (drop i ns) → size_of ns ≡ p * get_or ns i 0 * size_of (drop (i + 1) ns)
grows_size ns i p h e = (e ∙ ap (λ x. p * x) (size_of-drop ns i h)) ∙ sym (mul_assoc p (get_or ns i 0) (size_of (drop (i + 1) ns)))

-- where a length before was 0, the size is 0 whatever comes
pub grows_size_if : (b : Bool) (ns : List ℕ) (i p : ℕ) → i < length ns → size_of ns ≡ cond b 0 (p * size_of (drop i ns)) → size_of ns ≡ cond b 0 (p * get_or ns i 0 * size_of (drop (i + 1) ns))
grows_size_if true ns i p h e = e
grows_size_if false ns i p h e = grows_size ns i p h e

pub size_of_zero_if : (b : Bool) (ns : List ℕ) (i p : ℕ) → i < length ns → get_or ns i 0 ≡ 0 → size_of ns ≡ cond b 0 (p * size_of (drop i ns)) → size_of ns ≡ 0
size_of_zero_if true ns i p h z e = e
size_of_zero_if false ns i p h z e = size_of_zero ns i p h z e

-- a shape has no element exactly where some length is 0
pub list_any_zero : (ns : List ℕ) → list_any (λ n. eqb n 0) ns ≡ true → size_of ns ≡ 0
list_any_zero [] h = cc
list_any_zero (zero ∷ ns) h = omega arith
list_any_zero (suc n ∷ ns) h = ap (λ s. suc n * s) (list_any_zero ns (grind (arith, nat_tests))) ∙ mul-zero (suc n)

pub zero_list_any : (ns : List ℕ) → size_of ns ≡ 0 → list_any (λ n. eqb n 0) ns ≡ true
zero_list_any [] h = absurd (omega arith)
zero_list_any (zero ∷ ns) h = refl
zero_list_any (suc n ∷ ns) h = grind (arith, nat_tests, zero_list_any ns (factor n (size_of ns) h))
  where
    factor : (n s : ℕ) → suc n * s ≡ 0 → s ≡ 0
    factor n zero h = refl
    factor n (suc s) h = absurd (omega arith)

times_more : (n p : ℕ) → 1 ≤ p → n ≤ n * p
times_more n p h =
    let more : n * 1 ≤ n * p = mul-le-mul_left n h in
    omega (arith, more)

-- no length is larger than the product of those that aren't 0
pub length_within : (ns : List ℕ) (k : ℕ) → get_or ns k 0 ≤ nonzero_product ns
length_within [] k = omega arith
length_within (zero ∷ ns) zero = omega arith
length_within (suc n ∷ ns) zero = times_more (suc n) (nonzero_product ns) (nonzero_product_positive ns)
length_within (zero ∷ ns) (suc k) = length_within ns k
length_within (suc n ∷ ns) (suc k) =
    let rest = length_within ns k in
    let more = one_le_product_times n (nonzero_product ns) in
    omega (arith, rest, more)
  where
    one_le_product_times : (n p : ℕ) → p ≤ suc n * p
    one_le_product_times n p =
        let one : 1 ≤ suc n = omega arith in
        let more : p * 1 ≤ p * suc n = mul-le-mul_left p one in
        omega (arith, more)

-- the product of some lengths, zeros counted, is at most that of those that aren't 0
pub product_more : (ns : List ℕ) (i p : ℕ) → i < length ns → p * nonzero_product (drop i ns) ≤ nonzero_product ns → p * get_or ns i 0 * nonzero_product (drop (i + 1) ns) ≤ nonzero_product ns
product_more ns i p h le = at (get_or ns i 0) refl
  where
    at : (n : ℕ) → get_or ns i 0 ≡ n → p * get_or ns i 0 * nonzero_product (drop (i + 1) ns) ≤ nonzero_product ns
    at zero e = rw e (omega arith)
    at (suc n) e =
        let step = nonzero_product-drop ns i h ∙ ap (λ x. nonzero_product (x ∷ drop (i + 1) ns)) e in
        let grown : p * get_or ns i 0 * nonzero_product (drop (i + 1) ns) ≡ p * nonzero_product (drop i ns) =
        (ap (λ x. p * x * nonzero_product (drop (i + 1) ns)) e ∙ mul_assoc p (suc n) (nonzero_product (drop (i + 1) ns))) ∙ ap (λ x. p * x) (sym step) in
        omega (arith, le, grown)

pub product_fits : (ns : List ℕ) (i p : ℕ) → i < length ns → p * nonzero_product (drop i ns) ≤ nonzero_product ns → p * get_or ns i 0 ≤ nonzero_product ns
product_fits ns i p h le =
    let more = product_more ns i p h le in
    let rest = times_more (p * get_or ns i 0) (nonzero_product (drop (i + 1) ns)) (nonzero_product_positive (drop (i + 1) ns)) in
    omega (arith, more, rest)

pub grows_size_from : (ns : List ℕ) (i p : ℕ) → i < length ns → p * size_of (drop i ns) ≡ size_of ns → p * get_or ns i 0 * size_of (drop (i + 1) ns) ≡ size_of ns
grows_size_from ns i p h e = sym (grows_size ns i p h (sym e))
