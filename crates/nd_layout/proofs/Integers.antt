-- Laws of products of a natural number and an integer. Tactics read such a product as one unknown.
use Rattle.nd_layout.proofs.NamesFromOtherCrates.{ℕ, zero, suc, ◌+◌, ◌*◌, ◌≡◌, arith, refl, ap, sym, ◌∙◌, ℤ, pos, negsuc, ◌+ℤ◌, ◌*ℤ◌, nat_abs, neg_ℤ, suc_ℤ-*ℤ, zero-*ℤ, *ℤ_comm, *ℤ-negsuc, +ℤ_idl}
use borrow.Author.Differences.{up, down, same_out, same_in, sum_is_lem, neg_is}

-- sums and negations of integers for `omega`, which sees a product as one unknown
pub ruleset sums = (same_out, same_in, sum_is_lem, neg_is)

-- one more
pub suc-mul : (i : ℕ) (z : ℤ) → pos (suc i) *ℤ z ≡ (pos i *ℤ z) +ℤ z
suc-mul i z = suc_ℤ-*ℤ (pos i) z

-- none
pub zero-mul : (z : ℤ) → pos 0 *ℤ z ≡ pos 0
zero-mul z = zero-*ℤ z

-- one
pub one-mul : (z : ℤ) → pos 1 *ℤ z ≡ z
one-mul z = suc-mul 0 z ∙ ap (λ x. x +ℤ z) (zero-mul z) ∙ +ℤ_idl z

-- a sum of numbers times an integer
pub add-mul : (i j : ℕ) (z : ℤ) → pos (i + j) *ℤ z ≡ (pos i *ℤ z) +ℤ (pos j *ℤ z)
add-mul zero j z = let e : 0 + j ≡ j = omega arith in rw (e, zero-mul z) (sym (+ℤ_idl (pos j *ℤ z)))
add-mul (suc i) j z =
    let e : suc i + j ≡ suc (i + j) = omega arith in
    rw (e, suc-mul (i + j) z, suc-mul i z) (let h = add-mul i j z in omega (arith, sums))

-- a number times a sum of integers
pub mul-sum : (i : ℕ) (x y : ℤ) → pos i *ℤ (x +ℤ y) ≡ (pos i *ℤ x) +ℤ (pos i *ℤ y)
mul-sum zero x y = zero-mul (x +ℤ y) ∙ sym (ap (λ v. v +ℤ (pos 0 *ℤ y)) (zero-mul x) ∙ ap (λ v. pos 0 +ℤ v) (zero-mul y))
mul-sum (suc i) x y = rw (suc-mul i (x +ℤ y), suc-mul i x, suc-mul i y) (let h = mul-sum i x y in omega (arith, sums))

-- a number times a negated integer
pub mul-neg : (i : ℕ) (z : ℤ) → pos i *ℤ neg_ℤ z ≡ neg_ℤ (pos i *ℤ z)
mul-neg zero z = zero-mul (neg_ℤ z) ∙ sym (ap neg_ℤ (zero-mul z))
mul-neg (suc i) z = rw (suc-mul i (neg_ℤ z), suc-mul i z) (let h = mul-neg i z in omega (arith, sums))

-- two numbers times an integer
pub mul-mul : (i j : ℕ) (z : ℤ) → pos i *ℤ (pos j *ℤ z) ≡ pos (i * j) *ℤ z
mul-mul zero j z = let e : 0 * j ≡ 0 = omega arith in zero-mul (pos j *ℤ z) ∙ sym (ap (λ n. pos n *ℤ z) e ∙ zero-mul z)
mul-mul (suc i) j z =
    let e : suc i * j ≡ i * j + j = omega arith in
    rw (e, suc-mul i (pos j *ℤ z), add-mul (i * j) j z) (ap (λ v. v +ℤ (pos j *ℤ z)) (mul-mul i j z))

-- an integer times a number
pub mul-pos : (i n : ℕ) (z : ℤ) → pos i *ℤ (z *ℤ pos n) ≡ pos (i * n) *ℤ z
mul-pos i n z = ap (λ v. pos i *ℤ v) (*ℤ_comm z (pos n)) ∙ mul-mul i n z

-- an integer times a negative number
pub mul-negsuc : (i n : ℕ) (z : ℤ) → pos i *ℤ (z *ℤ negsuc n) ≡ neg_ℤ (pos (i * suc n) *ℤ z)
mul-negsuc i n z = ap (λ v. pos i *ℤ v) (*ℤ-negsuc z n) ∙ mul-neg i (z *ℤ pos (suc n)) ∙ ap neg_ℤ (mul-pos i (suc n) z)

-- the magnitude of such a product
pub abs-mul : (i : ℕ) (z : ℤ) → nat_abs (pos i *ℤ z) ≡ i * nat_abs z
abs-mul i (pos n) = refl
abs-mul i (negsuc n) = abs-neg (i * suc n)
  where
    abs-neg : (n : ℕ) → nat_abs (neg_ℤ (pos n)) ≡ n
    abs-neg zero = refl
    abs-neg (suc n) = refl
