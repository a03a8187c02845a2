-- What a list of axes adds up to is one and the same for every order of the axes.
use Rattle.nd_layout.proofs.NamesFromOtherCrates.{ℕ, add-one, ⊎_elim, zero, suc, ◌+◌, ◌<◌, ◌≤◌, ◌≡◌, List, [], ◌∷◌, length, eqb, cond, arith, refl, ap, sym, ◌∙◌, count_by, range_with_len, cases_lt, eq-eqb, ne_eqb, cases_eq, length-range_with_len, sum_by-cons, HasEachAxis}

-- how often a stands in the list
abbrev pub times : ℕ → List ℕ → ℕ
times a [] = 0
times a (x ∷ xs) = cond (eqb x a) 1 0 + times a xs

-- this is std's count
pub times_is : (a : ℕ) (xs : List ℕ) → count_by (λ b. eqb b a) xs ≡ times a xs
times_is a [] = refl
times_is a (x ∷ xs) = sum_by-cons (λ b. cond (eqb b a) 1 0) x xs ∙ ap (λ n. cond (eqb x a) 1 0 + n) (times_is a xs)

-- the values of f at the items of a list, put together by op
abbrev pub total : {M : Type 0} → (M → M → M) → M → (ℕ → M) → List ℕ → M
total op e f [] = e
total op e f (x ∷ xs) = op (f x) (total op e f xs)

-- op may be applied in any order
abbrev pub IsOrderFree : {M : Type 0} → (M → M → M) → Type 0
IsOrderFree {M} op = (a b c : M) → op a (op b c) ≡ op b (op a c)

-- a list without one of its items
abbrev without : ℕ → List ℕ → List ℕ
without a [] = []
without a (x ∷ xs) = cond (eqb x a) xs (x ∷ without a xs)

length-without : (a : ℕ) (xs : List ℕ) → 0 < times a xs → length (without a xs) + 1 ≡ length xs
length-without a [] h = absurd (omega arith)
length-without a (x ∷ xs) h =
    ⊎_elim
    (λ (is : x ≡ a). rw (eq-eqb x a is) (omega arith))
    (λ (other : x ≡ a → ⊥). let f = ne_eqb x a other in rw f (let h' = rw f at h in omega (arith, length-without a xs (omega arith))))
    (cases_eq x a)

times-without : (a b : ℕ) (xs : List ℕ) → 0 < times a xs → times b (without a xs) + cond (eqb a b) 1 0 ≡ times b xs
times-without a b [] h = absurd (omega arith)
times-without a b (x ∷ xs) h =
    ⊎_elim
    (λ (is : x ≡ a). rw (eq-eqb x a is, is) (omega arith))
    (λ (other : x ≡ a → ⊥). let f = ne_eqb x a other in rw f (let h' = rw f at h in omega (arith, times-without a b xs (omega arith))))
    (cases_eq x a)

total-without : {M : Type 0} (op : M → M → M) (e : M) (f : ℕ → M) → IsOrderFree op → (a : ℕ) (xs : List ℕ) → 0 < times a xs → total op e f xs ≡ op (f a) (total op e f (without a xs))
total-without op e f free a [] h = absurd (omega arith)
total-without op e f free a (x ∷ xs) h =
    ⊎_elim
    (λ (is : x ≡ a). rw (eq-eqb x a is, is) refl)
    (λ (other : x ≡ a → ⊥).
    let no = ne_eqb x a other in
    rw no
    (let h' = rw no at h in
    ap (λ v. op (f x) v) (total-without op e f free a xs (omega arith)) ∙ free (f x) (f a) (total op e f (without a xs))))
    (cases_eq x a)

times_first : (x : ℕ) (xs : List ℕ) → times x (x ∷ xs) ≡ 1 + times x xs
times_first x xs = rw (eq-eqb x x refl) refl

-- two lists of one length, of which the second has each item at least as often, have one total
pub total_same : {M : Type 0} (op : M → M → M) (e : M) (f : ℕ → M) → IsOrderFree op → (xs ys : List ℕ) → length xs ≡ length ys → ((a : ℕ) → times a xs ≤ times a ys) → total op e f xs ≡ total op e f ys
total_same op e f free [] [] l more = refl
total_same op e f free [] (y ∷ ys) l more = absurd (omega arith)
total_same op e f free (x ∷ xs) ys l more =
    let some : 0 < times x ys = omega (arith, more x, times_first x xs) in
    let shorter = length-without x ys some in
    ap (λ v. op (f x) v) (total_same op e f free xs (without x ys) (omega arith) (λ a. omega (arith, more a, times-without x a ys some)))
    ∙ sym (total-without op e f free x ys some)

-- a number stands once in a range
pub times-range_below : (a low n : ℕ) → a < low → times a (range_with_len low n) ≡ 0
times-range_below a low zero h = refl
times-range_below a low (suc n) h =
    let no : low ≡ a → ⊥ = omega arith in
    rw (ne_eqb low a no) (omega (arith, times-range_below a (low + 1) n (omega arith)))

-- a number stands at most once in a range
pub times-range : (a low n : ℕ) → times a (range_with_len low n) ≤ 1
times-range a low zero = omega arith
times-range a low (suc n) =
    ⊎_elim
    (λ (is : low ≡ a). rw (eq-eqb low a is) (omega (arith, times-range_below a (low + 1) n (omega arith))))
    (λ (other : low ≡ a → ⊥). rw (ne_eqb low a other) (omega (arith, times-range a (low + 1) n)))
    (cases_eq low a)

-- and not at all from its end on
pub times-range_above : (a low n : ℕ) → low + n ≤ a → times a (range_with_len low n) ≡ 0
times-range_above a low zero h = refl
times-range_above a low (suc n) h =
    let no : low ≡ a → ⊥ = omega arith in
    rw (ne_eqb low a no) (omega (arith, times-range_above a (low + 1) n (omega arith)))

-- the total over axes in any order is that over the axes in their own order
pub total-HasEachAxis : {M : Type 0} (op : M → M → M) (e : M) (f : ℕ → M) → IsOrderFree op → (p : List ℕ) (n : ℕ) → HasEachAxis p n → total op e f p ≡ total op e f (range_with_len 0 n)
total-HasEachAxis op e f free p n each =
    sym
    (total_same op e f free (range_with_len 0 n) p (length-range_with_len 0 n ∙ sym each.0)
    (λ a. ⊎_elim
    (λ (below : a < n). omega (arith, times-range a 0 n, sym (times_is a p) ∙ each.1 a below))
    (λ (above : n ≤ a). omega (arith, times-range_above a 0 n (omega arith)))
    (cases_lt a n)))

-- a range that starts one later
total-range_shifted : {M : Type 0} (op : M → M → M) (e : M) (f : ℕ → M) (low n : ℕ) → total op e f (range_with_len (low + 1) n) ≡ total op e (λ a. f (suc a)) (range_with_len low n)
total-range_shifted op e f low zero = refl
total-range_shifted op e f low (suc n) = rw (add-one low) (ap (λ v. op (f (suc low)) v) (rw (← add-one low) (total-range_shifted op e f (low + 1) n)))

-- the total over all axes, from the first axis on
pub total-range : {M : Type 0} (op : M → M → M) (e : M) (f : ℕ → M) (n : ℕ) → total op e f (range_with_len 0 (suc n)) ≡ op (f 0) (total op e (λ a. f (suc a)) (range_with_len 0 n))
total-range op e f n = ap (λ v. op (f 0) v) (total-range_shifted op e f 0 n)
