-- Distinct numbers below n, one for each number below n, leave none out.
use Rattle.nd_layout.proofs.NamesFromOtherCrates.{ℕ, ⊎_elim, zero, suc, ◌<◌, ◌≡◌, eqb, cond, arith, refl, sym, ◌∙◌, eq-eqb, ne_eqb, cases_eq}

-- f, with n's number in place of n
abbrev patched : (ℕ → ℕ) → ℕ → ℕ → ℕ
patched f n r = cond (eqb (f r) n) (f n) (f r)

patched_yes : (f : ℕ → ℕ) (n r : ℕ) → f r ≡ n → patched f n r ≡ f n
patched_yes f n r is = rw (eq-eqb (f r) n is) refl

patched_no : (f : ℕ → ℕ) (n r : ℕ) → (f r ≡ n → ⊥) → patched f n r ≡ f r
patched_no f n r other = rw (ne_eqb (f r) n other) refl

patched_below : (f : ℕ → ℕ) (n : ℕ) → ((r : ℕ) → r < suc n → f r < suc n) → ((r q : ℕ) → r < suc n → q < suc n → f r ≡ f q → r ≡ q) → (r : ℕ) → r < n → patched f n r < n
patched_below f n below once r h =
    ⊎_elim
    (λ (is : f r ≡ n).
    let e = patched_yes f n r is in
    let other : f n ≡ n → ⊥ = λ q. let same = once r n (omega arith) (omega arith) (is ∙ sym q) in omega arith in
    let b = below n (omega arith) in
    omega (arith, lt_of_ne (f n) n b other))
    (λ (other : f r ≡ n → ⊥). let e = patched_no f n r other in let b = below r (omega arith) in omega (arith, lt_of_ne (f r) n b other))
    (cases_eq (f r) n)
  where
    lt_of_ne : (x n : ℕ) → x < suc n → (x ≡ n → ⊥) → x < n
    lt_of_ne x n h other = ⊎_elim (λ (is : x ≡ n). absurd (other is)) (λ (ne : x ≡ n → ⊥). omega arith) (cases_eq x n)

patched_once : (f : ℕ → ℕ) (n : ℕ) → ((r q : ℕ) → r < suc n → q < suc n → f r ≡ f q → r ≡ q) → (r q : ℕ) → r < n → q < n → patched f n r ≡ patched f n q → r ≡ q
patched_once f n once r q h k same =
    ⊎_elim
    (λ (r_is : f r ≡ n). ⊎_elim
    (λ (q_is : f q ≡ n). once r q (omega arith) (omega arith) (r_is ∙ sym q_is))
    (λ (q_other : f q ≡ n → ⊥). let e = once n q (omega arith) (omega arith) (sym (patched_yes f n r r_is) ∙ same ∙ patched_no f n q q_other) in absurd (omega arith))
    (cases_eq (f q) n))
    (λ (r_other : f r ≡ n → ⊥). ⊎_elim
    (λ (q_is : f q ≡ n). let e = once r n (omega arith) (omega arith) (sym (patched_no f n r r_other) ∙ same ∙ patched_yes f n q q_is) in absurd (omega arith))
    (λ (q_other : f q ≡ n → ⊥). once r q (omega arith) (omega arith) (sym (patched_no f n r r_other) ∙ same ∙ patched_no f n q q_other))
    (cases_eq (f q) n))
    (cases_eq (f r) n)

-- each number below n is some number's
pub pigeonhole : (n : ℕ) (f : ℕ → ℕ) → ((r : ℕ) → r < n → f r < n) → ((r q : ℕ) → r < n → q < n → f r ≡ f q → r ≡ q) → (k : ℕ) → k < n → (r : ℕ) × (r < n) × (f r ≡ k)
pigeonhole zero f below once k h = absurd (omega arith)
pigeonhole (suc n) f below once k h =
    let rest = pigeonhole n (patched f n) (patched_below f n below once) (patched_once f n once) in
    ⊎_elim
    (λ (is : f n ≡ k). (n, omega arith, is))
    (λ (other : f n ≡ k → ⊥). ⊎_elim
    (λ (last : k ≡ n).
    let w = rest (f n) (below_last f n k below other last) in
    ⊎_elim
    (λ (is : f w.0 ≡ n). (w.0, (let p = w.1 in omega arith), is ∙ sym last))
    (λ (no : f w.0 ≡ n → ⊥). let e = once w.0 n (let p = w.1 in omega arith) (omega arith) (sym (patched_no f n w.0 no) ∙ w.2) in absurd (let p = w.1 in omega arith))
    (cases_eq (f w.0) n))
    (λ (before : k ≡ n → ⊥).
    let w = rest k (omega arith) in
    ⊎_elim
    (λ (is : f w.0 ≡ n). absurd (other (sym (patched_yes f n w.0 is) ∙ w.2)))
    (λ (no : f w.0 ≡ n → ⊥). (w.0, (let p = w.1 in omega arith), sym (patched_no f n w.0 no) ∙ w.2))
    (cases_eq (f w.0) n))
    (cases_eq k n))
    (cases_eq (f n) k)
  where
    below_last : (f : ℕ → ℕ) (n k : ℕ) → ((r : ℕ) → r < suc n → f r < suc n) → (f n ≡ k → ⊥) → k ≡ n → f n < n
    below_last f n k below other last =
        let b = below n (omega arith) in
        ⊎_elim (λ (is : f n ≡ n). absurd (other (is ∙ sym last))) (λ (no : f n ≡ n → ⊥). omega arith) (cases_eq (f n) n)
