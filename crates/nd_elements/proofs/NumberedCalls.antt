-- Calls numbered from 0: one more of them, some more of them, and the same calls by the index that each number has.
use Rattle.nd_elements.proofs.NamesFromOtherCrates.{◌≡◌, Bool, true, false, ℕ, zero, suc, ◌+◌, ◌<◌, List, refl, subst, sym, arith, add-one, nat_eq, FoldsTo, nat_tests}
use Rattle.nd_elements.specs.elements.ElementFolds.{RanTo}
use Rattle.nd_elements.proofs.CallsInFreeOrder.{listed, folds_more}

-- one more call
pub ran_more : {P : Type 0} (call : P → ℕ → P → Type 0) (first now next : P) (k : ℕ) → RanTo call first k now → call now k next → RanTo call first (k + 1) next
ran_more call first now next k run step = rw (add-one k) (now, run, step)

-- the call of each number
pub ran_at : {P : Type 0} (call : P → ℕ → P → Type 0) (first last : P) (count k : ℕ) → k < count → RanTo call first count last → (p : P) × (q : P) × call p k q
ran_at call first last zero k below run = absurd (omega (arith, below))
ran_at {P} call first last (suc n) k below run = by_test (nat_eq k n) refl (λ under. ran_at call first run.0 n k under run.1)
  where
    by_test : (t : Bool) → nat_eq k n ≡ t → (k < n → (p : P) × (q : P) × call p k q) → (p : P) × (q : P) × call p k q
    by_test true e before = let same : n ≡ k = grind (arith, nat_tests, e) in (run.0, last, subst (λ m. call run.0 m last) same run.2)
    by_test false e before = before (grind (arith, nat_tests, e, below))

-- weaker calls, below a count
pub ran_weaker : {P : Type 0} (call weak : P → ℕ → P → Type 0) (first last : P) (count : ℕ) → ((p : P) (k : ℕ) (q : P) → k < count → call p k q → weak p k q) → RanTo call first count last → RanTo weak first count last
ran_weaker call weak first last zero weaker run = run
ran_weaker call weak first last (suc k) weaker run = (run.0, ran_weaker call weak first run.0 k (λ p j q below. weaker p j q (omega (arith, below))) run.1, weaker run.0 k last (omega arith) run.2)

-- calls numbered from k on, after the calls below k
pub ran_then : {P : Type 0} (call later : P → ℕ → P → Type 0) (first mid last : P) (k count : ℕ) → ((p : P) (j : ℕ) (q : P) → j < count → later p j q → call p (k + j) q) → RanTo call first k mid → RanTo later mid count last → RanTo call first (k + count) last
ran_then call later first mid last k zero goes_on run after = let same : k + 0 ≡ k = omega arith in rw same (subst (RanTo call first k) (sym after) run)
ran_then call later first mid last k (suc n) goes_on run after =
    let next : k + suc n ≡ suc (k + n) = omega arith in
    rw next (after.0, ran_then call later first mid after.0 k n (λ p j q below. goes_on p j q (omega (arith, below))) run after.1, goes_on after.0 n last (omega arith) after.2)

-- the same calls, by the index of each number
pub ran_listed : {P : Type 0} (call : P → List ℕ → P → Type 0) (index : ℕ → List ℕ) (first last : P) (count : ℕ) → RanTo (λ p k q. call p (index k) q) first count last → FoldsTo call first (listed index count) last
ran_listed call index first last zero run = sym run
ran_listed call index first last (suc k) run = folds_more call (listed index k) (index k) first run.0 last (ran_listed call index first run.0 k run.1) run.2
