-- One call for each index of a shape: the indexes by their ranks in an order, and what the calls have answered so far.
use Rattle.nd_elements.proofs.NamesFromOtherCrates.{◌≡◌, ℕ, zero, suc, ◌+◌, ◌<◌, ◌≤◌, Bool, true, false, List, [], ◌∷◌, ◌++◌, refl, ap, sym, subst, ◌∙◌, arith, cond, add-one, ◌&&◌, nat_lt, FoldsTo, count_by, nat_tests, sum_by-cons, sum_by_push, in_box}
use Rattle.nd_elements.specs.WritesByIndex.{is_index}
use Rattle.nd_elements.specs.CallsInFreeOrder.{ListsBox, ListsPartOfBox}
use Rattle.nd_elements.proofs.BoolAndResultCases.{by_bool}
use Rattle.nd_elements.proofs.WriteAtOneIndex.{is_index_same, is_index_refl}

-- how often an index stands in a list: one more where it stands at the head, or at the end
abbrev pub times : List ℕ → List (List ℕ) → ℕ
times i listing = count_by (is_index i) listing

abbrev pub once_if : Bool → ℕ
once_if b = cond b 1 0

pub times_head : (i j : List ℕ) (js : List (List ℕ)) → times i (j ∷ js) ≡ once_if (is_index i j) + times i js
times_head i j js = sum_by-cons (λ x. cond (is_index i x) 1 0) j js

times_end : (i j : List ℕ) (js : List (List ℕ)) → times i (js ++ j ∷ []) ≡ times i js + once_if (is_index i j)
times_end i j js = sum_by_push (λ x. cond (is_index i x) 1 0) js j

-- weaker steps over the same items
pub folds_weaker : {P A : Type 0} {R S : P → A → P → Type 0} → ((p : P) (x : A) (q : P) → R p x q → S p x q) → (xs : List A) (p q : P) → FoldsTo R p xs q → FoldsTo S p xs q
folds_weaker weaker [] p q run = run
folds_weaker weaker (x ∷ xs) p q run = (run.0, weaker p x run.0 run.1, folds_weaker weaker xs run.0 q run.2)

-- one more step
pub folds_more : {P A : Type 0} (R : P → A → P → Type 0) (xs : List A) (x : A) (p q r : P) → FoldsTo R p xs q → R q x r → FoldsTo R p (xs ++ x ∷ []) r
folds_more R [] x p q r run step = (r, subst (λ s. R s x r) (sym run) step, refl)
folds_more R (y ∷ ys) x p q r run step = (run.0, run.1, folds_more R ys x run.0 q r run.2 step)

-- the indexes of a shape, numbered from 0 on, as many as counted
pub record IsNumbering (shape : List ℕ) (count : ℕ) (index : ℕ → List ℕ) (rank : List ℕ → ℕ) : Type 0 where
  pub inside : (r : ℕ) → r < count → in_box shape (index r) ≡ true
  pub rank_is : (r : ℕ) → r < count → rank (index r) ≡ r
  pub index_is : (i : List ℕ) → in_box shape i ≡ true → index (rank i) ≡ i
  pub below : (i : List ℕ) → in_box shape i ≡ true → rank i < count

-- the indexes of the ranks below k
abbrev pub listed : (ℕ → List ℕ) → ℕ → List (List ℕ)
listed index zero = []
listed index (suc k) = listed index k ++ index k ∷ []

module _ {shape : List ℕ} {count : ℕ} {index : ℕ → List ℕ} {rank : List ℕ → ℕ} (numbered : IsNumbering shape count index rank) where
  -- an index is the next one exactly where its rank is
  next_by : (i : List ℕ) (k : ℕ) → k < count → (t u : Bool) → is_index i (index k) ≡ t → in_box shape i ≡ u
      → once_if (u && nat_lt (rank i) k) + once_if t ≡ once_if (u && nat_lt (rank i) (k + 1))
  next_by i k below true true e h =
      let same : rank i ≡ k = ap rank (is_index_same i (index k) e) ∙ numbered.rank_is k below in
      let old : nat_lt (rank i) k ≡ false = grind (arith, nat_tests, same) in
      let new : nat_lt (rank i) (k + 1) ≡ true = grind (arith, nat_tests, same) in
      rw (old, new) refl
  next_by i k below true false e h = let never : true ≡ false = sym (numbered.inside k below) ∙ (ap (in_box shape) (sym (is_index_same i (index k) e)) ∙ h) in cc
  next_by i k below false true e h = by_bool (nat_lt (rank i) k)
      (λ e. rw e (let new : nat_lt (rank i) (k + 1) ≡ true = grind (arith, nat_tests, e) in rw new refl))
      (λ e. rw e (let new : nat_lt (rank i) (k + 1) ≡ false = grind (arith, nat_tests, e, other) in rw new refl))
    where
      other : rank i ≡ k → ⊥
      other same = let yes : is_index i (index k) ≡ true = ap (λ r. is_index i (index r)) (sym same) ∙ (ap (is_index i) (numbered.index_is i h) ∙ is_index_refl i) in cc
  next_by i k below false false e h = refl

  pub count_listed : (k : ℕ) → k ≤ count → (i : List ℕ) → times i (listed index k) ≡ once_if (in_box shape i && nat_lt (rank i) k)
  count_listed zero within i = by_box (in_box shape i)
    where
      by_box : (b : Bool) → 0 ≡ once_if (b && nat_lt (rank i) 0)
      by_box true = let never : nat_lt (rank i) 0 ≡ false = grind (arith, nat_tests) in rw never refl
      by_box false = refl
  count_listed (suc k) within i =
      times_end i (index k) (listed index k)
      ∙ (ap (λ c. c + once_if (is_index i (index k))) (count_listed k (omega (arith, within)) i)
      ∙ (next_by i k (omega (arith, within)) (is_index i (index k)) (in_box shape i) refl refl
      ∙ ap (λ m. once_if (in_box shape i && nat_lt (rank i) m)) (add-one k)))

  -- the next index stands in the list not yet
  pub listed_part : (k : ℕ) → k < count → ListsPartOfBox shape (index k ∷ listed index k)
  listed_part k below i =
      omega (arith, times_head i (index k) (listed index k), count_listed k (omega (arith, below)) i, next_by i k below (is_index i (index k)) (in_box shape i) refl refl, at_most (in_box shape i) (nat_lt (rank i) (k + 1)))
    where
      at_most : (b c : Bool) → once_if (b && c) ≤ once_if b
      at_most true true = omega arith
      at_most true false = omega arith
      at_most false c = omega arith

  -- all of them are the box
  pub listed_all : ListsBox shape (listed index (count))
  listed_all i = count_listed (count) (omega arith) i ∙ by_bool (in_box shape i)
      (λ h. rw h (let under = numbered.below i h in let yes : nat_lt (rank i) (count) ≡ true = grind (arith, nat_tests, under) in rw yes refl))
      (λ h. rw h refl)

-- where each call leaves the state as it was and does something at its index, that is done at every index of the box
module _ {P : Type 0} (shape : List ℕ) (call : P → List ℕ → P → Type 0) (state : P) (Done : List ℕ → Type 0) (does : (i : List ℕ) (q : P) → in_box shape i ≡ true → call state i q → (q ≡ state) × Done i) where
  pub done_along : (listing : List (List ℕ)) → ((i : List ℕ) → 0 < times i listing → in_box shape i ≡ true) → (p q : P) → p ≡ state → FoldsTo call p listing q → (i : List ℕ) → 0 < times i listing → Done i
  done_along [] inside p q same run i some = absurd (omega (arith, some))
  done_along (j ∷ js) inside p q same run i some = by_test (is_index i j) refl (done_along js rest run.0 q step.0 run.2 i)
    where
      here : in_box shape j ≡ true
      here =
          inside j (omega (arith, times_head j j js, ap once_if (is_index_refl j)))

      step : (run.0 ≡ state) × Done j
      step = does j run.0 here (subst (λ s. call s j run.0) same run.1)

      rest : (k : List ℕ) → 0 < times k js → in_box shape k ≡ true
      rest k more = let counted = times_head k j js in inside k (omega (arith, counted, more))

      by_test : (t : Bool) → is_index i j ≡ t → (0 < times i js → Done i) → Done i
      by_test true e later = subst Done (sym (is_index_same i j e)) step.1
      by_test false e later =
          later (omega (arith, times_head i j js, ap once_if e, some))

  pub done_at_each : (listing : List (List ℕ)) → ListsBox shape listing → (last : P) → FoldsTo call state listing last → (i : List ℕ) → in_box shape i ≡ true → Done i
  done_at_each listing box last run i h = done_along listing (λ j more. by_box j (in_box shape j) refl more) state last refl run i (let counted : times i listing ≡ 1 = box i ∙ ap once_if h in omega (arith, counted))
    where
      by_box : (j : List ℕ) (b : Bool) → in_box shape j ≡ b → 0 < times j listing → in_box shape j ≡ true
      by_box j true h more = h
      by_box j false h more = let counted : times j listing ≡ 0 = box j ∙ ap once_if h in absurd (omega (arith, counted, more))
