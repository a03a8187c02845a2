-- The elements in the order of their places are those in row-major order, in another order.
use Rattle.nd_array_core.proofs.NamesFromOtherCrates.{◌≡◌, ℕ, zero, suc, ◌+◌, ◌-◌, ◌<◌, ◌≤◌, Bool, true, false, cond, ltb, List, [], ◌∷◌, length, get_or, refl, ap, sym, ◌∙◌, subst, arith, ⊎_elim, inl, inr, IsPermutation, ◌⊎◌, Option, None, Some, slice_get, unwrap_or, remove, filter_map, cons_option, lt-ltb, ltb-true, cases_lt, le-ltb, slice_get_cases, slice_get-get_or, get_or-remove_below, get_or-remove_above, length-remove, IsPermutation-refl, IsPermutation-remove, IsPermutation-cons, IsPermutation-trans, in_box, size_of, index_at, row_rank, indexes_of, length-indexes_of, get_or-indexes_of, in_box-index_at, index_at-row_rank, row_rank_below, Meaning, row_major_elements}
use Rattle.nd_array_core.specs.reshape.ElementsAsSlice.{LiesAlong, MemoryOrderReorders}

-- ---- a list that takes each place of another once
-- a number where another, a, is gone
closed_up : ℕ → ℕ → ℕ
closed_up a j = cond (ltb j a) j (j - 1)

closed_below : (a j : ℕ) → j < a → closed_up a j ≡ j
unfolding closed_up
closed_below a j h = rw (lt-ltb j a h) refl

closed_past : (a j : ℕ) → a < j → closed_up a j ≡ j - 1
unfolding closed_up
closed_past a j h = rw (le-ltb j a (omega (arith, h))) refl

closed_cases : (a j : ℕ) (P : ℕ → Type 0) → (j ≡ a → ⊥) → (j < a → P j) → (a < j → P (j - 1)) → P (closed_up a j)
closed_cases a j P other low high =
    ⊎_elim
    (λ (h : j < a). subst P (sym (closed_below a j h)) (low h))
    (λ (h : a ≤ j). let past : a < j = more a j h other in subst P (sym (closed_past a j past)) (high past))
    (cases_lt j a)
  where
    more : (a j : ℕ) → a ≤ j → (j ≡ a → ⊥) → a < j
    more a j h other = ⊎_elim (λ (lt : a < j). lt) (λ (ge : j ≤ a). absurd (other (omega (arith, h, ge)))) (cases_lt a j)

taken_once : {X : Type 0} (xs ys : List X) (f : ℕ → ℕ) → length ys ≡ length xs → ((k : ℕ) → k < length ys → f k < length xs) → ((j k : ℕ) → j < length ys → k < length ys → f j ≡ f k → j ≡ k)
    → ((k : ℕ) (d : X) → k < length ys → get_or ys k d ≡ get_or xs (f k) d) → IsPermutation xs ys
taken_once [] [] f long within once is = IsPermutation-refl []
taken_once (x ∷ xs) [] f long within once is = absurd (omega (arith, long))
taken_once xs (y ∷ ys) f long within once is =
    let a = f 0 in
    let on : a < length xs = within 0 (omega arith) in
    let rest = remove xs a in
    let shorter = length-remove xs a on in
    let first : y ≡ get_or xs a y = is 0 y (omega arith) in
    let other : (k : ℕ) → k < length ys → f (suc k) ≡ a → ⊥ = λ k below same. (let e : suc k ≡ 0 = once (suc k) 0 (omega (arith, below)) (omega arith) same in absurd (omega (arith, e))) in
    IsPermutation-trans xs (y ∷ rest) (y ∷ ys) (IsPermutation-remove xs a y on first)
    (IsPermutation-cons y rest ys
    (taken_once rest ys (λ k. closed_up a (f (suc k))) (omega (arith, long, shorter))
    (λ k below. closed_cases a (f (suc k)) (λ j. j < length rest) (other k below) (λ lt. omega (arith, lt, on, shorter)) (λ gt. let w = within (suc k) (omega (arith, below)) in omega (arith, gt, w, shorter)))
    (λ j k lj lk same. let e = once (suc j) (suc k) (omega (arith, lj)) (omega (arith, lk)) (opened a (f (suc j)) (f (suc k)) (other j lj) (other k lk) same) in omega (arith, e))
    (λ k d below.
    is (suc k) d (omega (arith, below))
    ∙ closed_cases a (f (suc k)) (λ j. get_or xs (f (suc k)) d ≡ get_or rest j d) (other k below)
    (λ lt. sym (get_or-remove_below xs a d (f (suc k)) lt on))
    (λ gt. let up : f (suc k) - 1 + 1 ≡ f (suc k) = omega (arith, gt) in ap (λ j. get_or xs j d) (sym up) ∙ sym (get_or-remove_above xs a d (f (suc k) - 1) (omega (arith, gt)) on)))))
  where
    opened : (a i j : ℕ) → (i ≡ a → ⊥) → (j ≡ a → ⊥) → closed_up a i ≡ closed_up a j → i ≡ j
    opened a i j oi oj =
        closed_cases a i (λ p. p ≡ closed_up a j → i ≡ j) oi
        (λ li. closed_cases a j (λ q. i ≡ q → i ≡ j) oj (λ lj e. e) (λ gj e. absurd (omega (arith, li, gj, e))))
        (λ gi. closed_cases a j (λ q. i - 1 ≡ q → i ≡ j) oj (λ lj e. absurd (omega (arith, gi, lj, e))) (λ gj e. omega (arith, gi, gj, e)))

-- ---- a map that finds something at each of a list of indexes
module _ {A : Type 0} (f : List ℕ → Option A) where
  abbrev FindsEach : List (List ℕ) → Type 0
  FindsEach is = (k : ℕ) → k < length is → (x : A) × (f (get_or is k []) ≡ Some x)

  rest_found : (i : List ℕ) (is : List (List ℕ)) → FindsEach (i ∷ is) → FindsEach is
  rest_found i is finds k below = finds (suc k) (omega (arith, below))

  found_first : (i : List ℕ) (is : List (List ℕ)) (finds : FindsEach (i ∷ is)) → filter_map f (i ∷ is) ≡ (finds 0 (omega arith)).0 ∷ filter_map f is
  found_first i is finds = ap (λ o. cons_option o (filter_map f is)) (finds 0 (omega arith)).1

  count_found : (is : List (List ℕ)) → FindsEach is → length (filter_map f is) ≡ length is
  count_found [] finds = refl
  count_found (i ∷ is) finds = let rest = count_found is (rest_found i is finds) in ap length (found_first i is finds) ∙ omega (arith, rest)

  found_at : (is : List (List ℕ)) → FindsEach is → (k : ℕ) (d : A) → k < length is → f (get_or is k []) ≡ Some (get_or (filter_map f is) k d)
  found_at [] finds k d below = absurd (omega (arith, below))
  found_at (i ∷ is) finds zero d below = (finds 0 (omega arith)).1 ∙ ap (λ l. Some (get_or l 0 d)) (sym (found_first i is finds))
  found_at (i ∷ is) finds (suc k) d below = found_at is (rest_found i is finds) k d (omega (arith, below)) ∙ ap (λ l. Some (get_or l (suc k) d)) (sym (found_first i is finds))

-- ---- the elements along their places
item_there : {A : Type 0} (xs : List A) (k : ℕ) → k < length xs → (x : A) × (slice_get xs k ≡ Some x)
item_there {A} xs k below = by_cases (slice_get_cases xs k).1
  where
    by_cases : ((x : A) × (k < length xs) × (slice_get xs k ≡ Some x) × (get_or xs k x ≡ x)) ⊎ ((length xs ≤ k) × (slice_get xs k ≡ None)) → (x : A) × (slice_get xs k ≡ Some x)
    by_cases (inl there) = (there.0, there.2)
    by_cases (inr past) = absurd (let far = past.0 in omega (arith, far, below))

module _ {A : Type 0} (m : Meaning A) (first : ℕ) (place : List ℕ → Option ℕ) (xs : List A) (lies : LiesAlong m.shape first place m.at xs) where
  abbrev count : ℕ
  count = size_of m.shape

  each_found : FindsEach m.at (indexes_of m.shape)
  each_found k below =
      let under : k < count = omega (arith, below, length-indexes_of m.shape) in
      let here = lies.within (index_at m.shape k) (in_box-index_at m.shape k under) in
      let long = lies.count in
      let there = item_there xs here.0 (let low = here.1 in omega (arith, low, long)) in
      (there.0, ap m.at (get_or-indexes_of m.shape k under) ∙ here.3 ∙ there.1)

  -- the index of a number along the places
  index_along : (k : ℕ) (b : Bool) → ltb k count ≡ b → List ℕ
  index_along k true e = (lies.each k (ltb-true k count e)).0
  index_along k false e = []

  abbrev number_of : ℕ → List ℕ
  number_of k = index_along k (ltb k count) refl

  lies_there : (k : ℕ) (b : Bool) (e : ltb k count ≡ b) → k < count → (in_box m.shape (index_along k b e) ≡ true) × (place (index_along k b e) ≡ Some (first + k)) × (m.at (index_along k b e) ≡ slice_get xs k)
  unfolding index_along
  lies_there k true e below = let there = lies.each k (ltb-true k count e) in (there.1, there.2, there.3)
  lies_there k false e below = let wrong : false ≡ true = sym e ∙ lt-ltb k count below in absurd cc

  pub reordered : IsPermutation (row_major_elements m) xs
  reordered =
      let long = lies.count in
      let listed = count_found m.at (indexes_of m.shape) each_found in
      let all = length-indexes_of m.shape in
      let at = λ (k : ℕ) (h : k < length xs). lies_there k (ltb k count) refl (omega (arith, h, long)) in
      let below = λ (k : ℕ) (h : k < length xs). row_rank_below m.shape (number_of k) (at k h).0 in
      taken_once (row_major_elements m) xs (λ k. row_rank m.shape (number_of k)) (omega (arith, long, listed, all))
      (λ k h. let low = below k h in omega (arith, low, listed, all))
      (λ j k h q same.
      let one = sym (index_at-row_rank m.shape (number_of j) (at j h).0) ∙ ap (index_at m.shape) same ∙ index_at-row_rank m.shape (number_of k) (at k q).0 in
      let e : first + j ≡ first + k = ap (λ o. unwrap_or o 0) (sym (at j h).1 ∙ ap place one ∙ (at k q).1) in
      omega (arith, e))
      (λ k d h.
      let r = row_rank m.shape (number_of k) in
      let low = below k h in
      let index = get_or-indexes_of m.shape r low ∙ index_at-row_rank m.shape (number_of k) (at k h).0 in
      let found = found_at m.at (indexes_of m.shape) each_found r d (omega (arith, low, all)) in
      ap (λ o. unwrap_or o d) (sym (slice_get-get_or xs k d h) ∙ sym (at k h).2 ∙ ap m.at (sym index) ∙ found))

pub memory_order_reorders : {A : Type 0} → MemoryOrderReorders A
memory_order_reorders m first place xs lies = reordered m first place xs lies
