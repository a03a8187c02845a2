-- A matrix of one value, of which the diagonal is written coordinate by coordinate.
use Rattle.nd_array_core.proofs.NamesFromOtherCrates.{◌≡◌, ℕ, ◌+◌, ◌<◌, Bool, true, false, List, [], ◌∷◌, refl, ap, sym, ◌∙◌, arith, ◌&&◌, Option, Some, None, if◌then◌else◌, nat_lt, nat_eq, and_parts, lt-ltb, nat_tests, in_box, inside, is_index, with_element_at, is_index_same}
use Rattle.nd_array_core.specs.base.NewArrays.{on_diagonal}

module _ {A : Type 0} (n : ℕ) (at : ℕ → Option A) (other : A) where
  -- the diagonal as far as the coordinates below k
  abbrev written_to : ℕ → ℕ → Option A
  written_to k j = if nat_lt j k then at j else Some other

  -- the matrix shows the diagonal as far as the coordinates below k, and the value everywhere else
  pub record IsDiagonalTo (f : List ℕ → Option A) (k : ℕ) : Type 0 where
    pub shows : (i : List ℕ) → f i ≡ inside (n ∷ n ∷ []) i (on_diagonal (written_to k) other i)

  -- the matrix shows the value alone
  pub diagonal_none : (f : List ℕ → Option A) → ((i : List ℕ) → f i ≡ inside (n ∷ n ∷ []) i (Some other)) → IsDiagonalTo f 0
  diagonal_none f one = record { shows = λ i. one i ∙ same i }
    where
      either : (b : Bool) → Some other ≡ (if b then Some other else Some other)
      either true = refl
      either false = refl

      same : (i : List ℕ) → inside (n ∷ n ∷ []) i (Some other) ≡ inside (n ∷ n ∷ []) i (on_diagonal (written_to 0) other i)
      same [] = refl
      same (a ∷ []) = by_test (nat_lt a n)
        where
          by_test : (b : Bool) → (if (b && false) then Some other else None) ≡ (if (b && false) then None else None)
          by_test true = refl
          by_test false = refl
      same (a ∷ b ∷ []) = let never : nat_lt a 0 ≡ false = grind (arith, nat_tests) in ap (inside (n ∷ n ∷ []) (a ∷ b ∷ [])) (rw never (either (nat_eq a b)))
      same (a ∷ b ∷ c ∷ i) = by_test (nat_lt a n) (nat_lt b n)
        where
          by_test : (x y : Bool) → (if (x && (y && false)) then Some other else None) ≡ (if (x && (y && false)) then None else None)
          by_test true true = refl
          by_test true false = refl
          by_test false y = refl

  -- one coordinate more
  pub diagonal_more : (f new : List ℕ → Option A) (k : ℕ) (x : A) → k < n → at k ≡ Some x → ((i : List ℕ) → new i ≡ with_element_at f (k ∷ k ∷ []) x i) → IsDiagonalTo f k → IsDiagonalTo new (k + 1)
  diagonal_more f new k x below is_x written so_far = record { shows = λ i. written i ∙ by_test (is_index i (k ∷ k ∷ [])) i refl }
    where
      under : nat_lt k n ≡ true
      under = grind (arith, nat_tests, below)

      here : Some x ≡ inside (n ∷ n ∷ []) (k ∷ k ∷ []) (on_diagonal (written_to (k + 1)) other (k ∷ k ∷ []))
      here =
          let equal : nat_eq k k ≡ true = grind (arith, nat_tests) in
          let last : nat_lt k (k + 1) ≡ true = grind (arith, nat_tests) in
          rw (under, equal, last) (sym is_x)

      off_diagonal : (a b : ℕ) → is_index (a ∷ b ∷ []) (k ∷ k ∷ []) ≡ false → on_diagonal (written_to k) other (a ∷ b ∷ []) ≡ on_diagonal (written_to (k + 1)) other (a ∷ b ∷ [])
      off_diagonal a b apart = by_equal (nat_eq a b) refl
        where
          by_equal : (t : Bool) → nat_eq a b ≡ t → (if t then written_to k a else Some other) ≡ (if t then written_to (k + 1) a else Some other)
          by_equal true e = ap (λ t. if t then at a else Some other) same
            where
              same : nat_lt a k ≡ nat_lt a (k + 1)
              same = grind (arith, nat_tests, e, apart)
          by_equal false e = refl

      by_test : (t : Bool) (i : List ℕ) → is_index i (k ∷ k ∷ []) ≡ t → (if t then Some x else f i) ≡ inside (n ∷ n ∷ []) i (on_diagonal (written_to (k + 1)) other i)
      by_test true i e = rw (is_index_same i (k ∷ k ∷ []) e) here
      by_test false [] e = so_far.shows []
      by_test false (a ∷ []) e = so_far.shows (a ∷ [])
      by_test false (a ∷ b ∷ []) e = so_far.shows (a ∷ b ∷ []) ∙ ap (inside (n ∷ n ∷ []) (a ∷ b ∷ [])) (off_diagonal a b e)
      by_test false (a ∷ b ∷ c ∷ i) e = so_far.shows (a ∷ b ∷ c ∷ i)

  -- each coordinate of the diagonal is one of the matrix
  pub on_diagonal_inside : (shape : List ℕ) (k : ℕ) → shape ≡ n ∷ n ∷ [] → k < n → in_box shape (k ∷ k ∷ []) ≡ true
  on_diagonal_inside shape k square below = let under = lt-ltb k n below in ap (λ ns. in_box ns (k ∷ k ∷ [])) square ∙ rw under refl

  -- all coordinates are through
  pub diagonal_all : (f : List ℕ → Option A) (k : ℕ) → k ≡ n → IsDiagonalTo f k → (i : List ℕ) → f i ≡ inside (n ∷ n ∷ []) i (on_diagonal at other i)
  diagonal_all f k all so_far i = so_far.shows i ∙ by_case i
    where
      by_test : (a b : ℕ) (t : Bool) → in_box (n ∷ n ∷ []) (a ∷ b ∷ []) ≡ t
          → (if t then on_diagonal (written_to k) other (a ∷ b ∷ []) else None) ≡ (if t then on_diagonal at other (a ∷ b ∷ []) else None)
      by_test a b true h =
          let first = (and_parts (nat_lt a n) (nat_lt b n && true) h).0 in
          let through : nat_lt a k ≡ true = grind (arith, nat_tests, first, all) in
          rw through refl
      by_test a b false h = refl

      by_case : (i : List ℕ) → inside (n ∷ n ∷ []) i (on_diagonal (written_to k) other i) ≡ inside (n ∷ n ∷ []) i (on_diagonal at other i)
      by_case [] = refl
      by_case (a ∷ []) = refl
      by_case (a ∷ b ∷ []) = by_test a b (in_box (n ∷ n ∷ []) (a ∷ b ∷ [])) refl
      by_case (a ∷ b ∷ c ∷ i) = refl
