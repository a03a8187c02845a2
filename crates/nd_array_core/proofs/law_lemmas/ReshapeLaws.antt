-- The laws of reshapes: a reshape back, neighbouring axes as one, and elements that lie in the order asked for.
use Rattle.nd_array_core.proofs.NamesFromOtherCrates.{◌≡◌, ℕ, zero, suc, max, ◌+◌, ◌*◌, ◌^◌, ◌<◌, ◌≤◌, true, List, ◌∷◌, refl, ap, sym, subst, ◌∙◌, arith, nat_lt, Option, and_from, lt-ltb, mul_assoc, mul-le-mul_right, Order, RowMajor, ColumnMajor, in_box, size_of, index_at, row_rank, nonzero_product, HasCheckedSize, in_box-cons, index_at-row_rank, rank_in, index_in, rank_in-below, nonzero-cons, column_index-column_rank, inside}
use Rattle.nd_array_core.specs.reshape.ReshapeByRank.{regrouped_index, IsShapeOf}
use Rattle.nd_array_core.specs.reshape.ReshapeLaws.{RegroupedBack}
use Rattle.nd_array_core.proofs.reshape_lemmas.AxisLengthLimit.{length_short}
use Rattle.nd_array_core.proofs.law_lemmas.LayoutLaws.{seen_back}
use Rattle.nd_array_core.proofs.reshape_lemmas.IndexesAfterReshape.{index_in_within, rank_of_index_in}

-- ---- an index of the box is that of its rank
pub index_of_rank_in : (order : Order) (ns i : List ℕ) → in_box ns i ≡ true → index_in order ns (rank_in order ns i) ≡ i
index_of_rank_in RowMajor ns i h = index_at-row_rank ns i h
index_of_rank_in ColumnMajor ns i h = column_index-column_rank ns i h

-- ---- a reshape and the reshape back
pub regrouped_back : {A : Type 0} → RegroupedBack A
regrouped_back m order ms nothing sizes =
    seen_back m ms (regrouped_index order m.shape ms) m.shape (regrouped_index order ms m.shape) nothing refl
    (λ i h. index_in_within order ms (rank_in order m.shape i) (below i h))
    (λ i h. ap (index_in order m.shape) (rank_of_index_in order ms (rank_in order m.shape i) (below i h)) ∙ index_of_rank_in order m.shape i h)
  where
    below : (i : List ℕ) → in_box m.shape i ≡ true → rank_in order m.shape i < size_of ms
    below i h = omega (arith, sizes, rank_in-below order m.shape i h)

-- ---- the first two axes as one
module _ (n m : ℕ) (ns : List ℕ) where
  one_product : max 1 (n * m) ≤ max 1 n * max 1 m
  one_product = go n m
    where
      go : (n m : ℕ) → max 1 (n * m) ≤ max 1 n * max 1 m
      go zero zero = omega arith
      go zero (suc m) = omega arith
      go (suc n) zero = omega arith
      go (suc n) (suc m) =
          let some : 1 ≤ suc n * suc m = grind arith in
          let one : max 1 (suc n) ≡ suc n = omega arith in
          let other : max 1 (suc m) ≡ suc m = omega arith in
          rw (one, other) (omega (arith, some))

  joined_checked : HasCheckedSize (n ∷ m ∷ ns) → HasCheckedSize (n * m ∷ ns)
  joined_checked checked =
      let apart = nonzero-cons n (m ∷ ns) ∙ ap (λ p. max 1 n * p) (nonzero-cons m ns) ∙ sym (mul_assoc (max 1 n) (max 1 m) (nonzero_product ns)) in
      let joined = nonzero-cons (n * m) ns in
      let less = mul-le-mul_right {m = max 1 (n * m)} {n = max 1 n * max 1 m} (nonzero_product ns) one_product in
      omega (arith, checked, apart, joined, less)

  pub joined_shape : HasCheckedSize (n ∷ m ∷ ns) → IsShapeOf (n ∷ m ∷ ns) (n * m ∷ ns)
  joined_shape checked = (joined_checked checked, mul_assoc n m (size_of ns))

  pub joined_short : HasCheckedSize (n ∷ m ∷ ns) → n * m < 2 ^ 63
  joined_short checked = length_short (n * m ∷ ns) 0 (joined_checked checked)

  -- the place of an index among the joined axes, and that it names the index
  joined_within : (i j : ℕ) (is : List ℕ) → i < n → j < m → in_box ns is ≡ true → in_box (n * m ∷ ns) ((i * m + j) ∷ is) ≡ true
  joined_within i j is low below h =
      let more : suc i * m ≤ n * m = mul-le-mul_right {m = suc i} {n = n} m low in
      let sum : suc i * m ≡ i * m + m = grind arith in
      let first = lt-ltb (i * m + j) (n * m) (omega (arith, more, sum, below)) in
      and_from (nat_lt (i * m + j) (n * m)) (in_box ns is) first h

  joined_index : (i j : ℕ) (is : List ℕ) → in_box (n ∷ m ∷ ns) (i ∷ j ∷ is) ≡ true → regrouped_index RowMajor (n ∷ m ∷ ns) (n * m ∷ ns) ((i * m + j) ∷ is) ≡ (i ∷ j ∷ is)
  joined_index i j is there = ap (index_at (n ∷ m ∷ ns)) (same i j m (size_of ns) (row_rank ns is)) ∙ index_at-row_rank (n ∷ m ∷ ns) (i ∷ j ∷ is) there
    where
      same : (i j m s r : ℕ) → (i * m + j) * s + r ≡ i * (m * s) + (j * s + r)
      same i j m s r = omega arith

  pub joined_element : {A : Type 0} (at : List ℕ → Option A) (i j : ℕ) (is : List ℕ) → in_box (n ∷ m ∷ ns) (i ∷ j ∷ is) ≡ true
      → inside (n * m ∷ ns) ((i * m + j) ∷ is) (at (regrouped_index RowMajor (n ∷ m ∷ ns) (n * m ∷ ns) ((i * m + j) ∷ is))) ≡ at (i ∷ j ∷ is)
  joined_element at i j is there =
      let first = in_box-cons n (m ∷ ns) i (j ∷ is) there in
      let second = in_box-cons m ns j is first.1 in
      rw (joined_within i j is first.0 second.0 second.1) (ap at (joined_index i j is there))

-- the same of lengths that are those
module _ (ls : List ℕ) (checked : HasCheckedSize ls) (n m : ℕ) (ns : List ℕ) (same : ls ≡ n ∷ m ∷ ns) where
  pub joined_shape_of : IsShapeOf ls (n * m ∷ ns)
  joined_shape_of = subst (λ ks. IsShapeOf ks (n * m ∷ ns)) (sym same) (joined_shape n m ns (subst HasCheckedSize same checked))

  pub joined_short_of : n * m < 2 ^ 63
  joined_short_of = joined_short n m ns (subst HasCheckedSize same checked)

  pub joined_element_of : {A : Type 0} (at : List ℕ → Option A) (i j : ℕ) (is : List ℕ) → in_box ls (i ∷ j ∷ is) ≡ true
      → inside (n * m ∷ ns) ((i * m + j) ∷ is) (at (regrouped_index RowMajor ls (n * m ∷ ns) ((i * m + j) ∷ is))) ≡ at (i ∷ j ∷ is)
  joined_element_of at i j is there =
      ap (λ ks. inside (n * m ∷ ns) ((i * m + j) ∷ is) (at (regrouped_index RowMajor ks (n * m ∷ ns) ((i * m + j) ∷ is)))) same
      ∙ joined_element n m ns at i j is (ap (λ ks. in_box ks (i ∷ j ∷ is)) (sym same) ∙ there)
