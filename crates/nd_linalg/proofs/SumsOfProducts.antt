-- Sums of products of what stands in lists of cells, row after row.
use Rattle.std.proofs.Common.{◌≡◌, ℕ, zero, suc, ◌+◌, ◌*◌, ◌<◌, List, [], ◌∷◌, true, refl, ap, sym, subst, ◌∙◌, arith}
use Rattle.std.specs.Prelude.{Option, ◌&&◌, nat_lt, slice_get, slice_index}
use Rattle.std.proofs.lemmas.Bool.{and_from, lt-ltb}
use Rattle.nd_shape_and_slice.specs.ShapesAndIndexOrders.{in_box, row_rank}
use Rattle.nd_array_core.specs.ArrayMeaning.{Meaning}
use Rattle.nd_array_core.specs.ConcatenationAndSplit.{row_major_elements}
use Rattle.nd_array_core.specs.elements.BroadcastPairs.{option_both}
use Rattle.nd_array_core.specs.reshape.ReshapeLaws.{ListsByRank}
use Rattle.nd_linalg.specs.DotAndMatrixProducts.{sum_of_products, row_by_column, row_by_vector, vector_by_vector}

-- sums of the same numbers are the same
module _ {A : Type 0} (plus times : A → A → A) (nought : A) (xs vs ys ws : ℕ → Option A) where
  pub sums_agree : (n : ℕ) → ((k : ℕ) → k < n → xs k ≡ vs k) → ((k : ℕ) → k < n → ys k ≡ ws k) → sum_of_products plus times nought xs ys n ≡ sum_of_products plus times nought vs ws n
  sums_agree zero left right = refl
  sums_agree (suc n) left right =
      let before = sums_agree n (λ k h. left k (omega (arith, h))) (λ k h. right k (omega (arith, h))) in
      let x = left n (omega arith) in
      let y = right n (omega arith) in
      (λ t. option_both plus (before t) (option_both times (x t) (y t)))

module _ {A : Type 0} (m : Meaning A) (listed : ListsByRank m) where
  -- where the elements of a vector stand in their list
  pub in_line : (n : ℕ) → m.shape ≡ n ∷ [] → (i : ℕ) → i < n → slice_get (row_major_elements m) i ≡ m.at (i ∷ [])
  in_line n shape i h =
      let inside : in_box m.shape (i ∷ []) ≡ true = ap (λ s. in_box s (i ∷ [])) shape ∙ and_from (nat_lt i n) true (lt-ltb i n h) refl in
      let rank : row_rank m.shape (i ∷ []) ≡ i = ap (λ s. row_rank s (i ∷ [])) shape ∙ omega arith in
      ap (slice_get (row_major_elements m)) (sym rank) ∙ listed (i ∷ []) inside

  -- where those of a matrix do
  pub in_rows : (n k : ℕ) → m.shape ≡ n ∷ k ∷ [] → (i j : ℕ) → i < n → j < k → slice_get (row_major_elements m) (i * k + j) ≡ m.at (i ∷ j ∷ [])
  in_rows n k shape i j h g =
      let inside : in_box m.shape (i ∷ j ∷ []) ≡ true = ap (λ s. in_box s (i ∷ j ∷ [])) shape ∙ and_from (nat_lt i n) (nat_lt j k && true) (lt-ltb i n h) (and_from (nat_lt j k) true (lt-ltb j k g) refl) in
      let whole : k * 1 ≡ k = omega arith in
      let rank : row_rank m.shape (i ∷ j ∷ []) ≡ i * k + j = ap (λ s. row_rank s (i ∷ j ∷ [])) shape ∙ ap (λ w. i * w + (j * 1 + 0)) whole ∙ omega arith in
      ap (slice_get (row_major_elements m)) (sym rank) ∙ listed (i ∷ j ∷ []) inside

module _ {A : Type 0} (plus times : A → A → A) (nought : A) (m n : Meaning A) (listed : ListsByRank m) (listed_other : ListsByRank n) (rows inner : ℕ) (shape : m.shape ≡ rows ∷ inner ∷ []) (left right : List A) (is : left ≡ row_major_elements m) (other_is : right ≡ row_major_elements n) where
  -- the sum for a row and a column, read from the lists of both matrices
  pub row_and_column : (below columns : ℕ) → n.shape ≡ below ∷ columns ∷ [] → below ≡ inner → (i j : ℕ) → i < rows → j < columns → sum_of_products plus times nought (λ k. slice_get left (i * inner + k)) (λ k. slice_get right (k * columns + j)) inner ≡ row_by_column plus times nought m n i j
  row_and_column below columns other_shape same i j h g =
      sums_agree plus times nought (λ k. slice_get left (i * inner + k)) (λ k. m.at (i ∷ k ∷ [])) (λ k. slice_get right (k * columns + j)) (λ k. n.at (k ∷ j ∷ [])) inner
      (λ k under. ap (λ xs. slice_get xs (i * inner + k)) is ∙ in_rows m listed rows inner shape i k h under)
      (λ k under. ap (λ xs. slice_get xs (k * columns + j)) other_is ∙ in_rows n listed_other below columns other_shape k j (omega (arith, under, same)) g)
      ∙ ap (sum_of_products plus times nought (λ k. m.at (i ∷ k ∷ [])) (λ k. n.at (k ∷ j ∷ []))) (sym (ap (λ s. slice_index s 1) shape))

  -- the sum for a row and a vector
  row_and_whole : (count : ℕ) → n.shape ≡ count ∷ [] → count ≡ inner → (i : ℕ) → i < rows → sum_of_products plus times nought (λ k. slice_get left (i * inner + k)) (slice_get right) inner ≡ row_by_vector plus times nought m n i
  row_and_whole count other_shape same i h =
      sums_agree plus times nought (λ k. slice_get left (i * inner + k)) (λ k. m.at (i ∷ k ∷ [])) (slice_get right) (λ k. n.at (k ∷ [])) inner
      (λ k under. ap (λ xs. slice_get xs (i * inner + k)) is ∙ in_rows m listed rows inner shape i k h under)
      (λ k under. ap (λ xs. slice_get xs k) other_is ∙ in_line n listed_other count other_shape k (omega (arith, under, same)))
      ∙ ap (sum_of_products plus times nought (λ k. m.at (i ∷ k ∷ [])) (λ k. n.at (k ∷ []))) (sym (ap (λ s. slice_index s 1) shape))

  pub row_and_vector : (count : ℕ) → n.shape ≡ count ∷ [] → count ≡ inner → (long : ℕ) → long ≡ inner → (i : ℕ) → i < rows → sum_of_products plus times nought (λ k. slice_get left (i * long + k)) (slice_get right) long ≡ row_by_vector plus times nought m n i
  row_and_vector count other_shape same long long_is i h = subst (λ (w : ℕ). sum_of_products plus times nought (λ k. slice_get left (i * w + k)) (slice_get right) w ≡ row_by_vector plus times nought m n i) (sym long_is) (row_and_whole count other_shape same i h)

-- the sum for two vectors, read from the lists of both
pub line_and_line : {A : Type 0} (plus times : A → A → A) (nought : A) (m n : Meaning A) → ListsByRank m → ListsByRank n → (count other : ℕ) → m.shape ≡ count ∷ [] → n.shape ≡ other ∷ [] → other ≡ count → (left right : List A) → left ≡ row_major_elements m → right ≡ row_major_elements n → (from long : ℕ) → from ≡ 0 → long ≡ count → sum_of_products plus times nought (λ k. slice_get left (from + k)) (slice_get right) long ≡ vector_by_vector plus times nought m n
line_and_line plus times nought m n listed listed_other count other shape other_shape same left right is other_is from long start long_is =
    ap (sum_of_products plus times nought (λ k. slice_get left (from + k)) (slice_get right)) long_is
    ∙ sums_agree plus times nought (λ k. slice_get left (from + k)) (λ k. m.at (k ∷ [])) (slice_get right) (λ k. n.at (k ∷ [])) count
    (λ k under. let at : from + k ≡ k = omega (arith, start) in ap (slice_get left) at ∙ ap (λ xs. slice_get xs k) is ∙ in_line m listed count shape k under)
    (λ k under. ap (λ xs. slice_get xs k) other_is ∙ in_line n listed_other other other_shape k (omega (arith, under, same)))
    ∙ ap (sum_of_products plus times nought (λ k. m.at (k ∷ [])) (λ k. n.at (k ∷ []))) (sym (ap (λ s. slice_index s 0) shape))
