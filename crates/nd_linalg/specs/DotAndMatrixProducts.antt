-- Sums of products in rising order, and the products of vectors and matrices.
use Rattle.std.specs.Prelude.{◌≡◌, ◌+◌, ◌*◌, ◌<◌, ℕ, zero, suc, List, [], ◌∷◌, length, Option, Some, slice_get, slice_index}
use Rattle.std.specs.declared.vec.Vec.{Vec}
use Rattle.nd_array_core.specs.ArrayMeaning.{Meaning}
use Rattle.nd_array_core.specs.elements.BroadcastPairs.{option_both}

-- Returns the element of row `i` and column `j` in a list of rows of `columns` elements each.
abbrev pub row_cell : {A : Type 0} → List A → ℕ → ℕ → ℕ → Option A
row_cell cells columns i j = slice_get cells (i * columns + j)

-- Says that the list `cells` has the items of `row` from the position `from` on.
abbrev pub HasFrom : {A : Type 0} → List A → ℕ → List A → Type 0
HasFrom cells from row = (j : ℕ) → j < length row → slice_get cells (from + j) ≡ slice_get row j

-- Says that `sums'` has at each position `j` what `sums` has there plus the product of `x` with the item `from + j` of
-- `cells`.
abbrev pub AddsProducts : {A : Type 0} → (A → A → A) → (A → A → A) → List A → A → List A → ℕ → List A → Type 0
AddsProducts plus times sums x cells from sums' = (j : ℕ) → j < length sums → slice_get sums' j ≡ option_both plus (slice_get sums j) (option_both times (Some x) (slice_get cells (from + j)))

module _ {A : Type 0} (plus times : A → A → A) (nought : A) where
  -- Returns `nought` plus the products of what `xs` and `ys` have at 0, .., n - 1, added one after the other.
  abbrev pub sum_of_products : (ℕ → Option A) → (ℕ → Option A) → ℕ → Option A
  sum_of_products xs ys zero = Some nought
  sum_of_products xs ys (suc n) = option_both plus (sum_of_products xs ys n) (option_both times (xs n) (ys n))

  -- Returns the sum of the products of `list` with row `i` of the list of rows `cells`, which are as long.
  abbrev pub row_sum : List A → List A → ℕ → Option A
  row_sum cells list i = sum_of_products (λ k. slice_get cells (i * length list + k)) (slice_get list) (length list)

  -- Returns the sum of the products of a row, which stands in `left` from the position `from` on, with column `j` of
  -- `right`, a list of rows of `columns` elements each. The last argument is the number of products.
  abbrev pub column_sum : List A → ℕ → List A → ℕ → ℕ → ℕ → Option A
  column_sum left from right columns j = sum_of_products (λ k. slice_get left (from + k)) (λ k. slice_get right (k * columns + j))

  -- Returns the sum of the products of `list` with a row as long, which stands in `cells` from the position `from` on.
  abbrev pub sum_from : List A → ℕ → List A → Option A
  sum_from cells from list = sum_of_products (λ k. slice_get cells (from + k)) (slice_get list) (length list)

  -- Says that `sums` has for each of the first `rows` rows in `cells` the sum of its products with `list`.
  abbrev pub HasRowSums : List A → List A → ℕ → List A → Type 0
  HasRowSums cells list rows sums = (i : ℕ) → i < rows → slice_get sums i ≡ row_sum cells list i

  -- Says that `sums` has for each column of `right` the sum of its products with a row of `inner` elements, which
  -- stands in `left` from the position `from` on.
  abbrev pub HasColumnSums : List A → ℕ → List A → ℕ → ℕ → List A → Type 0
  HasColumnSums left from right columns inner sums = (j : ℕ) → j < columns → slice_get sums j ≡ column_sum left from right columns j inner

  -- Says that the vector `cells'` has after the items of `cells`, for each column of `right`, the sum of its products
  -- with a row of `inner` elements, which stands in `left` from the position `from` on. There are as many columns as
  -- `sums` has items.
  abbrev pub PutsSums : {Z : Type 0} → List A → ℕ → List A → List A → ℕ → Vec A Z → Vec A Z → Type 0
  PutsSums left from right sums inner cells cells' = (j : ℕ) → j < length sums → slice_get cells'.items (length cells.items + j) ≡ column_sum left from right (length sums) j inner

  -- Says that `cells` has at each row and column the sum of the products of that row of `left` with that column of
  -- `right`.
  abbrev pub ListsProduct : List A → List A → ℕ → ℕ → ℕ → List A → Type 0
  ListsProduct left right rows inner columns cells = (i j : ℕ) → i < rows → j < columns → row_cell cells columns i j ≡ column_sum left (i * inner) right columns j inner

  -- Returns the sum of the products of two vectors.
  abbrev pub vector_by_vector : Meaning A → Meaning A → Option A
  vector_by_vector m n = sum_of_products (λ k. m.at (k ∷ [])) (λ k. n.at (k ∷ [])) (slice_index m.shape 0)

  -- Returns the sum of the products of row `i` of the matrix `m` with the vector `n`.
  abbrev pub row_by_vector : Meaning A → Meaning A → ℕ → Option A
  row_by_vector m n i = sum_of_products (λ k. m.at (i ∷ k ∷ [])) (λ k. n.at (k ∷ [])) (slice_index m.shape 1)

  -- Returns the sum of the products of row `i` of the matrix `m` with column `j` of the matrix `n`.
  abbrev pub row_by_column : Meaning A → Meaning A → ℕ → ℕ → Option A
  row_by_column m n i j = sum_of_products (λ k. m.at (i ∷ k ∷ [])) (λ k. n.at (k ∷ j ∷ [])) (slice_index m.shape 1)

  -- Says that the vector `image` is the matrix `m` times the vector `n`: its item `i` is the sum for row `i`.
  abbrev pub IsImage : Meaning A → Meaning A → Meaning A → Type 0
  IsImage m n image = (i : ℕ) → i < slice_index m.shape 0 → image.at (i ∷ []) ≡ row_by_vector m n i

  -- Says that the matrix `product` is `m` times `n`: its element at `i` and `j` is the sum for row `i` and column `j`.
  abbrev pub IsProduct : Meaning A → Meaning A → Meaning A → Type 0
  IsProduct m n product = (i j : ℕ) → i < slice_index m.shape 0 → j < slice_index n.shape 1 → product.at (i ∷ j ∷ []) ≡ row_by_column m n i j

-- Returns the shape of the product of two matrices of the shapes `ns` and `ms`.
abbrev pub product_shape : List ℕ → List ℕ → List ℕ
product_shape ns ms = slice_index ns 0 ∷ slice_index ms 1 ∷ []
