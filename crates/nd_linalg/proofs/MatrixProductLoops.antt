-- Loops over lists: an item is put, a product is added.
use Rattle.std.proofs.Common.{◌≡◌, ℕ, suc, ◌+◌, ◌*◌, ◌<◌, ◌≤◌, List, [], ◌∷◌, ◌++◌, length, get_or, slice_set, refl, ap, sym, ◌∙◌, arith}
use Rattle.std.specs.Prelude.{Option, Some, Bool, true, false, nat_lt, slice_get}
use Rattle.std.proofs.lemmas.Bool.Decides.{nat_tests}
use Rattle.std.proofs.lemmas.List.{length_push}
use Rattle.std.proofs.lemmas.Option.{slice_get_read}
use Rattle.nd_shape_and_slice.proofs.ListEdits.{set_there, set_elsewhere, got_before, got_last}
use Rattle.nd_array_core.specs.elements.BroadcastPairs.{option_both}
use Rattle.nd_linalg.specs.DotAndMatrixProducts.{sum_of_products}

module _ {A : Type 0} where
  -- an item is put where a function of its number says, after those that are put
  module _ (items : List A) (j : ℕ) (x : A) (f : ℕ → Option A) where
    pub one_put : j < length items → Some x ≡ f j → ((i : ℕ) → i < j → slice_get items i ≡ f i) → (i : ℕ) → i < j + 1 → slice_get (slice_set items j x) i ≡ f i
    one_put inside is each i below = by_test (nat_lt i j) refl
      where
        by_test : (t : Bool) → nat_lt i j ≡ t → slice_get (slice_set items j x) i ≡ f i
        by_test true e =
            let under : i < j = grind (arith, nat_tests, e) in
            set_elsewhere items j i x (λ same. omega (arith, same, under)) ∙ each i under
        by_test false e =
            let same : i ≡ j = grind (arith, nat_tests, e, below) in
            ap (slice_get (slice_set items j x)) same ∙ set_there items j x inside ∙ is ∙ ap f (sym same)

    pub rest_left : ((i : ℕ) → j ≤ i → slice_get items i ≡ f i) → (i : ℕ) → j + 1 ≤ i → slice_get (slice_set items j x) i ≡ f i
    rest_left left i after = set_elsewhere items j i x (λ same. omega (arith, same, after)) ∙ left i (omega (arith, after))

  -- one item more of a row is pushed after cells
  module _ (xs new : List A) (y : A) (is : new ≡ xs ++ y ∷ []) where
    pub one_longer : length new ≡ length xs + 1
    one_longer = ap length is ∙ length_push xs y

    pub pushed_before : (p : ℕ) → p < length xs → slice_get new p ≡ slice_get xs p
    pushed_before p below = ap (λ zs. slice_get zs p) is ∙ got_before xs (y ∷ []) p below

    pub row_pushed : (row : List A) (from j : ℕ) → length xs ≡ from + j → slice_get row j ≡ Some y → ((i : ℕ) → i < j → slice_get xs (from + i) ≡ slice_get row i) → (i : ℕ) → i < j + 1 → slice_get new (from + i) ≡ slice_get row i
    row_pushed row from j count item each i below = by_test (nat_lt i j) refl
      where
        by_test : (t : Bool) → nat_lt i j ≡ t → slice_get new (from + i) ≡ slice_get row i
        by_test true e =
            let under : i < j = grind (arith, nat_tests, e) in
            pushed_before (from + i) (omega (arith, count, under)) ∙ each i under
        by_test false e =
            let same : i ≡ j = grind (arith, nat_tests, e, below) in
            let end : from + i ≡ length xs = omega (arith, count, same) in
            ap (slice_get new) end ∙ ap (λ zs. slice_get zs (length xs)) is ∙ got_last xs y (length xs) refl ∙ sym item ∙ ap (slice_get row) (sym same)

-- items that are read at four places one after another of a row
module _ {A : Type 0} (items : List A) (from done : ℕ) (row : from + done + 4 ≤ length items) where
  read : (k i : ℕ) (x : A) → k < 4 → i ≡ from + done + k → x ≡ get_or items i x → slice_get items i ≡ Some x
  read k i x few at is = slice_get_read items (length items) i x refl (omega (arith, row, few, at)) is

  pub first_of_row : (x : A) → x ≡ get_or items (from + done) x → slice_get items (from + done) ≡ Some x
  first_of_row x is = read 0 (from + done) x (omega arith) (omega arith) is

  pub second_of_row : (x : A) → x ≡ get_or items (from + done + 1) x → slice_get items (from + (done + 1)) ≡ Some x
  second_of_row x is = let at : from + (done + 1) ≡ from + done + 1 = omega arith in ap (slice_get items) at ∙ read 1 (from + done + 1) x (omega arith) refl is

  pub third_of_row : (x : A) → x ≡ get_or items (from + done + 2) x → slice_get items (from + (done + 1 + 1)) ≡ Some x
  third_of_row x is = let at : from + (done + 1 + 1) ≡ from + done + 2 = omega arith in ap (slice_get items) at ∙ read 2 (from + done + 2) x (omega arith) refl is

  pub fourth_of_row : (x : A) → x ≡ get_or items (from + done + 3) x → slice_get items (from + (done + 1 + 1 + 1)) ≡ Some x
  fourth_of_row x is = let at : from + (done + 1 + 1 + 1) ≡ from + done + 3 = omega arith in ap (slice_get items) at ∙ read 3 (from + done + 3) x (omega arith) refl is

-- and of a column of rows of so many
module _ {A : Type 0} (items : List A) (columns done j : ℕ) (cells : (done + 4) * columns ≤ length items) (below : j < columns) where
  pub first_of_column : (x : A) → x ≡ get_or items (done * columns + j) x → slice_get items (done * columns + j) ≡ Some x
  first_of_column x is = slice_get_read items (length items) (done * columns + j) x refl (omega (arith, cells, below)) is

  pub second_of_column : (x : A) → x ≡ get_or items (done * columns + columns + j) x → slice_get items ((done + 1) * columns + j) ≡ Some x
  second_of_column x is =
      let at : (done + 1) * columns + j ≡ done * columns + columns + j = omega arith in
      ap (slice_get items) at ∙ slice_get_read items (length items) (done * columns + columns + j) x refl (omega (arith, cells, below)) is

  pub third_of_column : (x : A) → x ≡ get_or items (done * columns + columns + columns + j) x → slice_get items ((done + 1 + 1) * columns + j) ≡ Some x
  third_of_column x is =
      let at : (done + 1 + 1) * columns + j ≡ done * columns + columns + columns + j = omega arith in
      ap (slice_get items) at ∙ slice_get_read items (length items) (done * columns + columns + columns + j) x refl (omega (arith, cells, below)) is

  pub fourth_of_column : (x : A) → x ≡ get_or items (done * columns + columns + columns + columns + j) x → slice_get items ((done + 1 + 1 + 1) * columns + j) ≡ Some x
  fourth_of_column x is =
      let at : (done + 1 + 1 + 1) * columns + j ≡ done * columns + columns + columns + columns + j = omega arith in
      ap (slice_get items) at ∙ slice_get_read items (length items) (done * columns + columns + columns + columns + j) x refl (omega (arith, cells, below)) is

-- a product is added to a sum
module _ {A : Type 0} (plus times : A → A → A) where
  pub product_added : (sum x y more : A) (p q r : Option A) → more ≡ plus sum (times x y) → p ≡ Some sum → q ≡ Some x → r ≡ Some y → Some more ≡ option_both plus p (option_both times q r)
  product_added sum x y more p q r is at_sum at_x at_y = ap Some is
      ∙ ap (λ b. option_both plus (Some sum) (option_both times (Some x) b)) (sym at_y)
      ∙ ap (λ a. option_both plus (Some sum) (option_both times a r)) (sym at_x)
      ∙ ap (λ s. option_both plus s (option_both times q r)) (sym at_sum)

  -- and the sum is one of products so far
  module _ (nought : A) (xs ys : ℕ → Option A) (k : ℕ) where
    next_sum : option_both plus (sum_of_products plus times nought xs ys k) (option_both times (xs k) (ys k)) ≡ sum_of_products plus times nought xs ys (k + 1)
    next_sum = let next : suc k ≡ k + 1 = omega arith in ap (sum_of_products plus times nought xs ys) next

    pub sum_taken_on : (sum x y more : A) → more ≡ plus sum (times x y) → xs k ≡ Some x → ys k ≡ Some y → Some sum ≡ sum_of_products plus times nought xs ys k → Some more ≡ sum_of_products plus times nought xs ys (k + 1)
    sum_taken_on sum x y more is at_x at_y so_far = product_added sum x y more (sum_of_products plus times nought xs ys k) (xs k) (ys k) is (sym so_far) at_x at_y ∙ next_sum

    pub added_on : (sum : Option A) (x : A) → sum ≡ sum_of_products plus times nought xs ys k → xs k ≡ Some x → option_both plus sum (option_both times (Some x) (ys k)) ≡ sum_of_products plus times nought xs ys (k + 1)
    added_on sum x so_far at_x = ap (λ s. option_both plus s (option_both times (Some x) (ys k))) so_far ∙ ap (λ a. option_both plus (sum_of_products plus times nought xs ys k) (option_both times a (ys k))) (sym at_x) ∙ next_sum
