-- A test that all elements of an array pass, from its list of elements.
use Rattle.std.proofs.Common.{◌≡◌, ◌∙◌, refl, sym, ap, subst, ℕ, zero, suc, ◌<◌, Bool, true, false, List, [], ◌∷◌, length, ◌&&◌, IfSome, slice_get, arith}
use Rattle.std.specs.List.{fold, list_all}
use Rattle.std.proofs.lemmas.Bool.{and_parts}
use Rattle.nd_shape_and_slice.specs.ShapesAndIndexOrders.{in_box, index_at, row_rank, size_of}
use Rattle.nd_shape_and_slice.proofs.RowMajorNumberInverse.{in_box-index_at, row_rank-index_at}
use Rattle.nd_array_core.specs.ConcatenationAndSplit.{row_major_elements}
use Rattle.nd_array_core.specs.LayoutLaws.{NothingOutside}
use Rattle.nd_array_core.specs.ArrayMeaning.{Meaning}
use Rattle.nd_array_core.specs.reshape.ReshapeLaws.{ListsByRank}

module _ {A : Type 0} (test : A → Bool) where
  each_passes : (xs : List A) (k : ℕ) → list_all test xs ≡ true → IfSome (slice_get xs k) (λ x. test x ≡ true)
  each_passes [] k all = tt
  each_passes (x ∷ xs) zero all = (and_parts (test x) (list_all test xs) all).0
  each_passes (x ∷ xs) (suc k) all = each_passes xs k (and_parts (test x) (list_all test xs) all).1

  all_pass : (xs : List A) → ((k : ℕ) → k < length xs → IfSome (slice_get xs k) (λ x. test x ≡ true)) → list_all test xs ≡ true
  all_pass [] each = refl
  all_pass (x ∷ xs) each = (λ i. each 0 (omega arith) i && all_pass xs (λ k below. each (suc k) (omega (arith, below))) i)

  -- a fold that tests one element after another tells whether all pass
  pub folded : (b : Bool) (xs : List A) → fold (λ all x. all && test x) b xs ≡ b && list_all test xs
  folded true [] = refl
  folded false [] = refl
  folded true (x ∷ xs) = folded (test x) xs
  folded false (x ∷ xs) = folded false xs

  -- in any order
  pub order_free : (b : Bool) (x y : A) → ((b && test x) && test y) ≡ ((b && test y) && test x)
  order_free b x y = swapped b (test x) (test y)
    where
      swapped : (b s t : Bool) → ((b && s) && t) ≡ ((b && t) && s)
      swapped false s t = refl
      swapped true false false = refl
      swapped true false true = refl
      swapped true true false = refl
      swapped true true true = refl

  module _ (m : Meaning A) (count : length (row_major_elements m) ≡ size_of m.shape) (listed : ListsByRank m) (outside : NothingOutside m) where
    -- where all pass, the element of each index does
    pub each_element_passes : list_all test (row_major_elements m) ≡ true → (i : List ℕ) → IfSome (m.at i) (λ x. test x ≡ true)
    each_element_passes all i = by_box (in_box m.shape i) refl
      where
        by_box : (b : Bool) → in_box m.shape i ≡ b → IfSome (m.at i) (λ x. test x ≡ true)
        by_box true h = subst (λ o. IfSome o (λ x. test x ≡ true)) (listed i h) (each_passes (row_major_elements m) (row_rank m.shape i) all)
        by_box false h = subst (λ o. IfSome o (λ x. test x ≡ true)) (sym (outside i h)) tt

    -- where the element of each index passes, all do
    pub all_elements_pass : ((i : List ℕ) → IfSome (m.at i) (λ x. test x ≡ true)) → list_all test (row_major_elements m) ≡ true
    all_elements_pass each = all_pass (row_major_elements m) at_rank
      where
        at_rank : (k : ℕ) → k < length (row_major_elements m) → IfSome (slice_get (row_major_elements m) k) (λ x. test x ≡ true)
        at_rank k less =
            let below : k < size_of m.shape = omega (arith, less, count) in
            let there = sym (listed (index_at m.shape k) (in_box-index_at m.shape k below)) ∙ ap (slice_get (row_major_elements m)) (row_rank-index_at m.shape k below) in
            subst (λ o. IfSome o (λ x. test x ≡ true)) there (each (index_at m.shape k))
