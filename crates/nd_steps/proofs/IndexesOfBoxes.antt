-- The indexes of a box one by one, and which of them a map leads to an index.
use Rattle.std.proofs.Common.{◌≡◌, ℕ, zero, suc, ◌<◌, Bool, true, false, List, [], ◌∷◌, length, get_or, Some, None, refl, sym, ap, ◌∙◌, arith, if◌then◌else◌}
use Rattle.std.specs.Bool.{Decides}
use Rattle.std.specs.Cmp.{unsigned_Decides}
use Rattle.std.specs.Cmp.Lexicographic.{pointwise}
use Rattle.std.specs.List.{find}
use Rattle.std.specs.Prelude.{nat_eq}
use Rattle.std.proofs.lemmas.Slice.Eq.{slice_eq-Decides}
use Rattle.nd_shape_and_slice.specs.ShapesAndIndexOrders.{in_box, size_of, row_rank, index_at, indexes_of}
use Rattle.nd_shape_and_slice.proofs.RowMajor.{row_rank_below}
use Rattle.nd_shape_and_slice.proofs.RowMajorNumberInverse.{in_box-index_at, index_at-row_rank}
use Rattle.nd_shape_and_slice.proofs.RowMajorIndexList.{length-indexes_of, get_or-indexes_of}
use Rattle.nd_steps.specs.WritesThroughViewsAndSplits.{leading_to}

-- ---- the first item that passes a test
module _ {X : Type 0} (p : X → Bool) where
  -- it passes, and it is one of the items
  record Found (xs : List X) (x d : X) : Type 0 where
    passes : p x ≡ true
    place : ℕ
    below : place < length xs
    is : get_or xs place d ≡ x

  find_some_by : (t : Bool) (y : X) (xs : List X) (x d : X) → p y ≡ t → (if t then Some y else find p xs) ≡ Some x → (find p xs ≡ Some x → Found xs x d) → Found (y ∷ xs) x d
  find_some_by true y xs x d h e rest = let same : y ≡ x = cc in record { passes = ap p (sym same) ∙ h; place = 0; below = omega arith; is = same }
  find_some_by false y xs x d h e rest = let f = rest e in record { passes = f.passes; place = suc f.place; below = omega (arith, f.below); is = f.is }

  find_some : (xs : List X) (x d : X) → find p xs ≡ Some x → Found xs x d
  find_some [] x d e = absurd cc
  find_some (y ∷ xs) x d e = find_some_by (p y) y xs x d refl e (find_some xs x d)

  find_none_by : (t : Bool) (y : X) (xs : List X) (k : ℕ) (d : X) → p y ≡ t → (if t then Some y else find p xs) ≡ None → k < length (y ∷ xs) → ((j : ℕ) → find p xs ≡ None → j < length xs → p (get_or xs j d) ≡ false) → p (get_or (y ∷ xs) k d) ≡ false
  find_none_by true y xs k d h e lt rest = absurd cc
  find_none_by false y xs zero d h e lt rest = h
  find_none_by false y xs (suc k) d h e lt rest = rest k e (omega (arith, lt))

  find_none : (xs : List X) (k : ℕ) (d : X) → find p xs ≡ None → k < length xs → p (get_or xs k d) ≡ false
  find_none [] k d e lt = absurd (omega arith)
  find_none (y ∷ xs) k d e lt = find_none_by (p y) y xs k d refl e lt (λ j. find_none xs j d)

-- ---- the index that a map leads to another

-- the test finds the same coordinates
same_index : (i j : List ℕ) → Decides (pointwise nat_eq i j) (i ≡ j)
same_index i j = slice_eq-Decides unsigned_Decides i j (pointwise nat_eq i j) refl

module _ (shape : List ℕ) (source : List ℕ → List ℕ) (i : List ℕ) where
  pub leads_here : (j : List ℕ) → leading_to shape source i ≡ Some j → (in_box shape j ≡ true) × (source j ≡ i)
  leads_here j e =
      let f = find_some (λ (k : List ℕ). pointwise nat_eq (source k) i) (indexes_of shape) j [] e in
      let below : f.place < size_of shape = omega (arith, f.below, length-indexes_of shape) in
      let at : index_at shape f.place ≡ j = sym (get_or-indexes_of shape f.place below) ∙ f.is in
      (ap (in_box shape) (sym at) ∙ in_box-index_at shape f.place below, (same_index (source j) i).0 f.passes)

  pub leads_nowhere : (j : List ℕ) → leading_to shape source i ≡ None → in_box shape j ≡ true → source j ≡ i → ⊥
  leads_nowhere j e h same =
      let rank = row_rank shape j in
      let below : rank < size_of shape = row_rank_below shape j h in
      let on : rank < length (indexes_of shape) = omega (arith, below, length-indexes_of shape) in
      let at : get_or (indexes_of shape) rank [] ≡ j = get_or-indexes_of shape rank below ∙ index_at-row_rank shape j h in
      let no : pointwise nat_eq (source j) i ≡ false = ap (λ (k : List ℕ). pointwise nat_eq (source k) i) (sym at) ∙ find_none (λ (k : List ℕ). pointwise nat_eq (source k) i) (indexes_of shape) rank [] e on in
      let yes : pointwise nat_eq (source j) i ≡ true = (same_index (source j) i).1 same in
      absurd cc
