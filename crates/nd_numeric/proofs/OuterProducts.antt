-- The cells of an outer product, from a table that repeats one list in each column and another list that is broadcast.
use Rattle.std.proofs.Common.{◌≡◌, ◌∙◌, ◌*◌, refl, ap, ℕ, zero, suc, ◌<◌, true, List, [], ◌∷◌, reverse, Option, Some, None, slice_index, arith}
use Rattle.std.specs.Prelude.{IsSome, nat_lt}
use Rattle.std.specs.Option.{unwrap_or}
use Rattle.std.proofs.lemmas.Bool.Decides.{nat_tests}
use Rattle.nd_shape_and_slice.specs.ShapesAndIndexOrders.{HasCheckedSize, in_box, size_of}
use Rattle.nd_array_core.specs.ArrayMeaning.{Meaning, inside}
use Rattle.nd_array_core.specs.elements.BroadcastPairs.{broadcast_at, option_both}
use Rattle.nd_numeric.proofs.FirstAxisBroadcast.{rest_at}

-- the number of elements of one axis
pub line_long : (ns : List ℕ) → ns ≡ slice_index ns 0 ∷ [] → size_of ns ≡ slice_index ns 0
line_long ns is = ap size_of is ∙ times_one (slice_index ns 0)
  where
    times_one : (n : ℕ) → n * 1 ≡ n
    times_one n = omega arith

-- a table whose size is checked has one with rows for columns, too
pub turned_checked : (n m : ℕ) → HasCheckedSize (n ∷ m ∷ []) → HasCheckedSize (m ∷ n ∷ [])
turned_checked zero zero checked = checked
turned_checked zero (suc m) checked = checked
turned_checked (suc n) zero checked = checked
turned_checked (suc n) (suc m) checked = grind (arith, checked)

-- whether a coordinate is below a length
pub test_of : (k n : ℕ) → k < n → nat_lt k n ≡ true
test_of k n below = grind (arith, nat_tests)

stands : {A : Type 0} (o : Option A) (x : A) → IsSome o → o ≡ Some (unwrap_or o x)
stands (Some y) x some = refl
stands None x some = absurd cc

module _ {A : Type 0} (n columns : ℕ) (row column : ℕ) (row_inside : nat_lt row n ≡ true) (column_inside : nat_lt column columns ≡ true) where
  -- the table repeats the list in each column
  spread_at : (m : Meaning A) → m.shape ≡ n ∷ [] → (turned back : List ℕ → Option A) (ns : List ℕ) → ns ≡ columns ∷ n ∷ [] → ((j : List ℕ) → turned j ≡ broadcast_at (columns ∷ n ∷ []) m j) → ((i : List ℕ) → back i ≡ inside (reverse ns) i (turned (reverse i))) → back (row ∷ column ∷ []) ≡ m.at (row ∷ [])
  spread_at m line turned back ns is shows returns =
      returns (row ∷ column ∷ [])
      ∙ ap (λ ks. inside (reverse ks) (row ∷ column ∷ []) (turned (column ∷ row ∷ []))) is
      ∙ rw (row_inside, column_inside) (shows (column ∷ row ∷ []) ∙ rest_at m (columns ∷ n ∷ []) (omega arith) line (column ∷ row ∷ []) ∙ rw (column_inside, row_inside) refl)

  -- a list that is broadcast to the table's shape has the same element in each row
  other_cell : (m : Meaning A) → m.shape ≡ columns ∷ [] → (ns : List ℕ) → ns ≡ n ∷ columns ∷ [] → broadcast_at ns m (row ∷ column ∷ []) ≡ m.at (column ∷ [])
  other_cell m line ns is =
      ap (λ ks. broadcast_at ks m (row ∷ column ∷ [])) is
      ∙ rest_at m (n ∷ columns ∷ []) (omega arith) line (row ∷ column ∷ [])
      ∙ rw (row_inside, column_inside) refl

  pub cell_is : (h : A → A → A) (x : A) (one other : Meaning A) → one.shape ≡ n ∷ [] → other.shape ≡ columns ∷ []
      → ((i : List ℕ) → in_box one.shape i ≡ true → IsSome (one.at i)) → ((i : List ℕ) → in_box other.shape i ≡ true → IsSome (other.at i))
      → (turned back : List ℕ → Option A) (ns : List ℕ) → ns ≡ columns ∷ n ∷ []
      → ((j : List ℕ) → turned j ≡ broadcast_at (columns ∷ n ∷ []) one j) → ((i : List ℕ) → back i ≡ inside (reverse ns) i (turned (reverse i)))
      → (ks : List ℕ) → ks ≡ n ∷ columns ∷ []
      → option_both h (back (row ∷ column ∷ [])) (broadcast_at ks other (row ∷ column ∷ [])) ≡ Some (h (unwrap_or (one.at (row ∷ [])) x) (unwrap_or (other.at (column ∷ [])) x))
  cell_is h x one other one_line other_line one_some other_some turned back ns is shows returns ks ks_is =
      let first = spread_at one one_line turned back ns is shows returns ∙ stands (one.at (row ∷ [])) x (one_some (row ∷ []) (ap (λ zs. in_box zs (row ∷ [])) one_line ∙ rw row_inside refl)) in
      let second = other_cell other other_line ks ks_is ∙ stands (other.at (column ∷ [])) x (other_some (column ∷ []) (ap (λ zs. in_box zs (column ∷ [])) other_line ∙ rw column_inside refl)) in
      ap (λ o. option_both h o (broadcast_at ks other (row ∷ column ∷ []))) first
      ∙ ap (option_both h (Some (unwrap_or (one.at (row ∷ [])) x))) second
