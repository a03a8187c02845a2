-- The fold of the pairs of a list's items with themselves, and the fold of a list from its own first item on.
use Rattle.std.proofs.Common.{◌≡◌, refl, sym, ap, subst, ℕ, Bool, true, false, List, [], ◌∷◌, Option, Some, None, if◌then◌else◌}
use Rattle.std.specs.List.{fold, reduce, filter_map, cons_option}
use Rattle.nd_shape_and_slice.specs.ShapesAndIndexOrders.{indexes_of}
use Rattle.nd_array_core.specs.ConcatenationAndSplit.{row_major_elements}
use Rattle.nd_array_core.specs.ArrayMeaning.{Meaning}
use Rattle.nd_array_core.specs.elements.BroadcastPairs.{option_both}
use Rattle.nd_array_core.specs.elements.PairMapsAndFolds.{paired_with}

module _ {A B : Type 0} (h : B → A → B) (m : Meaning A) (other : List ℕ → Option A) (same : (i : List ℕ) → other i ≡ m.at i) where
  -- the first of each pair, folded along a list of indexes
  along : (is : List (List ℕ)) (b : B) → fold (λ (t : B) (p : A × A). h t p.0) b (filter_map (paired_with m other).at is) ≡ fold h b (filter_map m.at is)
  along [] b = refl
  along (i ∷ is) b = by_element (m.at i) (other i) (same i) (along is)
    where
      by_element : (o p : Option A) → p ≡ o → ((t : B) → fold (λ (t : B) (p : A × A). h t p.0) t (filter_map (paired_with m other).at is) ≡ fold h t (filter_map m.at is)) → fold (λ (t : B) (p : A × A). h t p.0) b (cons_option (option_both (λ x y. (x, y)) o p) (filter_map (paired_with m other).at is)) ≡ fold h b (cons_option o (filter_map m.at is))
      by_element None p e rest = rest b
      by_element (Some x) None e rest = absurd cc
      by_element (Some x) (Some y) e rest = rest (h b x)

  pub folded_with_other : (b : B) → fold (λ (t : B) (p : A × A). h t p.0) b (row_major_elements (paired_with m other)) ≡ fold h b (row_major_elements m)
  folded_with_other b = along (indexes_of m.shape) b

module _ {A : Type 0} (choice : A → A → A) (same : (x : A) → choice x x ≡ x) where
  -- a choice of two, from the first item on over all items, is that over the items after the first
  pub from_first : (x : A) (rest xs : List A) → xs ≡ x ∷ rest → Some (fold choice x xs) ≡ reduce choice xs
  from_first x rest xs is = subst (λ ys. Some (fold choice x ys) ≡ reduce choice ys) (sym is) (ap (λ y. Some (fold choice y rest)) (same x))

-- one thing in either case
pub either_way : {A : Type 0} (b : Bool) (x : A) → (if b then x else x) ≡ x
either_way true x = refl
either_way false x = refl
