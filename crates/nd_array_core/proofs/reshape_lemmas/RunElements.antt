-- The elements of an array in the standard layout as a list: those of the storage, from the offset on.
use Rattle.nd_array_core.proofs.NamesFromOtherCrates.{◌≡◌, ℕ, suc, ◌+◌, ◌<◌, true, List, [], ◌∷◌, length, get_or, ℤ, pos, refl, ap, sym, ◌∙◌, arith, Option, Some, is_some, filter_map, cons_option, size_of, index_at, indexes_of, place_of, length-indexes_of, get_or-indexes_of, in_box-index_at, row_rank-index_at, sums, IsStandard, Meaning, inside, row_major_elements, stored_at, names_place, HoldsAll}

-- what a map shows along a list of indexes, one after the other
pub gathered : {A : Type 0} (f : List ℕ → Option A) (is : List (List ℕ)) (xs : List A) → length xs ≡ length is → ((k : ℕ) (d : A) → k < length is → f (get_or is k []) ≡ Some (get_or xs k d)) → xs ≡ filter_map f is
gathered f [] [] long each = refl
gathered f [] (x ∷ xs) long each = absurd (omega (arith, long))
gathered f (i ∷ is) [] long each = absurd (omega (arith, long))
gathered f (i ∷ is) (x ∷ xs) long each =
    ap (λ ys. x ∷ ys) (gathered f is xs (omega (arith, long)) (λ k d below. each (suc k) d (omega (arith, below))))
    ∙ ap (λ o. cons_option o (filter_map f is)) (sym (each 0 x (omega arith)))

module _ {A : Type 0} (stored : ℕ → Option A) (offset : ℕ) (ns : List ℕ) (ss : List ℤ) (standard : IsStandard ns ss) where
  -- the index of a rank lies at the offset plus that rank
  pub rank_place : (k : ℕ) → k < size_of ns → place_of offset ss (index_at ns k) ≡ pos (offset + k)
  rank_place k below =
      let h = in_box-index_at ns k below in
      omega (arith, sums, standard (index_at ns k) h, row_rank-index_at ns k below)

  pub standard_has : HoldsAll stored offset ns ss → (k : ℕ) → k < size_of ns → is_some (stored (offset + k)) ≡ true
  standard_has holds k below = ap (names_place stored) (sym (rank_place k below)) ∙ holds (index_at ns k) (in_box-index_at ns k below)

  pub standard_elements : (xs : List A) → length xs ≡ size_of ns → ((k : ℕ) (d : A) → k < size_of ns → stored (offset + k) ≡ Some (get_or xs k d))
      → xs ≡ filter_map (λ i. inside ns i (stored_at stored (place_of offset ss i))) (indexes_of ns)
  standard_elements xs long each =
      gathered (λ i. inside ns i (stored_at stored (place_of offset ss i))) (indexes_of ns) xs (long ∙ sym (length-indexes_of ns))
      (λ k d below.
      let under : k < size_of ns = omega (arith, below, length-indexes_of ns) in
      ap (λ i. inside ns i (stored_at stored (place_of offset ss i))) (get_or-indexes_of ns k under)
      ∙ rw (in_box-index_at ns k under, rank_place k under) (each k d under))

-- two meanings with the same shape and the same element at each index have the same elements
pub same_elements : {A : Type 0} (m n : Meaning A) → m.shape ≡ n.shape → ((i : List ℕ) → m.at i ≡ n.at i) → row_major_elements m ≡ row_major_elements n
same_elements m n shape at = λ k. filter_map (λ i. at i k) (indexes_of (shape k))
