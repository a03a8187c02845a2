-- The elements of an array with their indexes, as a list.
use Rattle.std.proofs.Common.{◌≡◌, ℕ, zero, suc, ◌<◌, true, List, [], ◌∷◌, length, get_or, refl, ap, sym, ◌∙◌, inl, inr, arith}
use Rattle.std.specs.Prelude.{Option, None, Some, is_some, slice_get}
use Rattle.std.specs.List.{filter_map, cons_option}
use Rattle.std.specs.Option.{option_map}
use Rattle.std.proofs.lemmas.Option.{slice_get_cases}
use Rattle.nd_shape_and_slice.specs.ShapesAndIndexOrders.{in_box, index_at, indexes_of, row_rank, size_of}
use Rattle.nd_shape_and_slice.proofs.RowMajorIndexList.{length-indexes_of, get_or-indexes_of}
use Rattle.nd_shape_and_slice.proofs.RowMajorNumberInverse.{in_box-index_at, row_rank-index_at}
use Rattle.nd_shape_and_slice.proofs.RowMajor.{row_rank_below}
use Rattle.nd_array_core.specs.ArrayMeaning.{Meaning}
use Rattle.nd_array_core.specs.ConcatenationAndSplit.{row_major_elements}
use Rattle.nd_array_core.specs.reshape.ReshapeLaws.{ListsByRank}
use Rattle.nd_iter.specs.IteratedElements.{with_indexes}

-- what a map gives of a list, where it gives something of each item
module _ {A B : Type 0} (at : B → Option A) (d : B) where
  given_count : (is : List B) → ((p : ℕ) → p < length is → is_some (at (get_or is p d)) ≡ true) → length (filter_map at is) ≡ length is
  given_count [] each = refl
  given_count (i ∷ is) each = by_first (at i) (each 0 (omega arith)) (given_count is (λ p below. each (suc p) (omega (arith, below))))
    where
      by_first : (o : Option A) → is_some o ≡ true → length (filter_map at is) ≡ length is → length (cons_option o (filter_map at is)) ≡ suc (length is)
      by_first None some rest = absurd cc
      by_first (Some x) some rest = ap suc rest

  given_there : (is : List B) → ((p : ℕ) → p < length is → is_some (at (get_or is p d)) ≡ true) → (p : ℕ) → p < length is → slice_get (filter_map at is) p ≡ at (get_or is p d)
  given_there [] each p below = absurd (omega (arith, below))
  given_there (i ∷ is) each p below = by_first (at i) refl (each 0 (omega arith)) p below (λ q less. given_there is (λ k under. each (suc k) (omega (arith, under))) q less)
    where
      by_first : (o : Option A) → at i ≡ o → is_some o ≡ true → (q : ℕ) → q < suc (length is) → ((k : ℕ) → k < length is → slice_get (filter_map at is) k ≡ at (get_or is k d)) → slice_get (cons_option o (filter_map at is)) q ≡ at (get_or (i ∷ is) q d)
      by_first None there some q less rest = absurd cc
      by_first (Some x) there some zero less rest = sym there
      by_first (Some x) there some (suc q) less rest = rest q (omega (arith, less))

module _ {A : Type 0} (m : Meaning A) (count : length (row_major_elements m) ≡ size_of m.shape) (listed : ListsByRank m) where
  has : (i : List ℕ) → in_box m.shape i ≡ true → is_some ((with_indexes m).at i) ≡ true
  has i h = elim (slice_get_cases (row_major_elements m) (row_rank m.shape i)).1 [
    | inl some ↦ ap (λ (o : Option A). is_some {T = List ℕ × A} (option_map (λ x. (i, x)) o)) (sym (listed i h) ∙ some.2)
    | inr none ↦ absurd (let below = row_rank_below m.shape i h in omega (arith, none.0, below, count))
  ]

  each : (p : ℕ) → p < length (indexes_of m.shape) → is_some ((with_indexes m).at (get_or (indexes_of m.shape) p [])) ≡ true
  each p below =
      let under : p < size_of m.shape = omega (arith, below, length-indexes_of m.shape) in
      ap (λ i. is_some ((with_indexes m).at i)) (get_or-indexes_of m.shape p under) ∙ has (index_at m.shape p) (in_box-index_at m.shape p under)

  -- as many as elements
  pub indexed_count : length (row_major_elements (with_indexes m)) ≡ size_of m.shape
  indexed_count = given_count (with_indexes m).at [] (indexes_of m.shape) each ∙ length-indexes_of m.shape

  -- at a rank its index and its element
  pub indexed_there : (rank : ℕ) (x : A) → rank < size_of m.shape → slice_get (row_major_elements m) rank ≡ Some x → slice_get (row_major_elements (with_indexes m)) rank ≡ Some (index_at m.shape rank, x)
  indexed_there rank x below is =
      let under : rank < length (indexes_of m.shape) = omega (arith, below, length-indexes_of m.shape) in
      let there = in_box-index_at m.shape rank below in
      let same = row_rank-index_at m.shape rank below in
      let found : m.at (index_at m.shape rank) ≡ Some x = sym (listed (index_at m.shape rank) there) ∙ ap (slice_get (row_major_elements m)) same ∙ is in
      given_there (with_indexes m).at [] (indexes_of m.shape) each rank under
      ∙ ap (with_indexes m).at (get_or-indexes_of m.shape rank below)
      ∙ ap (λ (o : Option A). option_map {U = List ℕ × A} (λ y. (index_at m.shape rank, y)) o) found
