-- Elements listed by rank in an order, and what an array of such a list shows under other lengths.
use Rattle.nd_array_core.proofs.NamesFromOtherCrates.{◌≡◌, ℕ, ◌<◌, Bool, true, false, List, reverse, ℤ, refl, ap, sym, ◌∙◌, arith, Option, None, slice_get, if◌then◌else◌, filter_map, Order, RowMajor, ColumnMajor, in_box, size_of, index_at, row_rank, indexes_of, place_of, in_box-index_at, row_rank-index_at, index_at-row_rank, row_rank_below, rank_in, index_in, rank_in-below, size_of-ordered, slow_index, inside, row_major_elements, stored_at, HoldsAll, ordered_shows}
use Rattle.nd_shape_and_slice.specs.declared.dimension.Dimension as dimension
use Rattle.nd_shape_and_slice.specs.declared.dimension.AxisCount as axis_count
use Rattle.nd_shape_and_slice.specs.declared.dimension.StrideList as stride_list
use Rattle.nd_elements.specs.declared.storage.Data as data_trait
use Rattle.nd_array_core.specs.declared.base.array.ArrayBase.{ArrayBase}
use Rattle.nd_array_core.specs.ArrayMeaning.{meaning_of, shape_of, element_at}
use Rattle.nd_array_core.specs.reshape.ReshapeByRank.{regrouped_index}

module _ {A : Type 0} where
  open_by : (t : Bool) (o : Option A) → t ≡ true → (if t then o else None) ≡ o
  open_by t o e = ap (λ (b : Bool). if b then o else None) e

  -- in the row-major list the element of a rank is that of the rank's index
  pub listed_row : (stored : ℕ → Option A) (first : ℕ) (ns : List ℕ) (ss : List ℤ) → HoldsAll stored first ns ss → (r : ℕ) → r < size_of ns
      → slice_get (filter_map (λ j. inside ns j (stored_at stored (place_of first ss j))) (indexes_of ns)) r ≡ inside ns (index_at ns r) (stored_at stored (place_of first ss (index_at ns r)))
  listed_row stored first ns ss holds r below =
      let there = in_box-index_at ns r below in
      let xs = filter_map (λ j. inside ns j (stored_at stored (place_of first ss j))) (indexes_of ns) in
      sym (open_by (in_box ns (index_at ns r)) (slice_get xs r) there)
      ∙ ap (λ k. inside ns (index_at ns r) (slice_get xs k)) (sym (row_rank-index_at ns r below))
      ∙ ordered_shows stored first ns ss holds (index_at ns r)

  -- and the element of an index is that of its rank
  pub listed_index : (stored : ℕ → Option A) (first : ℕ) (ns : List ℕ) (ss : List ℤ) → HoldsAll stored first ns ss → (i : List ℕ) → in_box ns i ≡ true
      → slice_get (filter_map (λ j. inside ns j (stored_at stored (place_of first ss j))) (indexes_of ns)) (row_rank ns i) ≡ inside ns i (stored_at stored (place_of first ss i))
  listed_index stored first ns ss holds i h =
      listed_row stored first ns ss holds (row_rank ns i) (row_rank_below ns i h) ∙ ap (λ j. inside ns j (stored_at stored (place_of first ss j))) (index_at-row_rank ns i h)

  -- an element under other lengths, from a list by rank
  pub found_regrouped : (order : Order) (ns ms : List ℕ) (at : List ℕ → Option A) (xs : List A) → size_of ms ≡ size_of ns
      → ((r : ℕ) → r < size_of ns → slice_get xs r ≡ at (index_in order ns r))
      → (i : List ℕ) → inside ms i (slice_get xs (rank_in order ms i)) ≡ inside ms i (at (regrouped_index order ns ms i))
  found_regrouped order ns ms at xs sizes each i = by_test (in_box ms i) refl
    where
      by_test : (t : Bool) → in_box ms i ≡ t → inside ms i (slice_get xs (rank_in order ms i)) ≡ inside ms i (at (regrouped_index order ns ms i))
      by_test true h = ap (inside ms i) (each (rank_in order ms i) (let below = rank_in-below order ms i h in omega (arith, below, sizes)))
      by_test false h = rw h refl

  -- a row-major list of an array that shows another with its axes reversed, by column-major rank there
  pub listed_column : (ns ts : List ℕ) (at turned : List ℕ → Option A) (xs : List A) → ts ≡ reverse ns → ((j : List ℕ) → turned j ≡ inside (reverse ns) j (at (reverse j)))
      → ((r : ℕ) → r < size_of ts → slice_get xs r ≡ turned (index_at ts r))
      → (r : ℕ) → r < size_of ns → slice_get xs r ≡ at (index_in ColumnMajor ns r)
  listed_column ns ts at turned xs same shows each r below =
      let j = index_at (reverse ns) r in
      each r long
      ∙ ap (λ ms. turned (index_at ms r)) same
      ∙ shows j
      ∙ open_by (in_box (reverse ns) j) (at (reverse j)) (in_box-index_at (reverse ns) r under)
      ∙ ap at (sym (slow_index ColumnMajor ns r below))
    where
      turned_size : size_of (reverse ns) ≡ size_of ns
      turned_size = size_of-ordered RowMajor ns

      under : r < size_of (reverse ns)
      under = omega (arith, below, turned_size)

      long : r < size_of ts
      long = let size = ap size_of same in omega (arith, under, size)

pub turned_count : (ns ts : List ℕ) → ts ≡ reverse ns → size_of ts ≡ size_of ns
turned_count ns ts same = ap size_of same ∙ size_of-ordered RowMajor ns

module _ {S D A T R : Type 0} {s : data_trait.Ghosts S A} {d : dimension.Ghosts D R} {n : axis_count.Ghosts D} {r : stride_list.Ghosts R} {t : stride_list.Ghosts T} where
  -- the list of an array's elements has them by row-major rank
  pub listed_by_rank : (a : ArrayBase S D T A R s d n r t) (xs : List A) → xs ≡ row_major_elements (meaning_of a) → (rank : ℕ) → rank < size_of (shape_of a) → slice_get xs rank ≡ element_at a (index_at (shape_of a) rank)
  unfolding meaning_of
  listed_by_rank a xs all rank below = ap (λ ys. slice_get ys rank) all ∙ listed_row (s.stored a.storage) a.layout.offset (d.lengths a.layout.dim) (t.strides_of a.layout.strides) a.inside rank below
