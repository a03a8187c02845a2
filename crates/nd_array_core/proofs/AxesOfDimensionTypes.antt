-- What an array's type tells of its shape, for callers: as many axes as its dimension has, each shorter than 2 ^ 63.
use Rattle.nd_array_core.proofs.NamesFromOtherCrates.{ℕ, ◌≡◌, ◌<◌, ◌^◌, Bool, true, List, [], ◌∷◌, length, refl, arith, ◌==◌, ◌&&◌, nat_le, slice_index, nat_tests, Dim}
use Rattle.nd_shape_and_slice.specs.declared.dimension.Dimension as dimension
use Rattle.nd_shape_and_slice.specs.declared.dimension.AxisCount as axis_count
use Rattle.nd_shape_and_slice.specs.declared.dimension.StrideList as stride_list
use Rattle.nd_elements.specs.declared.storage.Data as data_trait
use Rattle.nd_array_core.specs.declared.base.array.ArrayBase.{ArrayBase}
use Rattle.nd_array_core.specs.ArrayMeaning.{meaning_of, shape_of}
use Rattle.nd_array_core.proofs.reshape_lemmas.AxisLengthLimit as short

module _ {S D T A R : Type 0} {s : data_trait.Ghosts S A} {d : dimension.Ghosts D R} {n : axis_count.Ghosts D} {r : stride_list.Ghosts R} {t : stride_list.Ghosts T} where
  pub length_short : (a : ArrayBase S D T A R s d n r t) (k : ℕ) → slice_index (shape_of a) k < 2 ^ 63
  unfolding meaning_of
  length_short a k = short.length_short (d.lengths a.layout.dim) k a.layout.checked

-- what the dimension's own fact says
same_number : (n k : ℕ) → (n == k && nat_le n 32) ≡ true → n ≡ k
same_number n k e = grind (arith, nat_tests)

list_of_1 : (ns : List ℕ) → length ns ≡ 1 → ns ≡ slice_index ns 0 ∷ []
list_of_1 [] e = cc
list_of_1 (m ∷ []) e = refl
list_of_1 (m ∷ n ∷ ns) e = absurd (omega arith)

list_of_2 : (ns : List ℕ) → length ns ≡ 2 → ns ≡ slice_index ns 0 ∷ slice_index ns 1 ∷ []
list_of_2 [] e = cc
list_of_2 (m ∷ []) e = cc
list_of_2 (m ∷ n ∷ []) e = refl
list_of_2 (m ∷ n ∷ k ∷ ns) e = absurd (omega arith)

list_of_3 : (ns : List ℕ) → length ns ≡ 3 → ns ≡ slice_index ns 0 ∷ slice_index ns 1 ∷ slice_index ns 2 ∷ []
list_of_3 [] e = cc
list_of_3 (m ∷ []) e = cc
list_of_3 (m ∷ n ∷ []) e = cc
list_of_3 (m ∷ n ∷ k ∷ []) e = refl
list_of_3 (m ∷ n ∷ k ∷ j ∷ ns) e = absurd (omega arith)

module _ {S T A R : Type 0} {s : data_trait.Ghosts S A} {has : ℕ → Bool} {r : stride_list.Ghosts R} {t : stride_list.Ghosts T} where
  pub number_of_axes : {N : ℕ} {n : axis_count.Ghosts (Dim N)} (a : ArrayBase S (Dim N) T A R s record { lengths = λ x. x.lens; has_axes = has } n r t) → length (shape_of a) ≡ N
  unfolding meaning_of
  number_of_axes {N} a = same_number (length a.layout.dim.lens) N a.layout.dim.number

  pub one_length : {n : axis_count.Ghosts (Dim 1)} (a : ArrayBase S (Dim 1) T A R s record { lengths = λ x. x.lens; has_axes = has } n r t) → shape_of a ≡ slice_index (shape_of a) 0 ∷ []
  one_length a = list_of_1 (shape_of a) (number_of_axes a)

  pub rows_and_columns : {n : axis_count.Ghosts (Dim 2)} (a : ArrayBase S (Dim 2) T A R s record { lengths = λ x. x.lens; has_axes = has } n r t) → shape_of a ≡ slice_index (shape_of a) 0 ∷ slice_index (shape_of a) 1 ∷ []
  rows_and_columns a = list_of_2 (shape_of a) (number_of_axes a)

  pub three_lengths : {n : axis_count.Ghosts (Dim 3)} (a : ArrayBase S (Dim 3) T A R s record { lengths = λ x. x.lens; has_axes = has } n r t) → shape_of a ≡ slice_index (shape_of a) 0 ∷ slice_index (shape_of a) 1 ∷ slice_index (shape_of a) 2 ∷ []
  three_lengths a = list_of_3 (shape_of a) (number_of_axes a)

pub ruleset known_axes = (number_of_axes, one_length, rows_and_columns, three_lengths, length_short)
