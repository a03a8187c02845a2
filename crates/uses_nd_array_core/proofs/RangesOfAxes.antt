-- What a range names of one axis, and what two ranges name of an image; and an axis whose coordinates count from its
-- other end. A range's numbers are below 2 ^ 63, so that no bound counts from the end.
use Rattle.std.proofs.Common.{◌≡◌, ◌∙◌, ℕ, ◌+◌, ◌-◌, ◌*◌, ◌<◌, ◌≤◌, ◌^◌, true, false, ◌&&◌, List, [], ◌∷◌, ap, arith, pos, negsuc}
use Rattle.std.specs.Prelude.{Some, None, nat_lt, max, if◌then◌else◌}
use Rattle.std.specs.Option.{is_some, unwrap_or}
use Rattle.std.proofs.Math.Nat.{max-eq_right, zero-max}
use Rattle.std.proofs.Math.Bool.{and-false}
use Rattle.std.proofs.lemmas.Bool.{lt-ltb}
use Rattle.std.proofs.lemmas.Bool.Decides.{nat_tests}
use Rattle.nd_array_core.specs.Prelude.{Slice}
use Rattle.nd_array_core.specs.Prelude.{SliceInfoElem}
use Rattle.nd_array_core.specs.Slice.{bound_on, fits_axis, low_of, high_of, sliced_length, sliced_from, quotient_up}
use Rattle.nd_array_core.specs.SliceInfo.{fits_shape, shape_after, index_before}
use Rattle.nd_array_core.specs.IndexesNamedBySlices.{slice_names, names_index}
use Rattle.nd_array_core.specs.scoped.AssignedOrChangedParts.{coordinate_after, index_after}
use Rattle.nd_array_core.specs.SlicesFromRanges.{slice_between, bound_of, element_of}
use Rattle.nd_array_core.proofs.IndexesWithChangedCoordinates.{bound_within}
use Rattle.uses_nd_array_core.proofs.EverySecondColumn.{start_is, by_step, whole_length, itself}

-- the slice that a range of `count` numbers from `from` on becomes
abbrev pub range_from : ℕ → ℕ → Slice
range_from from count = slice_between (bound_of from) (Some (bound_of (from + count)))

-- the list of slices that s![top..top + height, left..left + width] is
abbrev pub rectangle_of : ℕ → ℕ → ℕ → ℕ → List SliceInfoElem
rectangle_of top left height width = element_of (range_from top height) ∷ element_of (range_from left width) ∷ []

bound_there : (n k : ℕ) → n < 2 ^ 63 → k ≤ n → bound_on n (bound_of k) ≡ Some k
bound_there n k few within =
    let small : nat_lt k (2 ^ 63) ≡ true = lt-ltb k (2 ^ 63) (omega arith) in
    ap (λ t. bound_on n (if t then pos k else negsuc (2 ^ 64 - 1 - k))) small ∙ bound_within n k within

bound_is : (n k : ℕ) → n < 2 ^ 63 → k ≤ n → unwrap_or (bound_on n (bound_of k)) 0 ≡ k
bound_is n k few within = ap (λ o. unwrap_or o 0) (bound_there n k few within)

module _ (n from count : ℕ) (few : n < 2 ^ 63) (fits : from + count ≤ n) where
  starts_at : low_of n (range_from from count) ≡ from
  starts_at = bound_is n from few (omega arith)

  ends_at : high_of n (range_from from count) ≡ from + count
  ends_at =
      ap (λ l. max l (unwrap_or (bound_on n (bound_of (from + count))) 0)) starts_at
      ∙ ap (λ h. max from h) (bound_is n (from + count) few fits)
      ∙ max-eq_right (omega arith)

  length_is : sliced_length n (range_from from count) ≡ count
  length_is = ap (λ h. quotient_up (h - low_of n (range_from from count)) 1) ends_at ∙ ap (λ l. quotient_up (from + count - l) 1) starts_at ∙ omega arith

  at_is : (i : ℕ) → sliced_from n (range_from from count) i ≡ from + i
  at_is i = ap (λ l. l + i * 1) starts_at ∙ omega arith

  not_before : (i : ℕ) → i < from → slice_names n (range_from from count) i ≡ false
  not_before i outside =
      let low = starts_at in
      let high = ends_at in
      grind (arith, nat_tests, low, high)

  not_after : (i : ℕ) → from + count ≤ i → slice_names n (range_from from count) i ≡ false
  not_after i outside =
      let low = starts_at in
      let high = ends_at in
      grind (arith, nat_tests, low, high)

  there : (i : ℕ) → from ≤ i → i < from + count → slice_names n (range_from from count) i ≡ true
  there i above below =
      let low = starts_at in
      let high = ends_at in
      grind (arith, nat_tests, low, high)

  range_fits : fits_axis n (range_from from count) ≡ true
  range_fits = λ t. is_some (bound_there n from few (omega arith) t) && is_some (bound_there n (from + count) few fits t)

  counts_from : (i : ℕ) → coordinate_after (pos 1) (low_of n (range_from from count)) (high_of n (range_from from count)) i ≡ i - from
  counts_from i = ap (λ l. i - l) starts_at

module _ (n m top left height width : ℕ) (few_rows : n < 2 ^ 63) (few_columns : m < 2 ^ 63) (rows_fit : top + height ≤ n) (columns_fit : left + width ≤ m) where
  pub rectangle_shape : shape_after (n ∷ m ∷ []) (rectangle_of top left height width) ≡ height ∷ width ∷ []
  rectangle_shape = λ t. length_is n top height few_rows rows_fit t ∷ length_is m left width few_columns columns_fit t ∷ []

  pub rectangle_index : (i j : ℕ) → index_before (n ∷ m ∷ []) (rectangle_of top left height width) (i ∷ j ∷ []) ≡ (top + i) ∷ (left + j) ∷ []
  rectangle_index i j = λ t. at_is n top height few_rows rows_fit i t ∷ at_is m left width few_columns columns_fit j t ∷ []

  pub rectangle_fits : fits_shape (n ∷ m ∷ []) (rectangle_of top left height width) ≡ true
  rectangle_fits = λ t. (range_fits n top height few_rows rows_fit t && (range_fits m left width few_columns columns_fit t && true)) && true

  pub rectangle_named : (i j : ℕ) → top ≤ i → i < top + height → left ≤ j → j < left + width → names_index (n ∷ m ∷ []) (rectangle_of top left height width) (i ∷ j ∷ []) ≡ true
  rectangle_named i j above below after before = λ t. there n top height few_rows rows_fit i above below t && (there m left width few_columns columns_fit j after before t && true)

  pub rectangle_after : (i j : ℕ) → index_after (n ∷ m ∷ []) (rectangle_of top left height width) (i ∷ j ∷ []) ≡ (i - top) ∷ (j - left) ∷ []
  rectangle_after i j = λ t. counts_from n top height few_rows rows_fit i t ∷ counts_from m left width few_columns columns_fit j t ∷ []

  pub above_unnamed : (i j : ℕ) → i < top → names_index (n ∷ m ∷ []) (rectangle_of top left height width) (i ∷ j ∷ []) ≡ false
  above_unnamed i j outside = ap (λ b. b && (slice_names m (range_from left width) j && true)) (not_before n top height few_rows rows_fit i outside)

  pub below_unnamed : (i j : ℕ) → top + height ≤ i → names_index (n ∷ m ∷ []) (rectangle_of top left height width) (i ∷ j ∷ []) ≡ false
  below_unnamed i j outside = ap (λ b. b && (slice_names m (range_from left width) j && true)) (not_after n top height few_rows rows_fit i outside)

  pub before_unnamed : (i j : ℕ) → j < left → names_index (n ∷ m ∷ []) (rectangle_of top left height width) (i ∷ j ∷ []) ≡ false
  before_unnamed i j outside = ap (λ b. slice_names n (range_from top height) i && (b && true)) (not_before m left width few_columns columns_fit j outside) ∙ and-false (slice_names n (range_from top height) i)

  pub after_unnamed : (i j : ℕ) → left + width ≤ j → names_index (n ∷ m ∷ []) (rectangle_of top left height width) (i ∷ j ∷ []) ≡ false
  after_unnamed i j outside = ap (λ b. slice_names n (range_from top height) i && (b && true)) (not_after m left width few_columns columns_fit j outside) ∙ and-false (slice_names n (range_from top height) i)

-- ---- a whole axis by a step of -1, and the other axis as it is
abbrev pub backwards : Slice
backwards = record { start = pos 0; end = None; step = negsuc 0 }

abbrev pub rows_backwards : List SliceInfoElem
rows_backwards = element_of backwards ∷ element_of (by_step 1) ∷ []

module _ (n : ℕ) where
  low_is_0 : low_of n backwards ≡ 0
  low_is_0 = ap (λ o. unwrap_or o 0) (start_is n)

  high_is_all : high_of n backwards ≡ n
  high_is_all = ap (λ l. max l n) low_is_0 ∙ zero-max n

  backwards_length : sliced_length n backwards ≡ n
  backwards_length = ap (λ h. quotient_up (h - low_of n backwards) 1) high_is_all ∙ ap (λ l. quotient_up (n - l) 1) low_is_0 ∙ omega arith

  backwards_at : (i : ℕ) → sliced_from n backwards i ≡ n - 1 - i
  backwards_at i = ap (λ h. h - 1 - i * 1) high_is_all ∙ omega arith

pub rows_backwards_shape : (n m : ℕ) → shape_after (n ∷ m ∷ []) rows_backwards ≡ n ∷ m ∷ []
rows_backwards_shape n m = λ t. backwards_length n t ∷ whole_length m t ∷ []

pub rows_backwards_index : (n m i j : ℕ) → index_before (n ∷ m ∷ []) rows_backwards (i ∷ j ∷ []) ≡ (n - 1 - i) ∷ j ∷ []
rows_backwards_index n m i j = λ t. backwards_at n i t ∷ itself m j t ∷ []
