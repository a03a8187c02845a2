-- The index of the first of the least or of the greatest elements, of an array and of each lane along an axis.
use Rattle.std.specs.Prelude.{◌≡◌, ◌↔◌, ◌+◌, ◌<◌, ℕ, List, [], ◌∷◌, length, Option, Some, Bool, true, false, IfSome, IsNone, IsTrue, slice_get, slice_index, if◌then◌else◌}
use Rattle.std.specs.List.{reduce}
use Rattle.std.specs.Option.{option_map}
use Rattle.std.specs.Ordering.{is_lt, is_gt}
use Rattle.std.specs.declared.cmp.Ordering.{Ordering}
use Rattle.nd_shape_and_slice.specs.ShapesAndIndexOrders.{in_box, row_rank}
use Rattle.nd_shape_and_slice.specs.LayoutIndexMaps.{indexed_shape}
use Rattle.nd_shape_and_slice.specs.declared.dimension.Dimension as dimension
use Rattle.nd_shape_and_slice.specs.declared.dimension.AxisCount as axis_count
use Rattle.nd_shape_and_slice.specs.declared.dimension.StrideList as stride_list
use Rattle.nd_array_core.specs.declared.base.array.ArrayBase.{ArrayBase}
use Rattle.nd_array_core.specs.Data as data_trait
use Rattle.nd_array_core.specs.ArrayMeaning.{Meaning, shape_of, element_at}
use Rattle.nd_array_core.specs.along.AxisFolds.{lane_elements}

-- Returns whether `x` is greater than `y`, or less where `greatest` is false.
abbrev pub beats_by : {A : Type 0} → (A → A → Ordering) → Bool → A → A → Bool
beats_by order greatest x y = if greatest then is_gt (order x y) else is_lt (order x y)

module _ {A : Type 0} (beats : A → A → Bool) where
  -- Says that no element beats the one at the index `i`, and that this one beats each before it in row-major order.
  pub record IsFirstBest (m : Meaning A) (i : List ℕ) : Type 0 where
    pub value : A
    pub stands : m.at i ≡ Some value
    pub best : (j : List ℕ) → IfSome (m.at j) (λ y. beats y value ≡ false)
    pub beats_earlier : (j : List ℕ) → row_rank m.shape j < row_rank m.shape i → IfSome (m.at j) (λ y. beats value y ≡ true)

  -- Returns the second of two elements where it beats the first, and otherwise the first.
  abbrev pub better_by : A → A → A
  better_by x y = if beats y x then y else x

  -- Says that item `k` of the list is `r`, that no item of the list beats it, and that it beats each item before it.
  pub record IsFirstBestOf (xs : List A) (r : A) (k : ℕ) : Type 0 where
    pub stands : slice_get xs k ≡ Some r
    pub best : (p : ℕ) → IfSome (slice_get xs p) (λ y. beats y r ≡ false)
    pub beats_earlier : (p : ℕ) → p < k → IfSome (slice_get xs p) (λ y. beats r y ≡ true)

  -- Says that `best` is the position of the first best item of the list, and that there is none exactly if the list is empty.
  abbrev pub IsBestPosition : List A → Option ℕ → Type 0
  IsBestPosition xs best = (IsNone best ↔ (length xs ≡ 0)) × IfSome best (λ k. (r : A) × IsFirstBestOf xs r k)

  -- Returns how many items stand before the first one that `r` doesn't beat.
  abbrev pub beaten_before : A → List A → ℕ
  beaten_before r [] = 0
  beaten_before r (x ∷ xs) = if beats r x then beaten_before r xs + 1 else 0

  -- Returns the position of the first best item: of the first one that isn't beaten by what is left when the better of
  -- two is kept, from the first on.
  abbrev pub rank_of_best : List A → Option ℕ
  rank_of_best xs = option_map (λ r. beaten_before r xs) (reduce better_by xs)

-- Says that no element is less than the one at the index, and that each before it in row-major order is greater.
abbrev pub IsFirstLeast : {A : Type 0} → (A → A → Ordering) → Meaning A → List ℕ → Type 0
IsFirstLeast order = IsFirstBest (λ x y. is_lt (order x y))

-- Says that no element is greater than the one at the index, and that each before it in row-major order is less.
abbrev pub IsFirstGreatest : {A : Type 0} → (A → A → Ordering) → Meaning A → List ℕ → Type 0
IsFirstGreatest order = IsFirstBest (λ x y. is_gt (order x y))

module _ {S D T A R : Type 0} {s : data_trait.Ghosts S A} {d : dimension.Ghosts D R} {n : axis_count.Ghosts D} {r : stride_list.Ghosts R} {t : stride_list.Ghosts T} where
  -- Says that `result` has, at each index of the other axes, the coordinate of the first best element of the lane along
  -- `axis` there, and `None` if the lane is empty.
  abbrev pub AreBestPositions : (A → A → Bool) → ArrayBase S D T A R s d n r t → ℕ → (List ℕ → Option (Option ℕ)) → Type 0
  AreBestPositions beats a axis result =
      (i : List ℕ) → IsTrue (in_box (indexed_shape (shape_of a) axis) i) → (best : Option ℕ) × (result i ≡ Some best) × IsBestPosition beats (lane_elements (element_at a) axis (slice_index (shape_of a) axis) i) best

  -- Says that `result` has, at each index of the other axes, the coordinate of the first of the least elements of the lane
  -- along `axis` there, and `None` if the lane is empty.
  abbrev pub AreFirstLeast : (A → A → Ordering) → ArrayBase S D T A R s d n r t → ℕ → (List ℕ → Option (Option ℕ)) → Type 0
  AreFirstLeast order = AreBestPositions (λ x y. is_lt (order x y))

  -- Says that `result` has, at each index of the other axes, the coordinate of the first of the greatest elements of the lane
  -- along `axis` there, and `None` if the lane is empty.
  abbrev pub AreFirstGreatest : (A → A → Ordering) → ArrayBase S D T A R s d n r t → ℕ → (List ℕ → Option (Option ℕ)) → Type 0
  AreFirstGreatest order = AreBestPositions (λ x y. is_gt (order x y))
