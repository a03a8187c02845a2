-- Sums, products and means of an array's elements in row-major order, and of the lanes along an axis.
use Rattle.std.specs.Prelude.{◌≡◌, ◌<◌, ℕ, List, [], ◌∷◌, Option, Some, Result, IfOk, IfSome, min, slice_index}
use Rattle.std.specs.List.{fold, remove}
use Rattle.std.specs.Option.{unwrap_or}
use Rattle.nd_shape_and_slice.specs.ShapesAndIndexOrders.{size_of}
use Rattle.nd_shape_and_slice.specs.LayoutIndexMaps.{indexed_shape}
use Rattle.nd_shape_and_slice.specs.declared.dimension.Dimension as dimension
use Rattle.nd_shape_and_slice.specs.declared.dimension.AxisCount as axis_count
use Rattle.nd_shape_and_slice.specs.declared.dimension.StrideList as stride_list
use Rattle.nd_array_core.specs.declared.base.array.ArrayBase.{ArrayBase}
use Rattle.nd_array_core.specs.Data as data_trait
use Rattle.nd_array_core.specs.CollectedElements.{collected}
use Rattle.nd_array_core.specs.ArrayMeaning.{meaning_of, shape_of, element_at, inside}
use Rattle.nd_array_core.specs.ConcatenationAndSplit.{row_major_elements}
use Rattle.nd_array_core.specs.ElementsByCoordinates.{element_of_1, element_of_2, HasCells}
use Rattle.nd_array_core.specs.along.AxisFolds.{AreFoldedBy, lane_elements}
use Rattle.nd_array_core.specs.elements.PairMapsAndFolds.{paired_with}
use Rattle.nd_array_core.specs.elements.BroadcastPairs.{option_both, other_at}

-- Says that `P` holds of what was made, where something was to be made and there was memory for it.
abbrev pub IfMade : {B E : Type 0} → Option (Result B E) → (B → Type 0) → Type 0
IfMade result P = IfSome result (λ made. IfOk made P)

module _ {S D T A R : Type 0} {s : data_trait.Ghosts S A} {d : dimension.Ghosts D R} {n : axis_count.Ghosts D} {r : stride_list.Ghosts R} {t : stride_list.Ghosts T} where
  -- Returns the fold of all elements of `a` in row-major order by `h`, from `first` on.
  abbrev pub folded_in_order : {B : Type 0} → (B → A → B) → B → ArrayBase S D T A R s d n r t → B
  folded_in_order h first a = fold h first (row_major_elements (meaning_of a))

  -- Returns the mean of all elements of `a`: their sum divided by their count.
  abbrev pub mean_of_all : (A → A → A) → (A → A → A) → A → (ℕ → A) → ArrayBase S D T A R s d n r t → A
  mean_of_all plus over nought of_count a = over (folded_in_order plus nought a) (of_count (size_of (shape_of a)))

  -- Says that `result` has, at each index of the other axes, the fold by `h` of the lane along `axis` there, from
  -- `first` on.
  abbrev pub AreLaneFolds : {B : Type 0} → (B → A → B) → B → ArrayBase S D T A R s d n r t → ℕ → (List ℕ → Option B) → Type 0
  AreLaneFolds h first a axis result = AreFoldedBy h (shape_of a) (element_at a) axis first result

  -- Says that `result` has, at each index of the other axes, the fold by `h` of the first `count` elements of the lane
  -- along `axis` there, from `first` on.
  abbrev pub AreFoldsBelow : {B : Type 0} → (B → A → B) → B → ArrayBase S D T A R s d n r t → ℕ → ℕ → (List ℕ → Option B) → Type 0
  AreFoldsBelow h first a axis count result =
      (i : List ℕ) → result i ≡ inside (indexed_shape (shape_of a) axis) i (Some (fold h first (lane_elements (element_at a) axis count i)))

  -- Says that `result` has, at each index of the other axes, the mean of the lane along `axis` there: its sum divided
  -- by its length.
  abbrev pub AreMeansOf : (A → A → A) → (A → A → A) → A → (ℕ → A) → ArrayBase S D T A R s d n r t → ℕ → (List ℕ → Option A) → Type 0
  AreMeansOf plus over nought of_count a axis result =
      (i : List ℕ) → result i ≡ inside (indexed_shape (shape_of a) axis) i (Some (over (fold plus nought (lane_elements (element_at a) axis (slice_index (shape_of a) axis) i)) (of_count (slice_index (shape_of a) axis))))

  -- Says that the elements of an array of one axis in row-major order are those at 0, at 1 and so on: what any function
  -- `at` gives for these numbers, if it gives the element there.
  abbrev pub ListsFromFirst : ArrayBase S D T A R s d n r t → Type 0
  ListsFromFirst a =
      (at : ℕ → Option A) → ((k : ℕ) → k < slice_index (shape_of a) 0 → element_of_1 a k ≡ at k) → row_major_elements (meaning_of a) ≡ collected at (slice_index (shape_of a) 0)

  -- Returns the elements of a column of a table, from the first row on.
  abbrev pub column_elements : ArrayBase S D T A R s d n r t → ℕ → List A
  column_elements a column = lane_elements (element_at a) 0 (slice_index (shape_of a) 0) (column ∷ [])

  -- Returns the elements on the diagonal of a table, from the first row on.
  abbrev pub diagonal_elements : ArrayBase S D T A R s d n r t → List A
  diagonal_elements a = collected (λ k. element_of_2 a k k) (min (slice_index (shape_of a) 0) (slice_index (shape_of a) 1))

  -- Returns the number at the coordinate `k` of an array of one axis, and `other` outside of it.
  abbrev pub element_or : A → ArrayBase S D T A R s d n r t → ℕ → A
  element_or other a k = unwrap_or (element_of_1 a k) other

-- Returns the shape of the outer product of two arrays of one axis.
abbrev pub outer_shape : List ℕ → List ℕ → List ℕ
outer_shape ns ms = slice_index ns 0 ∷ slice_index ms 0 ∷ []

module _
    {S D T A R : Type 0} {s : data_trait.Ghosts S A} {d : dimension.Ghosts D R} {n : axis_count.Ghosts D} {r : stride_list.Ghosts R} {t : stride_list.Ghosts T}
    {Z E U X : Type 0} {z : data_trait.Ghosts Z A} {e : dimension.Ghosts E X} {k : axis_count.Ghosts E} {x : stride_list.Ghosts X} {u : stride_list.Ghosts U} where
  -- Returns the product of the element of `one` at `row` and that of `other` at `column`, with `outside` for an element
  -- that isn't there.
  abbrev pub outer_cell : (A → A → A) → A → ArrayBase S D T A R s d n r t → ArrayBase Z E U A X z e k x u → ℕ → ℕ → A
  outer_cell times outside one other row column = times (element_or outside one row) (element_or outside other column)

  module _ {Y F V W : Type 0} {y : data_trait.Ghosts Y A} {f : dimension.Ghosts F W} {j : axis_count.Ghosts F} {w : stride_list.Ghosts W} {v : stride_list.Ghosts V} where
    -- Says that `table` has at each row and column the product of the element of `one` at the row and that of `other` at
    -- the column.
    abbrev pub HasOuterProducts : (A → A → A) → A → ArrayBase S D T A R s d n r t → ArrayBase Z E U A X z e k x u → ArrayBase Y F V A W y f j w v → Type 0
    HasOuterProducts times outside one other table = HasCells table (slice_index (shape_of one) 0) (slice_index (shape_of other) 0) (outer_cell times outside one other)

    -- Says that at each row and column `h` gives of the element of `table` there, and of that of `other` when it is
    -- broadcast to the table's shape, what it gives of the element of `one` at the row and that of `other` at the column.
    abbrev pub MeetInCells : (A → A → A) → A → ArrayBase S D T A R s d n r t → ArrayBase Z E U A X z e k x u → ArrayBase Y F V A W y f j w v → Type 0
    MeetInCells h outside one other table =
        (row column : ℕ) → row < slice_index (shape_of one) 0 → column < slice_index (shape_of other) 0 → option_both h (element_of_2 table row column) (other_at table other (row ∷ column ∷ [])) ≡ Some (outer_cell h outside one other row column)

  -- Says that `c` has, at each index of the other axes, the mean of the lane of `a` along `axis` there.
  abbrev pub HasMeans : (A → A → A) → (A → A → A) → A → (ℕ → A) → ArrayBase S D T A R s d n r t → ℕ → ArrayBase Z E U A X z e k x u → Type 0
  HasMeans plus over nought of_count a axis c = AreMeansOf plus over nought of_count a axis (element_at c)

  -- Says that `b` has the elements of `a` at the first coordinate of `axis`.
  abbrev pub BeginsAsIn : ArrayBase S D T A R s d n r t → ℕ → ArrayBase Z E U A X z e k x u → Type 0
  BeginsAsIn a axis b = (i : List ℕ) → slice_index i axis ≡ 0 → element_at b i ≡ element_at a i

module _
    {S D T A R : Type 0} {s : data_trait.Ghosts S A} {d : dimension.Ghosts D R} {n : axis_count.Ghosts D} {r : stride_list.Ghosts R} {t : stride_list.Ghosts T}
    {Z E U C X : Type 0} {z : data_trait.Ghosts Z C} {e : dimension.Ghosts E X} {k : axis_count.Ghosts E} {x : stride_list.Ghosts X} {u : stride_list.Ghosts U} where
  -- Returns the fold of the elements of `a` in row-major order by `h`, from `first` on, each taken from its pair with the
  -- element of `b`, which is broadcast to the shape of `a`.
  abbrev pub folded_with_other : {B : Type 0} → (B → A → B) → B → ArrayBase S D T A R s d n r t → ArrayBase Z E U C X z e k x u → B
  folded_with_other {B} h first a b = fold (λ (total : B) (pair : A × C). h total pair.0) first (row_major_elements (paired_with (meaning_of a) (other_at a b)))

  -- Says that `lanes`, broadcast to the shape of `a`, has at each index the element for the lane along the first axis there.
  abbrev pub SpreadsOverLanes : ArrayBase S D T A R s d n r t → ArrayBase Z E U C X z e k x u → Type 0
  SpreadsOverLanes a lanes = (i : List ℕ) → other_at a lanes i ≡ inside (shape_of a) i (element_at lanes (remove i 0))

module _
    {S D T A R : Type 0} {s : data_trait.Ghosts S A} {d : dimension.Ghosts D R} {n : axis_count.Ghosts D} {r : stride_list.Ghosts R} {t : stride_list.Ghosts T}
    {Z U C : Type 0} {z : data_trait.Ghosts Z C} {u : stride_list.Ghosts U} where
  -- Says that `new` has at each index what `h` gives of the elements that `old` and `part`, which has the same shape,
  -- have there.
  abbrev pub CombinesWithPart : (A → C → A) → ArrayBase S D T A R s d n r t → ArrayBase Z D U C R z d n r u → ArrayBase S D T A R s d n r t → Type 0
  CombinesWithPart h old part new = (i : List ℕ) → element_at new i ≡ option_both h (element_at old i) (element_at part i)
