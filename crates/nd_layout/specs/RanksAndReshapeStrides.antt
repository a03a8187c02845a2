-- The indexes of a shape by their ranks, and what it means that strides serve another shape.
use Rattle.std.specs.Prelude.{ℕ, ◌-◌, ◌*◌, ◌/◌, ◌%◌, ◌<◌, ◌≡◌, List, [], ◌∷◌, ◌++◌, length, reverse, ℤ, pos, ◌+ℤ◌, ◌*ℤ◌, IsTrue}
use Rattle.nd_shape_and_slice.specs.ShapesAndIndexOrders.{in_box, size_of, row_rank, column_rank, index_at}
use Rattle.nd_shape_and_slice.specs.PlacesAndOverlaps.{displacement_of, span_of, IsSeparated}
use Rattle.nd_shape_and_slice.specs.declared.shape_builder.Order.{Order}
use Rattle.nd_shape_and_slice.specs.declared.shape_builder.Order.TheVariants.{RowMajor, ColumnMajor}

-- Returns the rank of an index in an order.
abbrev pub rank_in : Order → List ℕ → List ℕ → ℕ
rank_in RowMajor ns i = row_rank ns i
rank_in ColumnMajor ns i = column_rank ns i

-- Returns the index of a column-major rank.
abbrev pub column_index : List ℕ → ℕ → List ℕ
column_index [] rank = []
column_index (n ∷ ns) rank = (rank % n) ∷ column_index ns (rank / n)

-- Returns the index of a rank in an order.
abbrev pub index_in : Order → List ℕ → ℕ → List ℕ
index_in RowMajor ns rank = index_at ns rank
index_in ColumnMajor ns rank = column_index ns rank

-- Says that the strides `ts` serve the lengths `new` over a layout of these lengths and strides: each new index lies
-- where the old index of equal rank lies, from the same offset. Any integers may serve.
pub record Serves (order : Order) (lengths : List ℕ) (strides : List ℤ) (new : List ℕ) (ts : List ℤ) : Type 0 where
  pub as_many : length ts ≡ length new
  pub same_displacement : (i j : List ℕ) → IsTrue (in_box lengths i) → IsTrue (in_box new j) → rank_in order lengths i ≡ rank_in order new j → displacement_of ts j ≡ displacement_of strides i

-- Says that the layout is standard: each index lies at its row-major rank from the offset.
abbrev pub IsStandard : List ℕ → List ℤ → Type 0
IsStandard ns ss = (i : List ℕ) → IsTrue (in_box ns i) → displacement_of ss i ≡ pos (row_rank ns i)

-- Says that the places are a run: the displacements of all indexes are as many consecutive integers as there are
-- indexes, each once.
pub record IsRun (ns : List ℕ) (ss : List ℤ) : Type 0 where
  pub low : ℤ
  pub within : (i : List ℕ) → IsTrue (in_box ns i) → (k : ℕ) × (k < size_of ns) × (displacement_of ss i ≡ low +ℤ pos k)
  pub each : (k : ℕ) → k < size_of ns → (i : List ℕ) × IsTrue (in_box ns i) × (displacement_of ss i ≡ low +ℤ pos k)
  pub once : (i j : List ℕ) → IsTrue (in_box ns i) → IsTrue (in_box ns j) → displacement_of ss i ≡ displacement_of ss j → i ≡ j

-- Returns a list with one item for each axis, reordered so that the fastest axis comes first.
abbrev pub fastest_first : {X : Type 0} → Order → List X → List X
fastest_first RowMajor xs = reverse xs
fastest_first ColumnMajor xs = xs

-- Returns which of `n` axes is the k-th fastest, counted from 0.
abbrev pub axis_in : Order → ℕ → ℕ → ℕ
axis_in RowMajor n k = n - 1 - k
axis_in ColumnMajor n k = k

-- Returns a list with one item for each axis, reordered so that the slowest axis comes first.
abbrev pub slowest_first : {X : Type 0} → Order → List X → List X
slowest_first RowMajor xs = xs
slowest_first ColumnMajor xs = reverse xs

-- Returns which of `n` axes is the k-th slowest, counted from 0.
abbrev pub slow_axis_in : Order → ℕ → ℕ → ℕ
slow_axis_in RowMajor n k = k
slow_axis_in ColumnMajor n k = n - 1 - k

-- Returns the displacement of the index of column-major rank `r`.
abbrev pub at_rank : List ℕ → List ℤ → ℕ → ℤ
at_rank [] ss r = pos 0
at_rank (n ∷ ns) [] r = pos 0
at_rank (n ∷ ns) (s ∷ ss) r = (pos (r % n) *ℤ s) +ℤ at_rank ns ss (r / n)

-- Says that under the strides `ts` the index of each column-major rank has the displacement that it has in the
-- layout.
pub record ServesRanks (ns : List ℕ) (ss : List ℤ) (ms : List ℕ) (ts : List ℤ) : Type 0 where
  pub as_many : length ts ≡ length ms
  pub same : (r : ℕ) → r < size_of ms → at_rank ms ts r ≡ at_rank ns ss r

-- Says that the second list of axes is the first one regrouped: each rank has the same displacement, the size and the
-- span are the same, and the strides are separated if the first ones were, whatever axes stand before.
pub record Regroups (ns : List ℕ) (ss : List ℤ) (ms : List ℕ) (ts : List ℤ) : Type 0 where
  pub as_many : length ts ≡ length ms
  pub same : (r : ℕ) → at_rank ms ts r ≡ at_rank ns ss r
  pub size : size_of ms ≡ size_of ns
  pub span : span_of ms ts ≡ span_of ns ss
  pub apart : (es : List ℕ) (fs : List ℤ) → length fs ≡ length es → IsSeparated (es ++ ns) (fs ++ ss) → IsSeparated (es ++ ms) (fs ++ ts)

-- Says that the index of each column-major rank r has the displacement `p` times r.
abbrev pub StepsBy : ℕ → List ℕ → List ℤ → Type 0
StepsBy p ns ss = (r : ℕ) → r < size_of ns → at_rank ns ss r ≡ pos (p * r)
