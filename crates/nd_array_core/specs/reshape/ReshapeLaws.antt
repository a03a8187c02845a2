-- Laws of reshapes and of an array's elements as a list, which speak of shapes and elements alone.
use Rattle.std.specs.Prelude.{ℕ, ◌≡◌, ◌<◌, ◌+◌, ◌*◌, List, [], ◌∷◌, slice_get, IsTrue}
use Rattle.nd_shape_and_slice.specs.ShapesAndIndexOrders.{in_box, row_rank, size_of}
use Rattle.nd_shape_and_slice.specs.declared.shape_builder.Order.{Order}
use Rattle.nd_shape_and_slice.specs.declared.shape_builder.Order.TheVariants.{RowMajor}
use Rattle.nd_elements.specs.ShapeAndElements.{row_major_elements}
use Rattle.nd_array_core.specs.LayoutLaws.{NothingOutside}
use Rattle.nd_elements.specs.ShapeAndElements.{Meaning, inside}
use Rattle.nd_array_core.specs.reshape.ReshapeByRank.{IsShapeOf, regrouped_index}
use Rattle.nd_array_core.specs.reshape.ServingStrides.{regrouped_meaning}

-- Says that a reshape of an array without elements outside its box to a shape of the same size, and the reshape back in
-- the same order, gives the array again.
abbrev pub RegroupedBack : Type 0 → Type 0
RegroupedBack A = (m : Meaning A) (order : Order) (ms : List ℕ) → NothingOutside m → size_of ms ≡ size_of m.shape → regrouped_meaning order m.shape (regrouped_meaning order ms m) ≡ m

-- Says that an array `n`, which has the elements of `m` under another shape `ms` with the same row-major ranks, has the
-- same list of elements in row-major order.
abbrev pub ReshapedKeepsOrder : Type 0 → Type 0
ReshapedKeepsOrder A =
    (m n : Meaning A) (ms : List ℕ) → IsShapeOf m.shape ms → n.shape ≡ ms → ((i : List ℕ) → n.at i ≡ inside ms i (m.at (regrouped_index RowMajor m.shape ms i)))
    → row_major_elements n ≡ row_major_elements m

-- Says that the row-major rank of each index of the shape `ns` is below the number of its elements.
abbrev pub RanksAreBelow : List ℕ → Type 0
RanksAreBelow ns = (i : List ℕ) → IsTrue (in_box ns i) → row_rank ns i < size_of ns

-- Says that the row-major list of the elements of `x` has the element of each index at the row-major rank of the index.
abbrev pub ListsByRank : {A : Type 0} → Meaning A → Type 0
ListsByRank x = (i : List ℕ) → IsTrue (in_box x.shape i) → slice_get (row_major_elements x) (row_rank x.shape i) ≡ x.at i

-- Says that a row-major reshape which makes one axis of the first two has at `[i * m + j, ..]` the element that `x` has
-- at `[i, j, ..]`, where `m` is the length of the second axis.
abbrev pub JoinsFirstAxes : {A : Type 0} → Meaning A → Type 0
JoinsFirstAxes x = (n m : ℕ) (ms : List ℕ) → x.shape ≡ n ∷ m ∷ ms → (i j : ℕ) (is : List ℕ) → IsTrue (in_box x.shape (i ∷ j ∷ is)) → (regrouped_meaning RowMajor (n * m ∷ ms) x).at ((i * m + j) ∷ is) ≡ x.at (i ∷ j ∷ is)

-- Says that a row-major reshape of a table of `m` columns to one axis has at `i * m + j` the element of row `i` and
-- column `j`.
abbrev pub JoinsRows : {A : Type 0} → Meaning A → Type 0
JoinsRows x = (n m : ℕ) → x.shape ≡ n ∷ m ∷ [] → (i j : ℕ) → i < n → j < m → (regrouped_meaning RowMajor (n * m ∷ []) x).at ((i * m + j) ∷ []) ≡ x.at (i ∷ j ∷ [])
