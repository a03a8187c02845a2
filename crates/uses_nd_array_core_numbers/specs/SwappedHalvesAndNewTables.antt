-- Tables with exchanged halves, products of two lists, and tables with 0 below the diagonal.
use Rattle.std.specs.Prelude.{◌≡◌, ◌<◌, ◌+◌, ◌*◌, ◌%◌, ◌^◌, ℕ, ℤ, nat_lt, List, Some, if◌then◌else◌, IsTrue}
use Rattle.nd_array_core.specs.declared.scoped.with_view_mut.LentView.{LentView}
use Rattle.nd_array_core.specs.ArrayInStorage.{PlacedArray}
use Rattle.nd_array_core.specs.Prelude.{Meaning, Table, Line, table_of_cells, value_or_0, in_box, lower_shape, upper_shape, upper_index, element_placed, lent_view, view_frame, IsShown}

-- ---- The two halves of each row.
module _ {A : Type 0} where
  -- Says that the first `half` columns of `new` are the next `half` columns of `old`.
  abbrev pub LeftIsRight : ℕ → Table A → Table A → Type 0
  LeftIsRight half old new = (row column : ℕ) → row < old.rows → column < half → new.cells row column ≡ old.cells row (half + column)

  -- Says that, after the first `half` columns of `new`, the next ones are the first `half` columns of `old`.
  abbrev pub RightIsLeft : ℕ → Table A → Table A → Type 0
  RightIsLeft half old new = (row column : ℕ) → row < old.rows → column < half → new.cells row (half + column) ≡ old.cells row column

  -- Says that `new` has at each coordinate of `axis` below `k` what `old` has at the coordinate greater by `k`.
  abbrev pub LowerIsUpper : ℕ → ℕ → Meaning A → Meaning A → Type 0
  LowerIsUpper axis k old new = (i : List ℕ) → IsTrue (in_box (lower_shape old.shape axis k) i) → new.at i ≡ old.at (upper_index axis k i)

  -- Says that `old` has at each coordinate of `axis` below `k` what `new` has at the coordinate greater by `k`.
  abbrev pub UpperIsLower : ℕ → ℕ → Meaning A → Meaning A → Type 0
  UpperIsLower axis k old new = (i : List ℕ) → IsTrue (in_box (lower_shape old.shape axis k) i) → new.at (upper_index axis k i) ≡ old.at i

  -- Says that the parts of `m` at the coordinates of `axis` below `k` and from `k` on have the same shape.
  abbrev pub AreHalves : ℕ → ℕ → Meaning A → Type 0
  AreHalves axis k m = lower_shape m.shape axis k ≡ upper_shape m.shape axis k

  -- Says that two views, `v0` and `v1` before, are `w0` and `w1` afterwards, each with the elements of the other.
  abbrev pub HaveExchangedElements : PlacedArray A → PlacedArray A → PlacedArray A → PlacedArray A → Type 0
  HaveExchangedElements v0 v1 w0 w1 = ((i : List ℕ) → element_placed w0 i ≡ element_placed v1 i) × ((i : List ℕ) → element_placed w1 i ≡ element_placed v0 i)

-- Returns the type of the argument of a function.
abbrev pub InputOf : {X Y : Type 0} → (X → Y) → Type 0
InputOf {X = X} f = X

-- Returns the type of the storage that a task gives back.
abbrev pub StorageBack : Type 0 → Type 0
StorageBack A = InputOf (view_frame {A = A})

-- Says that the lent view `one`, with its elements given back as `back`, shows what the lent view `other` did.
abbrev pub ShowsOther : {A V W : Type 0} → (V → List ℕ) → (W → List ℤ) → LentView A V W → StorageBack A → LentView A V W → Type 0
ShowsOther lengths strides one back other = IsShown lengths strides (element_placed (lent_view lengths strides other)) one back

-- ---- Tables computed from the index.
-- Returns the number of `down` at `row` times the number of `across` at `column`, wrapped to 64 bits.
abbrev pub product_at : Line ℕ → Line ℕ → ℕ → ℕ → ℕ
product_at down across row column = value_or_0 (down.cells row) * value_or_0 (across.cells column) % 2 ^ 64

-- Returns the table of the wrapping products of each number of `down` with each number of `across`.
abbrev pub products_of : Line ℕ → Line ℕ → Table ℕ
products_of down across = table_of_cells down.count across.count (product_at down across)

-- Returns the number of the table at a row and a column, and 0 below the diagonal.
abbrev pub upper_cell : Table ℕ → ℕ → ℕ → ℕ
upper_cell table row column = if nat_lt column row then 0 else value_or_0 (table.cells row column)

-- Returns the table with 0 below the diagonal, computed cell by cell.
abbrev pub upper_cells_of : Table ℕ → Table ℕ
upper_cells_of table = table_of_cells table.rows table.columns (upper_cell table)

-- Returns the table with 0 below the diagonal, and its own cells elsewhere.
abbrev pub upper_triangle_of : Table ℕ → Table ℕ
upper_triangle_of table = record { rows = table.rows; columns = table.columns; cells = λ row column. if nat_lt column row then Some 0 else table.cells row column }
