-- Tables whose cells tell their row and column, tables of one element or one row, tables of lists, and tables that grow.
use Rattle.std.specs.Prelude.{◌≡◌, ◌<◌, ℕ, ◌+◌, ◌*◌, ◌↔◌, List, [], ◌∷◌, length, slice_get, slice_index, nat_eq, Option, None, Some, if◌then◌else◌}
use Rattle.std.specs.Borrow.{Bor}
use Rattle.std.specs.Option.{option_and_then}
use Rattle.nd_array_core.specs.declared.base.array.ArrayBase.{ArrayBase}
use Rattle.nd_array_core.specs.Prelude.{Meaning, Table, Line, shape_of, inside, RowMajor, regrouped_index, size_of, StridesServe, table_of, table_of_cells, chosen_columns, joined_right, vec_refusal_for, ErrorKind}

-- Returns the number of an index: ten times its row, and its column.
abbrev pub number_at : List ℕ → ℕ
number_at i = slice_index i 0 * 10 + slice_index i 1

-- Says that each index of so many rows and columns has its number.
abbrev pub ShowsNumbers : ℕ → ℕ → (List ℕ → Option ℕ) → Type 0
ShowsNumbers rows columns at = (i : List ℕ) → at i ≡ inside (rows ∷ columns ∷ []) i (Some (number_at i))

-- Returns the table that has 1 on the diagonal, and 0 elsewhere.
abbrev pub identity_table : ℕ → Table ℕ
identity_table n = table_of_cells n n (λ row column. if nat_eq row column then 1 else 0)

-- Says that, in the first `n` rows and columns, 1 stands on the diagonal and nowhere else.
abbrev pub IsOneOnDiagonal : ℕ → (ℕ → ℕ → Option ℕ) → Type 0
IsOneOnDiagonal n at = (row column : ℕ) → row < n → column < n → (at row column ≡ Some 1) ↔ (row ≡ column)

-- Returns why a list of so many elements can't be a table of so many rows and columns, if it can't.
abbrev pub cells_refusal : ℕ → ℕ → ℕ → Option ErrorKind
cells_refusal rows columns count = vec_refusal_for (rows ∷ columns ∷ [], RowMajor, None) count

module _ {A : Type 0} where
  -- Says that the line is the row of number `k`.
  abbrev pub HasRow : ℕ → Line A → Table A → Type 0
  HasRow k line table = (column : ℕ) → column < table.columns → table.cells k column ≡ line.cells column

  -- Says that the line is the row after the old table's last one.
  abbrev pub GetsLine : Line A → Table A → Table A → Type 0
  GetsLine line old new = (column : ℕ) → column < old.columns → new.cells old.rows column ≡ line.cells column

  -- Says that each row of the old table but the first has moved up by one.
  abbrev pub MovesUp : Table A → Table A → Type 0
  MovesUp old new = (row column : ℕ) → row + 1 < old.rows → column < old.columns → new.cells row column ≡ old.cells (row + 1) column

  -- Says that the line stands in the place of the old table's last row.
  abbrev pub HasLastRow : Line A → Table A → (ℕ → ℕ → Option A) → Type 0
  HasLastRow line old new = (row column : ℕ) → row + 1 ≡ old.rows → column < old.columns → new row column ≡ line.cells column

  -- To the right of a table stand those columns of another that have these numbers, one after the other.
  abbrev pub with_chosen : List ℕ → Table A → Table A → Table A
  with_chosen numbers source table = joined_right table (chosen_columns numbers source)

  module _ {S D T R : Type 0} {s : _} {d : _} {n : _} {r : _} {t : _} where
    -- To the right of a table stand two arrays of two axes, one after the other.
    abbrev pub with_two_tables : ArrayBase S D T A R s d n r t → ArrayBase S D T A R s d n r t → Table A → Table A
    with_two_tables first second table = joined_right (joined_right table (table_of first)) (table_of second)

  -- Returns the table whose cells are all the given one.
  abbrev pub repeated : ℕ → ℕ → Option A → Table A
  repeated rows columns cell = record { rows = rows; columns = columns; cells = λ row column. cell }

  -- Returns the table whose rows are all the given list.
  abbrev pub row_repeated_of : ℕ → List A → Table A
  row_repeated_of rows xs = record { rows = rows; columns = length xs; cells = λ row column. slice_get xs column }

  -- Says that `at` has the rows of the table one after the other.
  abbrev pub IsRowByRow : Table A → (ℕ → Option A) → Type 0
  IsRowByRow table at = (row column : ℕ) → row < table.rows → column < table.columns → at (row * table.columns + column) ≡ table.cells row column

  -- Says that `new` has the elements of the array in the same row-major order under the shape `ns`.
  abbrev pub IsRegrouped : Meaning A → List ℕ → (List ℕ → Option A) → Type 0
  IsRegrouped m ns new = (i : List ℕ) → new i ≡ inside ns i (m.at (regrouped_index RowMajor m.shape ns i))

  module _ {S D T R : Type 0} {s : _} {d : _} {n : _} {r : _} {t : _} where
    -- Says that some strides serve for all elements of the array in one line.
    abbrev pub ServesAsLine : ArrayBase S D T A R s d n r t → Type 0
    ServesAsLine a = StridesServe a RowMajor (size_of (shape_of a) ∷ [])

  -- Says that `x` is the element of this row-major rank, if there is one.
  abbrev pub IsInLine : Meaning A → ℕ → Option A → Type 0
  IsInLine m rank x = rank < size_of m.shape → x ≡ m.at (regrouped_index RowMajor m.shape (size_of m.shape ∷ []) (rank ∷ []))

-- ---- Tables whose rows are given as lists.
module _ {A : Type 0} where
  -- Returns the table that has the items of each list as a row.
  abbrev pub table_of_lists : ℕ → List (Bor (List A)) → Table A
  table_of_lists columns lists = record { rows = length lists; columns = columns; cells = λ row column. option_and_then (λ list. slice_get list.now column) (slice_get lists row) }

  -- Says that `new` has the items of the list as the row after the last one of `old`.
  abbrev pub GetsList : List A → Table A → Table A → Type 0
  GetsList list old new = (column : ℕ) → column < old.columns → new.cells old.rows column ≡ slice_get list column

  -- Says that each list has the length `columns`.
  abbrev pub HaveWidth : ℕ → List (Bor (List A)) → Type 0
  HaveWidth columns lists = (nth : ℕ) (list : Bor (List A)) → slice_get lists nth ≡ Some list → length list.now ≡ columns
