-- Tables and lines, which arrays of two axes and of one axis show, and the steps that make one from another. A table
-- has rows and columns of cells, and a line has cells one after another. Rows count downwards from 0, and columns to
-- the right. What a table's cells are beyond its rows and columns is left open: an array has no element there.
use Rattle.std.specs.Prelude.{◌≡◌, ◌<◌, ◌≤◌, ◌+◌, ◌-◌, ◌*◌, ◌/◌, ◌&&◌, ℕ, nat_eq, nat_lt, min, List, [], ◌∷◌, length, slice_index, slice_get, Option, Some, option_map, if◌then◌else◌}
use Rattle.nd_shape_and_slice.specs.declared.dimension.Dimension as dimension
use Rattle.nd_shape_and_slice.specs.declared.dimension.AxisCount as axis_count
use Rattle.nd_shape_and_slice.specs.declared.dimension.StrideList as stride_list
use Rattle.nd_elements.specs.declared.storage.Data as data_trait
use Rattle.nd_array_core.specs.declared.base.array.ArrayBase.{ArrayBase}
use Rattle.nd_array_core.specs.ArrayMeaning.{shape_of}
use Rattle.nd_array_core.specs.ElementsByCoordinates.{element_of_1, element_of_2, element_of_3, HasLength, HasRowsAndColumns}

-- A table has a number of rows, a number of columns, and a cell at each row and column.
pub record Table (A : Type 0) : Type 0 where
  pub rows : ℕ
  pub columns : ℕ
  pub cells : ℕ → ℕ → Option A

-- A line has a number of cells, and each cell by its number.
pub record Line (A : Type 0) : Type 0 where
  pub count : ℕ
  pub cells : ℕ → Option A

-- ---- Arrays as tables and lines.
module _ {S D T A R : Type 0} {s : data_trait.Ghosts S A} {d : dimension.Ghosts D R} {n : axis_count.Ghosts D} {r : stride_list.Ghosts R} {t : stride_list.Ghosts T} where
  -- Returns the number of rows of an array of two axes.
  abbrev pub rows_of : ArrayBase S D T A R s d n r t → ℕ
  rows_of a = slice_index (shape_of a) 0

  -- Returns the number of columns of an array of two axes.
  abbrev pub columns_of : ArrayBase S D T A R s d n r t → ℕ
  columns_of a = slice_index (shape_of a) 1

  -- Returns the table that an array of two axes shows.
  abbrev pub table_of : ArrayBase S D T A R s d n r t → Table A
  table_of a = record { rows = slice_index (shape_of a) 0; columns = slice_index (shape_of a) 1; cells = λ row column. element_of_2 a row column }

  -- Returns the line that an array of one axis shows.
  abbrev pub line_of : ArrayBase S D T A R s d n r t → Line A
  line_of a = record { count = slice_index (shape_of a) 0; cells = λ k. element_of_1 a k }

  -- Returns the table at the coordinate `k` of the third axis of an array of three axes, such as a channel of an image.
  abbrev pub channel_of : ℕ → ArrayBase S D T A R s d n r t → Table A
  channel_of k a = record { rows = slice_index (shape_of a) 0; columns = slice_index (shape_of a) 1; cells = λ row column. element_of_3 a row column k }

  -- Returns the table at the coordinate `k` of the first axis of an array of three axes, such as a page of a book.
  abbrev pub page_of : ℕ → ArrayBase S D T A R s d n r t → Table A
  page_of k a = record { rows = slice_index (shape_of a) 1; columns = slice_index (shape_of a) 2; cells = λ row column. element_of_3 a k row column }

  -- Says that the array has the table's cell at each row and column of the table.
  abbrev pub HasCellsOf : ArrayBase S D T A R s d n r t → Table A → Type 0
  HasCellsOf a table = (row column : ℕ) → row < table.rows → column < table.columns → element_of_2 a row column ≡ table.cells row column

  -- Says that the array has as many rows and columns as the table, and the table's cell at each of them.
  abbrev pub ShowsTable : ArrayBase S D T A R s d n r t → Table A → Type 0
  ShowsTable a table = HasRowsAndColumns a table.rows table.columns × HasCellsOf a table

  -- Says that `new` has `count` more rows than `old`, and as many columns.
  abbrev pub HasMoreRows : ℕ → ArrayBase S D T A R s d n r t → ArrayBase S D T A R s d n r t → Type 0
  HasMoreRows count old new = HasRowsAndColumns new (rows_of old + count) (columns_of old)

  -- Says that the array is as long as the line, and has its cells.
  abbrev pub ShowsLine : ArrayBase S D T A R s d n r t → Line A → Type 0
  ShowsLine a line = HasLength a line.count × ((k : ℕ) → k < line.count → element_of_1 a k ≡ line.cells k)

module _
    {S D A T R : Type 0} {s : data_trait.Ghosts S A} {d : dimension.Ghosts D R} {n : axis_count.Ghosts D} {r : stride_list.Ghosts R} {t : stride_list.Ghosts T}
    {Z E U X : Type 0} {z : data_trait.Ghosts Z A} {e : dimension.Ghosts E X} {k : axis_count.Ghosts E} {x : stride_list.Ghosts X} {u : stride_list.Ghosts U} where
  -- Says that the rows of `new` after as many rows as `old` has are the arrays of the list `lines`, in their order, at
  -- each column of `old`.
  abbrev pub HasRowsBelow : ArrayBase S D T A R s d n r t → ArrayBase S D T A R s d n r t → List (ArrayBase Z E U A X z e k x u) → Type 0
  HasRowsBelow old new lines = (nth column : ℕ) (line : ArrayBase Z E U A X z e k x u) → slice_get lines nth ≡ Some line → column < slice_index (shape_of old) 1 → element_of_2 new (slice_index (shape_of old) 0 + nth) column ≡ element_of_1 line column

module _ {A : Type 0} where
  -- Says that both tables have as many rows and columns, and the same cell at each row and column.
  abbrev pub SameTable : Table A → Table A → Type 0
  SameTable one other = (one.rows ≡ other.rows) × (one.columns ≡ other.columns) × ((row column : ℕ) → row < one.rows → column < one.columns → one.cells row column ≡ other.cells row column)

  -- ---- New tables.
  -- Returns the table whose cell at each row and column is what the function `cell` gives of them.
  abbrev pub table_of_cells : ℕ → ℕ → (ℕ → ℕ → A) → Table A
  table_of_cells rows columns cell = record { rows = rows; columns = columns; cells = λ row column. Some (cell row column) }

  -- Returns the table whose cells are the elements of the list `xs`, row by row.
  abbrev pub table_of_list : ℕ → ℕ → List A → Table A
  table_of_list rows columns xs = record { rows = rows; columns = columns; cells = λ row column. slice_get xs (row * columns + column) }

  -- ---- Parts of tables and of lines.
  -- Returns the part of `height` rows and `width` columns that begins at the row `top` and the column `left`.
  abbrev pub cropped : ℕ → ℕ → ℕ → ℕ → Table A → Table A
  cropped top left height width table = record { rows = height; columns = width; cells = λ row column. table.cells (top + row) (left + column) }

  -- Returns every `k`-th row, from the first one on.
  abbrev pub every_row : ℕ → Table A → Table A
  every_row k table = record { rows = (table.rows + (k - 1)) / k; columns = table.columns; cells = λ row column. table.cells (row * k) column }

  -- Returns every `k`-th column, from the first one on.
  abbrev pub every_column : ℕ → Table A → Table A
  every_column k table = record { rows = table.rows; columns = (table.columns + (k - 1)) / k; cells = λ row column. table.cells row (column * k) }

  -- Returns the row `k` as a line.
  abbrev pub row_of : ℕ → Table A → Line A
  row_of k table = record { count = table.columns; cells = λ column. table.cells k column }

  -- Returns the column `k` as a line.
  abbrev pub column_of : ℕ → Table A → Line A
  column_of k table = record { count = table.rows; cells = λ row. table.cells row k }

  -- Returns the diagonal as a line, from the first cell on.
  abbrev pub diagonal_of : Table A → Line A
  diagonal_of table = record { count = min table.rows table.columns; cells = λ k. table.cells k k }

  -- Returns `count` cells of a line, beginning with the cell `from`.
  abbrev pub line_part : ℕ → ℕ → Line A → Line A
  line_part from count line = record { count = count; cells = λ k. line.cells (from + k) }

  -- ---- Tables turned and mirrored.
  -- Returns the table turned by a half turn.
  abbrev pub turned_half : Table A → Table A
  turned_half table = record { rows = table.rows; columns = table.columns; cells = λ row column. table.cells (table.rows - 1 - row) (table.columns - 1 - column) }

  -- Returns the table turned by a quarter turn clockwise, so that the bottom row becomes the leftmost column.
  abbrev pub turned_quarter : Table A → Table A
  turned_quarter table = record { rows = table.columns; columns = table.rows; cells = λ row column. table.cells (table.rows - 1 - column) row }

  -- Returns the table turned upside down, so that the top row becomes the bottom row.
  abbrev pub flipped : Table A → Table A
  flipped table = record { rows = table.rows; columns = table.columns; cells = λ row column. table.cells (table.rows - 1 - row) column }

  -- Returns the table mirrored, so that the leftmost column becomes the rightmost column.
  abbrev pub mirrored : Table A → Table A
  mirrored table = record { rows = table.rows; columns = table.columns; cells = λ row column. table.cells row (table.columns - 1 - column) }

  -- Returns the table whose rows are the columns of `table`.
  abbrev pub transposed : Table A → Table A
  transposed table = record { rows = table.columns; columns = table.rows; cells = λ row column. table.cells column row }

  -- ---- Tables joined.
  -- Returns the table with the rows of `other` below its own.
  abbrev pub joined_below : Table A → Table A → Table A
  joined_below table other = record { rows = table.rows + other.rows; columns = table.columns; cells = λ row column. if nat_lt row table.rows then table.cells row column else other.cells (row - table.rows) column }

  -- Returns the table with the columns of `other` to the right of its own.
  abbrev pub joined_right : Table A → Table A → Table A
  joined_right table other = record { rows = table.rows; columns = table.columns + other.columns; cells = λ row column. if nat_lt column table.columns then table.cells row column else other.cells row (column - table.columns) }

  -- Returns the table with `line` as one more row at the bottom.
  abbrev pub with_row_below : Line A → Table A → Table A
  with_row_below line table = record { rows = table.rows + 1; columns = table.columns; cells = λ row column. if nat_lt row table.rows then table.cells row column else line.cells column }

  -- Returns the table with `line` as one more column at the right.
  abbrev pub with_column_right : Line A → Table A → Table A
  with_column_right line table = record { rows = table.rows; columns = table.columns + 1; cells = λ row column. if nat_lt column table.columns then table.cells row column else line.cells row }

  -- ---- Rows and columns chosen or taken out.
  -- Returns the rows that have these numbers, in the order of the list.
  abbrev pub chosen_rows : List ℕ → Table A → Table A
  chosen_rows numbers table = record { rows = length numbers; columns = table.columns; cells = λ row column. table.cells (slice_index numbers row) column }

  -- Returns the columns that have these numbers, in the order of the list.
  abbrev pub chosen_columns : List ℕ → Table A → Table A
  chosen_columns numbers table = record { rows = table.rows; columns = length numbers; cells = λ row column. table.cells row (slice_index numbers column) }

  -- Returns the table without the row `k`. The rows below it move up by one.
  abbrev pub without_row : ℕ → Table A → Table A
  without_row k table = record { rows = table.rows - 1; columns = table.columns; cells = λ row column. if nat_lt row k then table.cells row column else table.cells (row + 1) column }

  -- ---- Cells, rows and columns written.
  -- Returns the table with the cell `x` at the row `k` and the column `l`.
  abbrev pub with_cell : ℕ → ℕ → A → Table A → Table A
  with_cell k l x table = record { rows = table.rows; columns = table.columns; cells = λ row column. if nat_eq row k && nat_eq column l then Some x else table.cells row column }

  -- Returns the table with `line` as its row `k`.
  abbrev pub with_row : ℕ → Line A → Table A → Table A
  with_row k line table = record { rows = table.rows; columns = table.columns; cells = λ row column. if nat_eq row k then line.cells column else table.cells row column }

  -- Returns the table with `line` as its column `k`.
  abbrev pub with_column : ℕ → Line A → Table A → Table A
  with_column k line table = record { rows = table.rows; columns = table.columns; cells = λ row column. if nat_eq column k then line.cells row else table.cells row column }

  -- Returns the table with the rows `first` and `second` exchanged.
  abbrev pub with_rows_exchanged : ℕ → ℕ → Table A → Table A
  with_rows_exchanged first second table = record { rows = table.rows; columns = table.columns; cells = λ row column. table.cells (if nat_eq row first then second else (if nat_eq row second then first else row)) column }

  -- ---- Rectangles of `height` rows and `width` columns, which begin at the row `top` and the column `left`.
  -- Says that each cell of the rectangle is `x`.
  abbrev pub HasRectangle : ℕ → ℕ → ℕ → ℕ → A → Table A → Type 0
  HasRectangle top left height width x table = (row column : ℕ) → top ≤ row → row < top + height → left ≤ column → column < left + width → table.cells row column ≡ Some x

  -- Says that the cells of `table` from the row `top` and the column `left` on are those of the table `patch`, in as
  -- many rows and columns as `patch` has.
  abbrev pub HasPatch : ℕ → ℕ → Table A → Table A → Type 0
  HasPatch top left patch table = (row column : ℕ) → top ≤ row → row < top + patch.rows → left ≤ column → column < left + patch.columns → table.cells row column ≡ patch.cells (row - top) (column - left)

  -- Says that each cell of the rectangle in `new` is what the function `f` gives of the cell in `old`.
  abbrev pub MapsRectangle : ℕ → ℕ → ℕ → ℕ → (A → A) → Table A → Table A → Type 0
  MapsRectangle top left height width f old new = (row column : ℕ) → top ≤ row → row < top + height → left ≤ column → column < left + width → new.cells row column ≡ option_map f (old.cells row column)

  -- Says that each cell above, below, to the left or to the right of the rectangle is the same in `new` as in `old`.
  abbrev pub SameAround : ℕ → ℕ → ℕ → ℕ → Table A → Table A → Type 0
  SameAround top left height width old new =
      ((row column : ℕ) → row < top → new.cells row column ≡ old.cells row column)
      × ((row column : ℕ) → top + height ≤ row → new.cells row column ≡ old.cells row column)
      × ((row column : ℕ) → column < left → new.cells row column ≡ old.cells row column)
      × ((row column : ℕ) → left + width ≤ column → new.cells row column ≡ old.cells row column)

  -- Says that each cell around the rectangle that has the size of `patch`, and begins at the row `top` and the column
  -- `left`, is the same in `new` as in `old`.
  abbrev pub SameAroundPatch : ℕ → ℕ → Table A → Table A → Table A → Type 0
  SameAroundPatch top left patch old new = SameAround top left patch.rows patch.columns old new

  -- Says that each row but the row `k` is the same in `new` as in `old`.
  abbrev pub SameOtherRows : ℕ → Table A → Table A → Type 0
  SameOtherRows k old new = (row column : ℕ) → ¬ (row ≡ k) → new.cells row column ≡ old.cells row column

-- Returns the table whose cells are what the function `f` gives of the cells of `table`.
abbrev pub mapped : {A B : Type 0} → (A → B) → Table A → Table B
mapped f table = record { rows = table.rows; columns = table.columns; cells = λ row column. option_map f (table.cells row column) }
