-- What the cells of tables are: numbers, cells with neighbours, products, means of neighbours.
use Rattle.std.specs.Prelude.{ℕ, ◌<◌, ◌≤◌, ◌+◌, ◌-◌, ◌*◌, ◌/◌, ◌%◌, ◌^◌, min, Option}
use Rattle.nd_array_core.specs.Prelude.{Table, table_of_cells}
use Rattle.nd_array_core.specs.SumsCountsAndExtrema.{sum_below, value_or_0}

-- Returns the number in a cell, or 0 if there is none.
abbrev pub cell_or_0 : Table ℕ → ℕ → ℕ → ℕ
cell_or_0 table row column = value_or_0 (table.cells row column)

-- Says that the cell has others around it on all sides.
abbrev pub HasNeighbours : {A : Type 0} → Table A → ℕ → ℕ → Type 0
HasNeighbours table row column = (1 ≤ row) × (row + 1 < table.rows) × (1 ≤ column) × (column + 1 < table.columns)

-- Returns the sum of the products of a row's first `n` elements and a column's.
abbrev pub row_times_column : (ℕ → ℕ → Option ℕ) → (ℕ → ℕ → Option ℕ) → ℕ → ℕ → ℕ → ℕ
row_times_column one other n row column = sum_below (λ k. value_or_0 (one row k) * value_or_0 (other k column)) n

-- Returns a cell of the product of two tables, modulo 2 to the 64th.
abbrev pub product_cell : Table ℕ → Table ℕ → ℕ → ℕ → ℕ
product_cell one other row column = row_times_column one.cells other.cells one.columns row column % 2 ^ 64

-- Returns the product of two tables, modulo 2 to the 64th.
abbrev pub product_of : Table ℕ → Table ℕ → Table ℕ
product_of one other = table_of_cells one.rows other.columns (product_cell one other)

-- Returns the sum of a pixel of a row, the one before it and the one after it. The pixel itself stands for one that
-- isn't there.
abbrev pub three_of : Table ℕ → ℕ → ℕ → ℕ
three_of table row column = cell_or_0 table row (column - 1) + cell_or_0 table row column + cell_or_0 table row (min (column + 1) (table.columns - 1))

-- Returns the mean of the nine pixels around one, rounded down. The nearest pixel stands for one that isn't there.
abbrev pub mean_around : Table ℕ → ℕ → ℕ → ℕ
mean_around table row column = (three_of table (row - 1) column + three_of table row column + three_of table (min (row + 1) (table.rows - 1)) column) / 9

-- Returns the table of the means of the nine pixels around each.
abbrev pub means_of : Table ℕ → Table ℕ
means_of table = table_of_cells table.rows table.columns (mean_around table)
