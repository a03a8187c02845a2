-- Tables of floats by their columns: each column over its sum, each column less its mean, and each standardised.
use Rattle.std.specs.Prelude.{ℕ, pos, Some, option_map}
use Rattle.std.specs.List.{fold}
use Rattle.std.specs.Float.{binary64, float_zero, sqrt}
use Rattle.std.specs.Float.Ieee.{Float, add, sub, mul, div, of_int}
use Rattle.nd_array_core.specs.CollectedElements.{collected}
use Rattle.nd_array_core.specs.Prelude.{Table, Line, option_both}

-- The sum of a column: 0, and to it each cell of the column in turn, from the first row on.
abbrev pub sum_of_column : Table Float → ℕ → Float
sum_of_column table column = fold (add binary64) float_zero (collected (λ row. table.cells row column) table.rows)

-- The mean of a column: its sum over the number of rows.
abbrev pub column_mean : Table Float → ℕ → Float
column_mean table column = div binary64 (sum_of_column table column) (of_int binary64 (pos table.rows))

-- The sums of all columns, and their means.
abbrev pub column_sums : Table Float → Line Float
column_sums table = record { count = table.columns; cells = λ column. Some (sum_of_column table column) }

abbrev pub column_means : Table Float → Line Float
column_means table = record { count = table.columns; cells = λ column. Some (column_mean table column) }

-- The table of what an operation gives of each cell and of the number of its column.
abbrev pub with_numbers : (Float → Float → Float) → Line Float → Table Float → Table Float
with_numbers operation numbers table = record { rows = table.rows; columns = table.columns; cells = λ row column. option_both operation (table.cells row column) (numbers.cells column) }

-- The table with each cell over the sum of its column.
abbrev pub normalised : Table Float → Table Float
normalised table = record { rows = table.rows; columns = table.columns; cells = λ row column. option_map (λ x. div binary64 x (sum_of_column table column)) (table.cells row column) }

-- The table with each cell less the mean of its column.
abbrev pub centred : Table Float → Table Float
centred table = record { rows = table.rows; columns = table.columns; cells = λ row column. option_map (λ x. sub binary64 x (column_mean table column)) (table.cells row column) }

-- The standard deviation of a column: the root of the mean of the squares of its cells' distances from its mean.
abbrev pub column_deviation : Table Float → ℕ → Float
column_deviation table column =
    let squares = fold (λ total x. add binary64 total (mul binary64 (sub binary64 x (column_mean table column)) (sub binary64 x (column_mean table column)))) float_zero (collected (λ row. table.cells row column) table.rows) in
    sqrt binary64 (div binary64 squares (of_int binary64 (pos table.rows)))

-- The standard deviations of all columns.
abbrev pub column_deviations : Table Float → Line Float
column_deviations table = record { count = table.columns; cells = λ column. Some (column_deviation table column) }

-- The table with each cell less the mean of its column, over the standard deviation of its column.
abbrev pub standardised : Table Float → Table Float
standardised table = record { rows = table.rows; columns = table.columns; cells = λ row column. option_map (λ x. div binary64 (sub binary64 x (column_mean table column)) (column_deviation table column)) (table.cells row column) }
