-- A step of heat on a grid of floats, cell by cell.
use Rattle.std.specs.Prelude.{◌+◌, ◌-◌, ◌&&◌, ℕ, Bool, List, [], ◌∷◌, nat_lt, if◌then◌else◌}
use Rattle.std.specs.Option.{unwrap_or}
use Rattle.std.specs.Float.{binary64, float_zero}
use Rattle.std.specs.Float.Ieee.{Float, add, sub, mul}
use Rattle.nd_array_core.specs.Prelude.{Table}

-- Returns whether a row or a column `k` is neither the first nor the last of `count`.
abbrev pub is_inner : ℕ → ℕ → Bool
is_inner count k = nat_lt 0 k && nat_lt k (count - 1)

-- Returns the number of the grid at a row and a column, and 0 outside of it.
abbrev pub heat_of : Table Float → ℕ → ℕ → Float
heat_of grid row column = unwrap_or (grid.cells row column) float_zero

-- Returns the number of the grid at row `i` and column `j` less the one at `row` and `column`.
abbrev pub difference_to : Table Float → ℕ → ℕ → ℕ → ℕ → Float
difference_to grid row column i j = sub binary64 (heat_of grid i j) (heat_of grid row column)

-- Returns the sum of the differences of the cells above, below, left and right of a cell from it.
abbrev pub differences_to_neighbours : Table Float → ℕ → ℕ → Float
differences_to_neighbours grid row column =
    add binary64 (add binary64 (add binary64 (difference_to grid row column (row - 1) column) (difference_to grid row column (row + 1) column)) (difference_to grid row column row (column - 1))) (difference_to grid row column row (column + 1))

-- Returns the number of a cell after a step: what it was at the edge, and otherwise with `rate` times the sum of its
-- differences from its neighbours added.
abbrev pub heat_after : Table Float → Float → ℕ → ℕ → Float
heat_after grid rate row column =
    if is_inner grid.rows row && is_inner grid.columns column then add binary64 (heat_of grid row column) (mul binary64 rate (differences_to_neighbours grid row column))
    else heat_of grid row column

-- Returns the number of the cell at an index of two coordinates after a step, whatever number stands there now.
abbrev pub warmed_at : Table Float → Float → List ℕ → Float → Float
warmed_at grid rate (row ∷ column ∷ []) x = heat_after grid rate row column
warmed_at grid rate index x = x
