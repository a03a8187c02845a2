-- Points and centres as the rows of two tables of floats, and the squares of their differences.
use Rattle.std.specs.Prelude.{ℕ, List, [], ◌∷◌}
use Rattle.std.specs.Option.{unwrap_or}
use Rattle.std.specs.Float.{binary64, float_zero}
use Rattle.std.specs.Float.Ieee.{Float, sub, mul}
use Rattle.nd_array_core.specs.Prelude.{Table}

-- Returns the number of a table at a row and a column, and 0 outside of it.
abbrev pub coordinate_of : Table Float → ℕ → ℕ → Float
coordinate_of table row column = unwrap_or (table.cells row column) float_zero

-- Returns the difference of a point and a centre in one column.
abbrev pub difference_between : Table Float → Table Float → ℕ → ℕ → ℕ → Float
difference_between points centres point centre column = sub binary64 (coordinate_of points point column) (coordinate_of centres centre column)

-- Returns the square of that difference.
abbrev pub square_between : Table Float → Table Float → ℕ → ℕ → ℕ → Float
square_between points centres point centre column =
    mul binary64 (difference_between points centres point centre column) (difference_between points centres point centre column)

-- Returns this square for an index of three coordinates, those of a point, a centre and a column, whatever number stands
-- there now.
abbrev pub square_at : Table Float → Table Float → List ℕ → Float → Float
square_at points centres [] x = x
square_at points centres (i ∷ []) x = x
square_at points centres (i ∷ j ∷ []) x = x
square_at points centres (point ∷ centre ∷ column ∷ []) x = square_between points centres point centre column
square_at points centres (i ∷ j ∷ k ∷ l ∷ is) x = x
