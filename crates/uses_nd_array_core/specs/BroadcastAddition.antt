-- Arrays and tables to which others were added, element by element.
use Rattle.std.specs.Prelude.{◌≡◌, ℕ, List, slice_index, Option}
use Rattle.nd_array_core.specs.Prelude.{Meaning, Table, Line, option_both, broadcast_at}
use Rattle.uses_nd_array_core.specs.NumberSums.{wrapping_plus}

-- Says that each element is the wrapping sum of the old one and of the other array's, broadcast to the shape.
abbrev pub AddsBroadcast : Meaning ℕ → Meaning ℕ → (List ℕ → Option ℕ) → Type 0
AddsBroadcast old other new = (i : List ℕ) → new i ≡ option_both wrapping_plus (old.at i) (broadcast_at old.shape other i)

-- Returns the table with the line added to each row.
abbrev pub plus_line : Line ℕ → Table ℕ → Table ℕ
plus_line line table = record { rows = table.rows; columns = table.columns; cells = λ row column. option_both wrapping_plus (table.cells row column) (line.cells column) }

-- Each index whose coordinate on the axis is 0 has its old element.
abbrev pub SameAtFirst : {A : Type 0} → ℕ → (List ℕ → Option A) → (List ℕ → Option A) → Type 0
SameAtFirst axis old new = (i : List ℕ) → slice_index i axis ≡ 0 → new i ≡ old i
