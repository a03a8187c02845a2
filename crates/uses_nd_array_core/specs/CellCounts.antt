-- What a loop over a row and a column comes to: how many cells have a value.
use Rattle.std.specs.Prelude.{◌≡◌, ◌<◌, ◌≤◌, ℕ, zero, suc, ◌+◌, nat_eq, List, slice_index, Option, None, Some, if◌then◌else◌}
use Rattle.nd_array_core.specs.Prelude.{Table, Line}

-- Returns 1 if the cell has the value, and otherwise 0.
abbrev pub counts_for : ℕ → Option ℕ → ℕ
counts_for value None = 0
counts_for value (Some x) = if nat_eq x value then 1 else 0

-- Returns how many of a row's first `n` cells have the value.
abbrev pub count_in_row : (ℕ → Option ℕ) → ℕ → ℕ → ℕ
count_in_row at value zero = 0
count_in_row at value (suc n) = count_in_row at value n + counts_for value (at n)

-- Returns how many cells of the first `n` rows have the value.
abbrev pub count_in_rows : (ℕ → ℕ → Option ℕ) → ℕ → ℕ → ℕ → ℕ
count_in_rows at value columns zero = 0
count_in_rows at value columns (suc n) = count_in_rows at value columns n + count_in_row (at n) value columns

-- Returns how many cells of a table have the value.
abbrev pub count_in_table : Table ℕ → ℕ → ℕ
count_in_table table value = count_in_rows table.cells value table.columns table.rows

-- Of 256 counts, that of a value grows by 1, and the others stay.
abbrev pub CountsValue : ℕ → List ℕ → List ℕ → Type 0
CountsValue x old new = (value : ℕ) → value < 256 → slice_index new value ≡ slice_index old value + counts_for value (Some x)

-- Each of 256 counts grows by no more than a number.
abbrev pub GrowByAtMost : ℕ → List ℕ → List ℕ → Type 0
GrowByAtMost most old new = (value : ℕ) → value < 256 → slice_index new value ≤ slice_index old value + most

-- Says that each of 256 counts has grown by how many cells of the line have its value.
abbrev pub CountsLine : Line ℕ → List ℕ → List ℕ → Type 0
CountsLine line old new = (value : ℕ) → value < 256 → slice_index new value ≡ slice_index old value + count_in_row line.cells value line.count
