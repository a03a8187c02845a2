-- What callers compute of the numbers of a table, by rows and columns, wrapped to 64 bits.
use Rattle.std.specs.Prelude.{◌≡◌, ◌+◌, ◌*◌, ◌%◌, ◌^◌, ◌<◌, ℕ, ℤ, List, [], ◌∷◌, slice_index, Option, Some}
use Rattle.std.specs.Int.{w64, cast_signed}
use Rattle.nd_array_core.specs.ArrayMeaning.{Meaning}
use Rattle.nd_array_core.specs.SumsCountsAndExtrema.{sum_over}
use Rattle.nd_array_core.specs.Prelude.{Table, Line, sum_below, max_below, min_below, count_below, value_or_0, is_value, bits_or_0, option_both, broadcast_at}

-- Says that `list` has for each column of the table what the function `value` returns for it.
abbrev pub IsByColumn : {A B : Type 0} → (Meaning A → ℕ → B) → Meaning A → Meaning B → Type 0
IsByColumn value table list = (column : ℕ) → column < slice_index table.shape 1 → list.at (column ∷ []) ≡ Some (value table column)

-- Says that `list` has for each row of the table what the function `value` returns for it.
abbrev pub IsByRow : {A B : Type 0} → (Meaning A → ℕ → B) → Meaning A → Meaning B → Type 0
IsByRow value table list = (row : ℕ) → row < slice_index table.shape 0 → list.at (row ∷ []) ≡ Some (value table row)

-- Returns the number at a row and a column, and 0 where there is none.
abbrev pub cell : Meaning ℕ → ℕ → ℕ → ℕ
cell m row column = value_or_0 (m.at (row ∷ column ∷ []))

-- Returns the wrapping sum of a column.
abbrev pub column_total : Meaning ℕ → ℕ → ℕ
column_total m column = sum_below (λ row. cell m row column) (slice_index m.shape 0) % 2 ^ 64

-- Returns the wrapping sum of all numbers of a table.
abbrev pub table_sum : Meaning ℕ → ℕ
table_sum m = sum_below (λ row. sum_below (cell m row) (slice_index m.shape 1)) (slice_index m.shape 0) % 2 ^ 64

-- Returns the wrapping sum of all elements of an array of unsigned numbers with any number of axes.
abbrev pub wrapped_total : Meaning ℕ → ℕ
wrapped_total m = sum_over m.shape (λ i. value_or_0 (m.at i)) % 2 ^ 64

-- Returns the wrapping sum of all elements of an array of signed numbers with any number of axes.
abbrev pub signed_sum : Meaning ℤ → ℤ
signed_sum m = cast_signed w64 (sum_over m.shape (λ i. bits_or_0 w64 (m.at i)) % 2 ^ 64)

-- Returns the wrapping sum of a row of signed numbers.
abbrev pub signed_row_sum : Meaning ℤ → ℕ → ℤ
signed_row_sum m row = cast_signed w64 (sum_below (λ column. bits_or_0 w64 (m.at (row ∷ column ∷ []))) (slice_index m.shape 1) % 2 ^ 64)

-- Returns the greatest number of a column, and 0 where there is no row.
abbrev pub column_maximum : Meaning ℕ → ℕ → ℕ
column_maximum m column = max_below 0 (λ row. cell m row column) (slice_index m.shape 0)

-- Returns how many of the first `n` numbers of a column equal `value`.
abbrev pub count_before : ℕ → Meaning ℕ → ℕ → ℕ → ℕ
count_before value m column n = count_below (λ row. is_value value (m.at (row ∷ column ∷ []))) n

-- Returns how many numbers of a column equal `value`.
abbrev pub column_count : ℕ → Meaning ℕ → ℕ → ℕ
column_count value m column = count_before value m column (slice_index m.shape 0)

-- Returns the wrapping sum of the products of the first `n` numbers of a row with those of a list.
abbrev pub products_before : Meaning ℕ → Meaning ℕ → ℕ → ℕ → ℕ
products_before list m row n = sum_below (λ k. cell m row k * value_or_0 (list.at (k ∷ []))) n % 2 ^ 64

-- Returns the wrapping sum of the products of a row with a list.
abbrev pub row_by_list : Meaning ℕ → Meaning ℕ → ℕ → ℕ
row_by_list list m row = products_before list m row (slice_index m.shape 1)

-- Returns the table with the numbers of `column` added to each of its columns.
abbrev pub plus_column : Line ℕ → Table ℕ → Table ℕ
plus_column column table = record { rows = table.rows; columns = table.columns; cells = λ i j. option_both (λ x y. (x + y) % 2 ^ 64) (table.cells i j) (column.cells i) }

-- Says that `new` is `old` with the array `other`, broadcast to its shape, added to it.
abbrev pub IsBroadcastAdded : Meaning ℕ → Meaning ℕ → Meaning ℕ → Type 0
IsBroadcastAdded other old new = (i : List ℕ) → new.at i ≡ option_both (λ x y. (x + y) % 2 ^ 64) (old.at i) (broadcast_at old.shape other i)
