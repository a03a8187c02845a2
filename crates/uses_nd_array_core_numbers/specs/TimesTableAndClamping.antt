-- What is written at each index, and what is made of three numbers.
use Rattle.std.specs.Prelude.{◌+◌, ◌*◌, ◌%◌, ◌^◌, ℕ, List, [], ◌∷◌, max, min}

-- The row times the column, modulo 2 to the 64th; at an index that isn't one of two coordinates the number stays.
abbrev pub times_table : List ℕ → ℕ → ℕ
times_table [] x = x
times_table (i ∷ []) x = x
times_table (row ∷ column ∷ []) x = (row * column) % 2 ^ 64
times_table (i ∷ j ∷ k ∷ is) x = x

-- The number one higher, modulo 2 to the 64th.
abbrev pub one_higher : ℕ → ℕ
one_higher x = (x + 1) % 2 ^ 64

-- The number, but no less than the one bound and no more than the other.
abbrev pub clamped_to : ℕ → ℕ → ℕ → ℕ
clamped_to x least most = min (max x least) most
