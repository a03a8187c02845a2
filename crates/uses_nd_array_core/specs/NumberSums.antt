-- Sums of numbers, and what is done with each number.
use Rattle.std.specs.Prelude.{ℕ, ◌+◌, ◌*◌, ◌%◌, ◌^◌, fold}
use Rattle.nd_array_core.specs.Prelude.{Meaning, Line, row_major_elements}
use Rattle.nd_array_core.specs.SumsCountsAndExtrema.{sum_below, value_or_0}

-- Returns the sum of a line of numbers, modulo 2 to the 64th.
abbrev pub line_sum : Line ℕ → ℕ
line_sum line = sum_below (λ k. value_or_0 (line.cells k)) line.count % 2 ^ 64

-- Returns the sum of all elements of an array in row-major order, modulo 2 to the 64th.
abbrev pub sum_of_elements : Meaning ℕ → ℕ
sum_of_elements m = fold (λ sum x. (sum + x) % 2 ^ 64) 0 (row_major_elements m)

-- Returns the sum of two numbers, modulo 2 to the 64th.
abbrev pub wrapping_plus : ℕ → ℕ → ℕ
wrapping_plus x y = (x + y) % 2 ^ 64

-- Returns a number added to the sum so far, modulo 2 to the 64th.
abbrev pub added_to : ℕ → ℕ → ℕ
added_to sum x = (x + sum) % 2 ^ 64

-- Returns twice the number, modulo 2 to the 64th.
abbrev pub twice : ℕ → ℕ
twice x = (x * 2) % 2 ^ 64
