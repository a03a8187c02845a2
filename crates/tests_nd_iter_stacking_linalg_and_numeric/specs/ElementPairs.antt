-- The elements of two arrays in pairs, in row-major order.
use Rattle.std.specs.Prelude.{ℕ, List}
use Rattle.std.specs.List.{zip}
use Rattle.nd_array_core.specs.ArrayMeaning.{Meaning}
use Rattle.nd_array_core.specs.ConcatenationAndSplit.{row_major_elements}

-- Returns the pairs of what two arrays have at the same position in row-major order, as far as both go.
abbrev pub element_pairs : Meaning ℕ → Meaning ℕ → List (ℕ × ℕ)
element_pairs m n = zip (row_major_elements m) (row_major_elements n)
