-- The wrapping sum of a list of 64-bit numbers.
use Rattle.std.specs.Prelude.{◌+◌, ◌%◌, ◌^◌, ℕ, List, map}
use Rattle.std.specs.List.{fold}

abbrev pub listed_sum : List ℕ → ℕ
listed_sum = fold (λ sum x. (sum + x) % 2 ^ 64) 0

-- The sum of each part of an array, where a part is its lengths and its elements in row-major order.
abbrev pub sums_of_parts : List (List ℕ × List ℕ) → List ℕ
sums_of_parts parts = map (λ part. listed_sum part.1) parts
