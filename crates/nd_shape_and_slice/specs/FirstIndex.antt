-- The first index of a shape.
use Rattle.std.specs.Prelude.{ℕ, List, length, replicate}

-- Returns the index of the shape that has coordinate 0 on each axis.
abbrev pub first_index : List ℕ → List ℕ
first_index shape = replicate (length shape) 0
