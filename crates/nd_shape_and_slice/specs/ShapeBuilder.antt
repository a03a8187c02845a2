-- The strides that a caller gives to a constructor.
use Rattle.std.specs.Prelude.{ℕ, ℤ, nat_eq, Bool, true, List, length, Option, None, Some}

-- Returns whether the caller's strides, if there are any, are as many as the `n` axes.
abbrev pub are_as_many : Option (List ℤ) → ℕ → Bool
are_as_many None n = true
are_as_many (Some strides) n = nat_eq (length strides) n
