-- When an image is another with its axes exchanged.
use Rattle.std.specs.Prelude.{◌≡◌, ℕ, List, reverse}
use Rattle.nd_array_core.specs.ArrayMeaning.{Meaning, inside}

module _ {A : Type 0} where
  -- Says that each index of `other` has the element that `one` has at the index with its coordinates in the opposite
  -- order.
  abbrev pub IsTransposed : Meaning A → Meaning A → Type 0
  IsTransposed one other = (i : List ℕ) → other.at i ≡ inside (reverse one.shape) i (one.at (reverse i))
