-- What callers compute of floats, where each operation rounds by itself, and of the elements of two arrays.
use Rattle.std.specs.Prelude.{◌≡◌, ℕ, ℤ, List, Option, fold, unsigned_abs}
use Rattle.std.specs.Int.{FitsUnsignedBits}
use Rattle.std.specs.Option.{SomeIff}
use Rattle.std.specs.Float.{binary64, float_zero}
use Rattle.std.specs.Float.Ieee.{Float, add, mul, div}
use Rattle.nd_array_core.specs.declared.base.array.ArrayBase.{ArrayBase}
use Rattle.nd_array_core.specs.Prelude.{Meaning, element_at, element_of_2, IsMappedBy, option_both, row_major_elements}

-- Returns `x * factor + y`.
abbrev pub scaled_plus : Float → Float → Float → Float
scaled_plus factor x y = add binary64 (mul binary64 x factor) y

-- Returns `x + y * rate`.
abbrev pub moved_by : Float → Float → Float → Float
moved_by rate x y = add binary64 x (mul binary64 y rate)

-- Returns `x + rate * y`.
abbrev pub moved_along : Float → Float → Float → Float
moved_along rate x y = add binary64 x (mul binary64 rate y)

-- Returns `(x + y) / number`.
abbrev pub sum_divided_by : Float → Float → Float → Float
sum_divided_by number x y = div binary64 (add binary64 x y) number

-- Returns `x` divided by the sum of all elements of `m` in row-major order.
abbrev pub share_of : Meaning Float → Float → Float
share_of m x = div binary64 x (fold (add binary64) float_zero (row_major_elements m))

-- Says that each index has the element of `m` there divided by the sum of all elements of `m`.
abbrev pub HasShares : Meaning Float → (List ℕ → Option Float) → Type 0
HasShares m new = IsMappedBy (share_of m) m.at new

module _ {S D A T R : Type 0} {s : _} {d : _} {n : _} {r : _} {t : _} {Z E U X : Type 0} {z : _} {e : _} {k : _} {x : _} {u : _} where
  -- Says that the new array has at each index what the function `f` makes of the elements that the old array and the
  -- other array have there.
  abbrev pub HasElementsOfBoth : (A → A → A) → ArrayBase S D T A R s d n r t → ArrayBase Z E U A X z e k x u → ArrayBase S D T A R s d n r t → Type 0
  HasElementsOfBoth f old other new = (i : List ℕ) → element_at new i ≡ option_both f (element_at old i) (element_at other i)

  -- Says that the new array has at each row and column what the function `f` makes of the elements that the old array
  -- and the other array have there.
  abbrev pub HasCellsOfBoth : (A → A → A) → ArrayBase S D T A R s d n r t → ArrayBase Z E U A X z e k x u → ArrayBase S D T A R s d n r t → Type 0
  HasCellsOfBoth f old other new = (row column : ℕ) → element_of_2 new row column ≡ option_both f (element_of_2 old row column) (element_of_2 other row column)

-- The result is the whole number `n` where that fits so many bits without a sign, and nothing where it doesn't.
abbrev pub IsWhereItFits : ℕ → ℤ → Option ℕ → Type 0
IsWhereItFits bits n result = SomeIff result (FitsUnsignedBits bits n) (unsigned_abs n)
