-- Dimensions, by how many axes they can have.
use Rattle.std.specs.Prelude.{◌≡◌, ℕ, nat_le, Bool, false, List, length, Option, MatchOption, IsTrue}

-- Says that the dimension can have `n` axes if `n` is at most 32.
abbrev pub HasAxesIfFew : (ℕ → Bool) → ℕ → Type 0
HasAxesIfFew has_axes n = IsTrue (nat_le n 32) → IsTrue (has_axes n)

-- Says that `found` is a dimension with the lengths `ns`, or None where the dimension can't have so many axes.
abbrev pub IsDimensionWith : {D : Type 0} → (ℕ → Bool) → (D → List ℕ) → List ℕ → Option D → Type 0
IsDimensionWith has_axes lengths ns found = MatchOption found (has_axes (length ns) ≡ false) (λ d. lengths d ≡ ns)
