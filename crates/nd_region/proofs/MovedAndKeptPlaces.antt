-- What `split` and `into_part` do that no machine sees: which places one moves, and which it leaves; which ones the other
-- goes on with.
use mathlib.Core.Bool.{Bool, not}
use Prim.Native.Nat.{ℕ}
use mathlib.Core.List.{List}
use Rattle.std.specs.Prelude.{ℤ}
use Rattle.nd_region.specs.RegionPlaces.{names}

abbrev pub moves : ℕ → List ℕ → List ℤ → ℕ → Bool
moves offset ns ss p = names offset ns ss p

abbrev pub leaves : ℕ → List ℕ → List ℤ → ℕ → Bool
leaves offset ns ss p = not (moves offset ns ss p)

abbrev pub goes_on_with : ℕ → List ℕ → List ℤ → ℕ → Bool
goes_on_with offset ns ss p = names offset ns ss p
