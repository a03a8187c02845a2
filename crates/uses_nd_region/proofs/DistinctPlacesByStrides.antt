-- Layouts with separated strides, split off a region: distinct indexes have distinct places there.
use Rattle.std.specs.Prelude.{◌≡◌, ℕ, List, ℤ, length}
use native.Mathlib.Omega.{arith}
use Rattle.nd_shape_and_slice.specs.PlacesAndOverlaps.{IsSeparated}
use Rattle.nd_layout.proofs.DistinctPlaces.{same_index}
use Rattle.nd_layout.proofs.Integers.{sums}
use Rattle.nd_region.specs.RegionPlaces.{HasDistinctPlaces}

-- separated strides give distinct indexes distinct places
pub separated_distinct : (offset : ℕ) (ns : List ℕ) (ss : List ℤ) → length ss ≡ length ns → IsSeparated ns ss → HasDistinctPlaces offset ns ss
separated_distinct offset ns ss as_many separated = λ i j b c same. same_index ns ss i j as_many separated b c (omega (arith, sums, same))
