-- The coordinates of an index.
use Rattle.std.specs.Prelude.{ℕ, List}
use Rattle.nd_shape_and_slice.specs.declared.index_and_shape_conversions.Coordinates.{Coordinates}
use Rattle.nd_shape_and_slice.specs.declared.index_and_shape_conversions.Coordinates.TheVariants.{Lent, Two, Three, Four, Five, Six}

-- Returns the coordinates as a list, axis by axis.
abbrev pub coordinate_list : Coordinates → List ℕ
coordinate_list (Lent list) = list.now
coordinate_list (Two list) = list
coordinate_list (Three list) = list
coordinate_list (Four list) = list
coordinate_list (Five list) = list
coordinate_list (Six list) = list
