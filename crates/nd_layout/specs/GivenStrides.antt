-- What a constructor is given: a shape, and an order or the caller's strides.
use Rattle.std.specs.Prelude.{ℕ, List, ℤ, pos, Option, None, Some}
use Rattle.nd_shape_and_slice.specs.declared.shape_builder.Order.{Order}
use Rattle.nd_shape_and_slice.specs.declared.shape_builder.Order.TheVariants.{RowMajor, ColumnMajor}
use Rattle.nd_layout.specs.RanksAndReshapeStrides.{rank_in}
use Rattle.nd_shape_and_slice.specs.PlacesAndOverlaps.{place_of}
use Rattle.nd_shape_and_slice.specs.DefaultAndFortranStrides.{c_strides, f_strides}
use Rattle.nd_layout.specs.StridesAfterLayoutCalls.{reach_down}

-- Returns where the element of the index `i` stands among the given ones: at its rank in the order, or, under the
-- caller's strides, at its place from the least offset that leaves room for the negative strides.
abbrev pub given_place : List ℕ → Order → Option (List ℤ) → List ℕ → ℤ
given_place lengths order None i = pos (rank_in order lengths i)
given_place lengths order (Some strides) i = place_of (reach_down lengths strides) strides i

-- Returns the offset: 0 without the caller's strides, and with them the least one that leaves room for the negative
-- strides.
abbrev pub offset_given : List ℕ → Option (List ℤ) → ℕ
offset_given lengths None = 0
offset_given lengths (Some strides) = reach_down lengths strides

-- Returns the strides that an order gives.
abbrev pub ordered_strides : Order → List ℕ → List ℤ
ordered_strides RowMajor lengths = c_strides lengths
ordered_strides ColumnMajor lengths = f_strides lengths

-- Returns the strides that the array gets: the caller's, if there are any, and else those of the order.
abbrev pub given_strides : List ℕ → Order → Option (List ℤ) → List ℤ
given_strides lengths order None = ordered_strides order lengths
given_strides lengths order (Some strides) = strides
