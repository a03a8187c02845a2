-- Elements by the rank of their index in row-major or column-major order.
use Rattle.std.specs.Prelude.{ℕ, List, Option, slice_get}
use Rattle.nd_shape_and_slice.specs.declared.shape_builder.Order.{Order}
use Rattle.nd_layout.specs.RanksAndReshapeStrides.{rank_in}
use Rattle.nd_elements.specs.ShapeAndElements.{inside}

-- A shape as it is given to a constructor: the lengths, and the order of the elements.
abbrev pub BuiltShape : Type 0
BuiltShape = List ℕ × Order

-- Returns the item whose number is the rank of the index `i` in the order, and `None` where `i` lies outside the shape.
abbrev pub found_by_rank : {A : Type 0} → BuiltShape → List A → List ℕ → Option A
found_by_rank built items i = inside built.0 i (slice_get items (rank_in built.1 built.0 i))
