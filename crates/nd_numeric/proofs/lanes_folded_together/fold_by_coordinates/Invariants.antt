use Rattle.std.proofs.Common.{◌≡◌}
use Rattle.nd_shape_and_slice.specs.LayoutIndexMaps.{indexed_shape}
use Rattle.nd_array_core.specs.ArrayMeaning.{shape_of, element_at}
use Rattle.nd_numeric.specs.SumsProductsAndMeans.{AreFoldsBelow}
use Rattle.nd_numeric.proofs.lanes_folded_together.fold_by_coordinates.Given as goal

abbrev pub invariant-loop-coordinate : goal.invariant-loop-coordinate
invariant-loop-coordinate g l = record {
  shape : shape_of l.totals ≡ indexed_shape (shape_of l.array) l.axis.0;
  folded : AreFoldsBelow (g.O.Operation.gives l.operation) l.fn.init l.array l.axis.0 l.coordinate (element_at l.totals);
}
