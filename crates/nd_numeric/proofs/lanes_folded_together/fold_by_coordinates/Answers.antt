use Rattle.std.proofs.Common.{◌∙◌}
use Rattle.nd_numeric.proofs.lanes_folded_together.fold_by_coordinates.Goals as goal

pub loop-coordinate-init : goal.loop-coordinate-init
loop-coordinate-init g c = record {
  shape = c.in-Ok.ensures.shape;
  folded = c.in-Ok.ensures.folded (g.O.Operation.gives c.args.operation);
}

pub loop-coordinate-preserved : goal.loop-coordinate-preserved
loop-coordinate-preserved g c = record {
  shape = c.take_coordinate.ensures.shape ∙ c.loop-coordinate.invariant.shape;
  folded = c.take_coordinate.ensures.folded c.args.init c.loop-coordinate.invariant.folded;
}
