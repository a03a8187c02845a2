use Rattle.nd_array_core.specs.growth.AppendEach.{meanings_of}
use Rattle.nd_stacking.proofs.StackedAsConcatenated.{has_place, has_room}
use Rattle.nd_stacking.proofs.stacked_arrays.stack.Goals as goal

pub stack_along-requires-clause-place : goal.stack_along-requires-clause-place
stack_along-requires-clause-place g c = has_place c.args.axis.0 (meanings_of c.args.arrays.now) (c.in-Ok.ensures {u = tt}).fits

pub stack_along-requires-clause-axes_fit : goal.stack_along-requires-clause-axes_fit
stack_along-requires-clause-axes_fit g c = has_room c.args.axis.0 g.D.Larger.Dimension.has_axes (meanings_of c.args.arrays.now) (c.in-Ok.ensures {u = tt}).fits c.requires.axes_fit
