use Rattle.nd_shape_and_slice.proofs.EachAxisOnceCheck.{answer_is}
use Rattle.nd_shape_and_slice.proofs.axis_numbers_and_permutations.axes_fit.Goals as goal

pub returns-clause-value : goal.returns-clause-value
returns-clause-value c = answer_is c.holds_each_axis.result c.args.axes.now c.args.ndim c.holds_each_axis.ensures.0 c.holds_each_axis.ensures.1
