use Rattle.nd_shape_and_slice.proofs.SlicesAsProgressions.{whole_axis}
use Rattle.nd_shape_and_slice.proofs.elements_in_common.spaced_by.Goals as goal

pub returns-in-NewAxis : goal.returns-in-NewAxis
returns-in-NewAxis c = rw c.in-NewAxis.is (whole_axis c.args.len)
