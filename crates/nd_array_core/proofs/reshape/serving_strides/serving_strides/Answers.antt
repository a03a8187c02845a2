use Rattle.nd_array_core.proofs.reshape_lemmas.AxisLengthLimit.{size_short}
use Rattle.nd_array_core.proofs.reshape.serving_strides.serving_strides.Goals as goal

pub reshape_strides-requires-clause-checked : goal.reshape_strides-requires-clause-checked
reshape_strides-requires-clause-checked g c = rw c.slice-lengths.ensures.lengths (size_short _ c.requires.shape.0)
