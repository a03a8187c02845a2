use Rattle.nd_layout.proofs.NamesFromOtherCrates.{take}
use Rattle.nd_layout.proofs.steps.SqueezeStep.{IsSqueezedFrom}
use Rattle.nd_layout.proofs.layout.squeeze.Layout+IxDyn+DynStrides.squeezed.Given as goal

abbrev pub invariant-loop-axis : goal.invariant-loop-axis
invariant-loop-axis l = IsSqueezedFrom l.self.offset (take l.self.dim.count l.self.dim.lens) (take l.self.strides.count l.self.strides.strides) l.axis l.layout.offset (take l.layout.dim.count l.layout.dim.lens) (take l.layout.strides.count l.layout.strides.strides)

abbrev pub decreases-loop-axis : goal.decreases-loop-axis
decreases-loop-axis l = l.axis
