use Rattle.nd_layout.proofs.steps.StepsKeepValidLayouts.{step_from}
use Rattle.nd_layout.proofs.layout.Layout.halves.Goals as goal

pub returns-clause-lower : goal.returns-clause-lower
returns-clause-lower g c = step_from c.copied-lower.ensures.offset c.copied-lower.ensures.lengths c.copied-lower.ensures.strides c.keep_lower.ensures.step

pub returns-clause-upper : goal.returns-clause-upper
returns-clause-upper g c = step_from c.copied-upper.ensures.offset c.copied-upper.ensures.lengths c.copied-upper.ensures.strides c.keep_upper.ensures.step
