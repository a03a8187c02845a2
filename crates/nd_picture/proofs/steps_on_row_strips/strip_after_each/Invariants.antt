use Rattle.nd_picture.proofs.RowwiseSteps.{IsStripSoFar}
use Rattle.nd_picture.proofs.steps_on_row_strips.strip_after_each.Given as goal

-- the steps that are left can be taken, and what they make is what all make
abbrev pub invariant-loop-nth : goal.invariant-loop-nth
invariant-loop-nth l = IsStripSoFar l.maxval l.fn.steps l.fn.strip l.nth l.strip
