use Rattle.nd_picture.proofs.RowwiseSteps.{AreSidesSoFar}
use Rattle.nd_picture.proofs.steps_on_row_strips.sides_after.Given as goal

-- the steps that are left, from a picture of these sides on, are all of them from the start
abbrev pub invariant-loop-nth : goal.invariant-loop-nth
invariant-loop-nth l = AreSidesSoFar l.maxval l.fn.steps l.fn.rows l.fn.columns l.nth l.height l.width
