use Rattle.std.proofs.Common.{◌≡◌, drop}
use Rattle.nd_picture.specs.StepListResults.{kind_after_each}
use Rattle.nd_picture.proofs.image_steps_applied.kind_after_each.Given as goal

-- the steps that are left, from here on, lead to the same format
abbrev pub invariant-loop-nth : goal.invariant-loop-nth
invariant-loop-nth l = kind_after_each (drop l.nth l.steps) l.last ≡ kind_after_each l.steps l.fn.kind
