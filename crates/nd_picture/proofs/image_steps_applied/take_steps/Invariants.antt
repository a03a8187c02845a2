use Rattle.std.proofs.Common.{◌≡◌, ◌+◌, drop}
use Rattle.nd_array_core.specs.ArrayMeaning.{meaning_of}
use Rattle.nd_picture.specs.PictureChanges.{Picture, Shows}
use Rattle.nd_picture.specs.StepListResults.{after_all}
use Rattle.nd_picture.proofs.image_steps_applied.take_steps.Given as goal

-- the steps that are left, from here on, are all of them from the start
abbrev pub invariant-loop-nth : goal.invariant-loop-nth
invariant-loop-nth l = (p : Picture) → Shows (meaning_of l.fn.picture) p → (q : Picture) × Shows (meaning_of l.picture) q × (after_all l.maxval (l.nth + 1) (drop l.nth l.steps) q ≡ after_all l.maxval 1 l.steps p)
