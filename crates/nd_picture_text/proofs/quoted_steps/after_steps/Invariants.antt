use Rattle.std.proofs.Common.{◌≡◌}
use Rattle.nd_text.specs.LinesAndWords.{words_of}
use Rattle.nd_picture_text.specs.QuotedSteps.{after_steps}
use Rattle.nd_picture_text.proofs.quoted_steps.after_steps.Given as goal

-- what is left of the steps, passed over from here on, leads to the same words
abbrev pub invariant-loop-left : goal.invariant-loop-left
invariant-loop-left l = after_steps l.left (words_of l.rest) ≡ after_steps l.fn.count (words_of l.fn.line)

abbrev pub decreases-loop-left : goal.decreases-loop-left
decreases-loop-left l = l.left
