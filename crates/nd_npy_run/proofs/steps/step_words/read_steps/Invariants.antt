use Rattle.std.proofs.Common.{length, map}
use Rattle.nd_text.specs.LinesAndWords.{words_of}
use Rattle.nd_npy_run.specs.ViewSelectAndReshapeSteps.{asked_npy_step}
use Rattle.nd_npy_run.specs.StepListWords.{HasStepsBefore}
use Rattle.nd_npy_run.proofs.steps.step_words.read_steps.Given as goal

-- the steps so far are those before the rest
abbrev pub invariant-loop-word : goal.invariant-loop-word
invariant-loop-word l = HasStepsBefore (words_of l.fn.line) (map asked_npy_step l.steps.items) (words_of l.rest)

abbrev pub decreases-loop-word : goal.decreases-loop-word
decreases-loop-word l = length (words_of l.rest)
