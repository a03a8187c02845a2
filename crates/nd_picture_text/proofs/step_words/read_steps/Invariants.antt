use Rattle.std.proofs.Common.{length}
use Rattle.nd_text.specs.LinesAndWords.{words_of}
use Rattle.nd_picture_text.specs.StepGrammar.{AreStepsBefore}
use Rattle.nd_picture_text.proofs.step_words.read_steps.Given as goal

-- the steps so far are those before the rest
abbrev pub invariant-loop-rest : goal.invariant-loop-rest
invariant-loop-rest l = AreStepsBefore l.steps.items (words_of l.fn.line) (words_of l.rest)

abbrev pub decreases-loop-rest : goal.decreases-loop-rest
decreases-loop-rest l = length (words_of l.rest)
