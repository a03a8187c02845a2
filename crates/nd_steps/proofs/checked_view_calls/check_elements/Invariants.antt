use Rattle.nd_steps.proofs.StepChecks.{IsTestedBelow}
use Rattle.nd_steps.proofs.checked_view_calls.check_elements.Given as goal

abbrev pub invariant-loop-element : goal.invariant-loop-element
invariant-loop-element l = IsTestedBelow l.shape l.elements l.axis l.element-index
