-- Where each step's map leads inside, the map of a path is the composition of its steps' maps.
use Rattle.std.proofs.Common.{◌≡◌, ◌∙◌, List, [], ◌∷◌, Option, Some, None, Ok, refl, subst}
use Rattle.nd_array_core.specs.ArrayMeaning.{Meaning}
use Rattle.nd_steps.specs.declared.refusal_causes.Cause.{Cause}
use Rattle.nd_read.specs.ScriptCalls.{AskedStep}
use Rattle.nd_steps.specs.StepTestsAndShapes.{tests_of, refusal, unless, step_shape, index_along}
use Rattle.nd_steps.specs.StepListResults.{and_then, step_meaning, path_result, LeadsAlong}
use Rattle.nd_steps.specs.StepListLaws.{StepsLeadInside, PathsLeadAlong}

module _ {A : Type 0} (inside : StepsLeadInside) where
  step_leads : (r : Option Cause) (step : AskedStep) (path : List AskedStep) (m n : Meaning A) → refusal step m.shape ≡ r → ((x : Meaning A) → path_result tests_of path x ≡ Ok n → LeadsAlong path x n) → and_then (unless r (step_meaning step m)) (path_result tests_of path) ≡ Ok n → LeadsAlong (step ∷ path) m n
  step_leads None step path m n allowed rest e =
      let more = rest (step_meaning step m) e in
      (more.0, λ i h. (let r = more.1 i h in (inside step m.shape allowed (index_along path (step_shape step m.shape) i) r.0, r.1 ∙ rw r.0 refl)))
  step_leads (Some cause) step path m n refused rest e = absurd cc

  -- what a path leads to, by the composition of its steps' maps
  pub path_leads : PathsLeadAlong A
  path_leads [] m n e = let same : m ≡ n = cc in subst (λ x. LeadsAlong [] m x) same (refl, λ i h. (h, refl))
  path_leads (step ∷ path) m n e = step_leads (refusal step m.shape) step path m n refl (λ x. path_leads path x n) e
