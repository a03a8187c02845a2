-- Paths that are written through, a step at a time.
use Rattle.std.proofs.Common.{◌≡◌, ℕ, suc, ◌+◌, ◌<◌, ◌≤◌, Bool, true, false, if◌then◌else◌, List, [], ◌∷◌, length, map, drop, get_or, Option, Some, None, Ok, Err, refl, sym, ap, ◌∙◌, add-one, drop-cons}
use Rattle.std.specs.Prelude.{is_some}
use Rattle.std.proofs.lemmas.List.{drop_all}
use Rattle.nd_shape_and_slice.specs.ShapesAndIndexOrders.{in_box}
use Rattle.nd_array_core.specs.ArrayMeaning.{Meaning, inside}
use Rattle.nd_steps.specs.declared.refusal_causes.Cause.{Cause}
use Rattle.nd_read.specs.declared.script_call_types.Step.{Step}
use Rattle.nd_read.specs.ScriptCalls.{AskedStep, asked_step}
use Rattle.nd_steps.specs.StepTestsAndShapes.{Test, first_failed, tests_of, refusal, unless, step_shape, step_index, index_along}
use Rattle.nd_steps.specs.WritesThroughViewsAndSplits.{path_tests}
use Rattle.nd_steps.specs.StepListResults.{step_meaning, and_then, path_result, LeadsAlong}
use Rattle.nd_steps.specs.StepListLaws.{PathsLeadAlong}
use Rattle.nd_steps.proofs.StepEquations.{tests_pass, tests_fail, seen_is}

pub is_none : {Y : Type 0} (o : Option Y) → is_some o ≡ false → o ≡ None
is_none None e = refl
is_none (Some x) e = absurd cc

next_steps : (path : List Step) (k : ℕ) (step : Step) → k < length path → get_or path k step ≡ step → drop k path ≡ step ∷ drop (k + 1) path
next_steps path k step lt at = rw (add-one, drop-cons path k step lt) (ap (λ s. s ∷ drop (suc k) path) at)

-- ---- a path, where these are the tests of a step

module _ {X : Type 0} (tests : AskedStep → List ℕ → List Test) where
  led_refused : (path : List AskedStep) (m : Meaning X) (cause : Cause) → path_result tests path m ≡ Err cause → first_failed (path_tests tests path m.shape) ≡ Some cause
  led_refused [] m cause e = absurd cc
  led_refused (step ∷ path) m cause e = by_refusal (first_failed (tests step m.shape)) refl e (led_refused path (step_meaning step m) cause)
    where
      by_refusal : (r : Option Cause) → first_failed (tests step m.shape) ≡ r → and_then (unless r (step_meaning step m)) (path_result tests path) ≡ Err cause → (path_result tests path (step_meaning step m) ≡ Err cause → first_failed (path_tests tests path (step_shape step m.shape)) ≡ Some cause) → first_failed (path_tests tests (step ∷ path) m.shape) ≡ Some cause
      by_refusal None h e later = tests_pass (tests step m.shape) (path_tests tests path (step_shape step m.shape)) h ∙ later e
      by_refusal (Some given) h e later = let same : given ≡ cause = cc in tests_fail (tests step m.shape) (path_tests tests path (step_shape step m.shape)) cause (h ∙ ap Some same)

  -- the first step that is refused, as a loop goes along a path
  pub led_stops : (path : List Step) (k : ℕ) (step : Step) (start now : Meaning X) (cause : Cause) → k < length path → get_or path k step ≡ step → unless (first_failed (tests (asked_step step) now.shape)) (step_meaning (asked_step step) now) ≡ Err cause
      → path_result tests (map asked_step (drop k path)) now ≡ path_result tests (map asked_step path) start → first_failed (path_tests tests (map asked_step path) start.shape) ≡ Some cause
  led_stops path k step start now cause lt at refused so_far =
      let here : path_result tests (map asked_step (drop k path)) now ≡ Err cause = ap (λ steps. path_result tests (map asked_step steps) now) (next_steps path k step lt at) ∙ ap (λ r. and_then r (path_result tests (map asked_step (drop (k + 1) path)))) refused in
      led_refused (map asked_step path) start cause (sym so_far ∙ here)

  -- the same of the answer of a check
  pub led_stops_at : (r : Option Cause) (path : List Step) (k : ℕ) (step : Step) (start now : Meaning X) → is_some r ≡ true → r ≡ first_failed (tests (asked_step step) now.shape) → k < length path → get_or path k step ≡ step
      → path_result tests (map asked_step (drop k path)) now ≡ path_result tests (map asked_step path) start → r ≡ first_failed (path_tests tests (map asked_step path) start.shape)
  led_stops_at None path k step start now some e lt at so_far = absurd cc
  led_stops_at (Some cause) path k step start now some e lt at so_far = sym (led_stops path k step start now cause lt at (ap (λ r. unless r (step_meaning (asked_step step) now)) (sym e)) so_far)

  pub led_more : (path : List Step) (k : ℕ) (step : Step) (start now next : Meaning X) → k < length path → get_or path k step ≡ step → first_failed (tests (asked_step step) now.shape) ≡ None → next.shape ≡ step_shape (asked_step step) now.shape
      → ((i : List ℕ) → next.at i ≡ inside next.shape i (now.at (step_index (asked_step step) now.shape i))) → path_result tests (map asked_step (drop k path)) now ≡ path_result tests (map asked_step path) start
      → path_result tests (map asked_step (drop (k + 1) path)) next ≡ path_result tests (map asked_step path) start
  led_more path k step start now next lt at allowed shape elements so_far =
      let one = asked_step step in
      let taken : next ≡ step_meaning one now = seen_is now next (step_shape one now.shape) (step_index one now.shape) shape elements in
      let here : path_result tests (map asked_step (drop k path)) now ≡ path_result tests (map asked_step (drop (k + 1) path)) (step_meaning one now) = ap (λ steps. path_result tests (map asked_step steps) now) (next_steps path k step lt at) ∙ rw allowed refl in
      ap (path_result tests (map asked_step (drop (k + 1) path))) taken ∙ (sym here ∙ so_far)

  -- where a step that passes may be looked at
  module _ (allows : (step : AskedStep) (ns : List ℕ) → first_failed (tests step ns) ≡ None → refusal step ns ≡ None) where
    led_allowed : (path : List AskedStep) (m n : Meaning X) → path_result tests path m ≡ Ok n → (first_failed (path_tests tests path m.shape) ≡ None) × (path_result tests_of path m ≡ Ok n)
    led_allowed [] m n e = (refl, e)
    led_allowed (step ∷ path) m n e = by_refusal (first_failed (tests step m.shape)) refl e (led_allowed path (step_meaning step m) n)
      where
        by_refusal : (r : Option Cause) → first_failed (tests step m.shape) ≡ r → and_then (unless r (step_meaning step m)) (path_result tests path) ≡ Ok n → (path_result tests path (step_meaning step m) ≡ Ok n → (first_failed (path_tests tests path (step_shape step m.shape)) ≡ None) × (path_result tests_of path (step_meaning step m) ≡ Ok n)) → (first_failed (path_tests tests (step ∷ path) m.shape) ≡ None) × (path_result tests_of (step ∷ path) m ≡ Ok n)
        by_refusal None h e later =
            let more = later e in
            (tests_pass (tests step m.shape) (path_tests tests path (step_shape step m.shape)) h ∙ more.0, rw (allows step m.shape h) more.1)
        by_refusal (Some given) h e later = absurd cc

    -- the end of a path
    pub led_all : PathsLeadAlong X → (path : List Step) (k : ℕ) (start now : Meaning X) → length path ≤ k → path_result tests (map asked_step (drop k path)) now ≡ path_result tests (map asked_step path) start
        → (first_failed (path_tests tests (map asked_step path) start.shape) ≡ None) × LeadsAlong (map asked_step path) start now
    led_all leads path k start now all so_far =
        let whole : path_result tests (map asked_step path) start ≡ Ok now = sym so_far ∙ ap (λ steps. path_result tests (map asked_step steps) now) (drop_all k path all) in
        let h = led_allowed (map asked_step path) start now whole in
        (h.0, leads (map asked_step path) start now h.1)

-- what lies along a path, where no index outside its box has anything
module _ {X : Type 0} (path : List AskedStep) (m n : Meaning X) where
  pub lies_along : LeadsAlong path m n → ((i : List ℕ) → is_some (n.at i) ≡ in_box n.shape i) → (i : List ℕ) → n.at i ≡ inside n.shape i (m.at (index_along path m.shape i))
  lies_along along has i = by_box (in_box n.shape i) refl
    where
      by_box : (b : Bool) → in_box n.shape i ≡ b → n.at i ≡ inside n.shape i (m.at (index_along path m.shape i))
      by_box true h = (along.1 i h).1 ∙ sym (ap (λ b. if b then m.at (index_along path m.shape i) else None) h)
      by_box false h = is_none (n.at i) (has i ∙ h) ∙ sym (ap (λ b. if b then m.at (index_along path m.shape i) else None) h)
