-- Steps taken one after another on a view.
use Rattle.std.proofs.Common.{◌≡◌, ◌∙◌, ℕ, ◌+◌, ◌<◌, ◌≤◌, true, List, ◌∷◌, length, map, get_or, drop, drop-cons, add-one, Option, Some, None, Result, Ok, Err, refl, sym, ap}
use Rattle.std.specs.Option.{option_map}
use Rattle.std.proofs.lemmas.Bool.{and_parts}
use Rattle.std.proofs.lemmas.List.{drop_all, drop-map}
use Rattle.nd_array_core.specs.ArrayMeaning.{Meaning, inside}
use Rattle.nd_read.specs.ScriptCalls.{AskedStep}
use Rattle.nd_steps.specs.declared.refusal_causes.Cause.{Cause}
use Rattle.nd_steps.specs.StepListResults.{step_result, and_then}
use Rattle.nd_steps.specs.StepTestsAndShapes.{refusal, keep_refusal, step_shape, step_index, unless}
use Rattle.nd_steps.proofs.StepEquations.{taken_ok}
use Rattle.nd_steps.proofs.StepChecks.{keep_allows}
use Rattle.nd_npy_run.specs.declared.steps.errors.Refusal.{Refusal}
use Rattle.nd_npy_run.specs.declared.steps.errors.StepCause.{StepCause}
use Rattle.nd_npy_run.specs.declared.steps.errors.StepCause.TheVariants.{Layout}
use Rattle.nd_npy_run.specs.declared.steps.step.NpyStep.{NpyStep}
use Rattle.nd_npy_run.specs.ViewSelectAndReshapeSteps.{asked_npy_step, is_viewed, are_viewed, Viewed}
use Rattle.nd_npy_run.specs.StepResults.{npy_step_meaning, npy_step_result}
use Rattle.nd_npy_run.specs.StepListResults.{numbered, steps_result, rest_of_steps}

-- ---- A step of a script

module _ {X : Type 0} (step : AskedStep) (m : Meaning X) where
  viewed_ok_by : (r : Option Cause) (n : Meaning X) → unless r (npy_step_meaning (Viewed step) m) ≡ Ok n → unless (option_map Layout r) (npy_step_meaning (Viewed step) m) ≡ Ok n
  viewed_ok_by None n e = let same : npy_step_meaning (Viewed step) m ≡ n = cc in ap Ok same
  viewed_ok_by (Some cause) n e = absurd cc

  viewed_err_by : (r : Option Cause) (cause : Cause) → unless r (npy_step_meaning (Viewed step) m) ≡ Err cause → unless (option_map Layout r) (npy_step_meaning (Viewed step) m) ≡ Err (Layout cause)
  viewed_err_by None cause e = absurd cc
  viewed_err_by (Some given) cause e = let same : given ≡ cause = cc in ap (λ c. Err (Layout c)) same

  pub viewed_ok : (n : Meaning X) → step_result step m ≡ Ok n → npy_step_result (Viewed step) m ≡ Ok n
  viewed_ok n e = viewed_ok_by (refusal step m.shape) n e

  pub viewed_err : (cause : Cause) → step_result step m ≡ Err cause → npy_step_result (Viewed step) m ≡ Err (Layout cause)
  viewed_err cause e = viewed_err_by (refusal step m.shape) cause e

-- ---- The steps that are left

module _ {X : Type 0} (steps : List NpyStep) where
  pub follow_starts : (done : ℕ) (start : Meaning X) → steps_result (done + 1) (map asked_npy_step (drop done steps)) start ≡ rest_of_steps done (map asked_npy_step steps) start
  follow_starts done start = ap (λ rest. steps_result (done + 1) rest start) (sym (drop-map asked_npy_step done steps))

module _ {X : Type 0} (steps : List NpyStep) (k : ℕ) (now : Meaning X) (total : Result (Meaning X) Refusal) (so_far : steps_result (k + 1) (map asked_npy_step (drop k steps)) now ≡ total) where
  -- the step at hand, and then the others
  here : (d : NpyStep) → k < length steps → and_then (numbered (k + 1) (npy_step_result (asked_npy_step (get_or steps k d)) now)) (steps_result (k + 1 + 1) (map asked_npy_step (drop (k + 1) steps))) ≡ total
  here d inside =
      let parts : drop k steps ≡ get_or steps k d ∷ drop (k + 1) steps = rw (add-one, drop-cons steps k d inside) refl in
      ap (λ rest. steps_result (k + 1) (map asked_npy_step rest) now) (sym parts) ∙ so_far

  one : (d : NpyStep) (r : Result (Meaning X) StepCause) → k < length steps → npy_step_result (asked_npy_step (get_or steps k d)) now ≡ r → and_then (numbered (k + 1) r) (steps_result (k + 1 + 1) (map asked_npy_step (drop (k + 1) steps))) ≡ total
  one d r inside e = ap (λ s. and_then (numbered (k + 1) s) (steps_result (k + 1 + 1) (map asked_npy_step (drop (k + 1) steps)))) (sym e) ∙ here d inside

  at_hand : (d : NpyStep) (r : Result (Meaning X) StepCause) → d ≡ get_or steps k d → npy_step_result (asked_npy_step d) now ≡ r → npy_step_result (asked_npy_step (get_or steps k d)) now ≡ r
  at_hand d r is e = ap (λ step. npy_step_result (asked_npy_step step) now) (sym is) ∙ e

  pub follow_more : (d : NpyStep) (next : Meaning X) → d ≡ get_or steps k d → k < length steps → npy_step_result (asked_npy_step d) now ≡ Ok next → steps_result (k + 1 + 1) (map asked_npy_step (drop (k + 1) steps)) next ≡ total
  follow_more d next is inside e = one d (Ok next) inside (at_hand d (Ok next) is e)

  pub follow_stops : (d : NpyStep) (cause : StepCause) → d ≡ get_or steps k d → k < length steps → npy_step_result (asked_npy_step d) now ≡ Err cause → total ≡ Err (record { number = k + 1; cause = cause })
  follow_stops d cause is inside e = sym (one d (Err cause) inside (at_hand d (Err cause) is e))

  pub follow_ends : length steps ≤ k → total ≡ Ok now
  follow_ends end = sym so_far ∙ ap (λ rest. steps_result (k + 1) (map asked_npy_step rest) now) (drop_all k steps end)

-- ---- Steps all of which lead to views

module _ (steps : List NpyStep) where
  pub views_start : (done : ℕ) → are_viewed (drop done (map asked_npy_step steps)) ≡ true → are_viewed (map asked_npy_step (drop done steps)) ≡ true
  views_start done are = ap are_viewed (sym (drop-map asked_npy_step done steps)) ∙ are

  views_parts : (k : ℕ) (d : NpyStep) → k < length steps → are_viewed (map asked_npy_step (drop k steps)) ≡ true → (is_viewed (asked_npy_step (get_or steps k d)) ≡ true) × (are_viewed (map asked_npy_step (drop (k + 1) steps)) ≡ true)
  views_parts k d inside are =
      let parts : drop k steps ≡ get_or steps k d ∷ drop (k + 1) steps = rw (add-one, drop-cons steps k d inside) refl in
      and_parts (is_viewed (asked_npy_step (get_or steps k d))) (are_viewed (map asked_npy_step (drop (k + 1) steps))) (ap (λ rest. are_viewed (map asked_npy_step rest)) (sym parts) ∙ are)

  pub view_here : (k : ℕ) (d : NpyStep) → d ≡ get_or steps k d → k < length steps → are_viewed (map asked_npy_step (drop k steps)) ≡ true → is_viewed (asked_npy_step d) ≡ true
  view_here k d is inside are = ap (λ step. is_viewed (asked_npy_step step)) is ∙ (views_parts k d inside are).0

  pub views_more : (k : ℕ) (d : NpyStep) → k < length steps → are_viewed (map asked_npy_step (drop k steps)) ≡ true → are_viewed (map asked_npy_step (drop (k + 1) steps)) ≡ true
  views_more k d inside are = (views_parts k d inside are).1

-- a step on a view of the array, and then a copy
pub copied_step : {X : Type 0} (step : AskedStep) (m v n o : Meaning X) → step_result step v ≡ Ok n → v ≡ m → o ≡ n → npy_step_result (Viewed step) m ≡ Ok o
copied_step step m v n o taken same copy = viewed_ok step m o (ap (step_result step) (sym same) ∙ taken ∙ ap Ok (sym copy))

-- a step of a script on the array itself
pub kept_step : {X : Type 0} (step : AskedStep) (m n : Meaning X) → keep_refusal step m.shape ≡ None → n.shape ≡ step_shape step m.shape → ((i : List ℕ) → n.at i ≡ inside n.shape i (m.at (step_index step m.shape i))) → npy_step_result (Viewed step) m ≡ Ok n
kept_step step m n allowed shape elements = viewed_ok step m n (taken_ok step m n (keep_allows step m.shape allowed) shape elements)
