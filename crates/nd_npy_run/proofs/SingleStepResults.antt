-- One step on an array: what it makes, or why it is refused.
use Rattle.std.proofs.Common.{◌≡◌, ◌∙◌, ℕ, ◌<◌, ◌==◌, ◌^◌, false, List, length, get_or, Option, Some, None, Ok, Err, refl, sym, ap, subst}
use Rattle.std.specs.Prelude.{slice_index}
use Rattle.std.specs.Option.{option_map}
use Rattle.std.proofs.lemmas.Bool.{ltb-true, eqb-true}
use Rattle.nd_shape_and_slice.specs.ShapesAndIndexOrders.{size_of, nonzero_product}
use Rattle.nd_array_core.specs.ArrayMeaning.{Meaning, inside}
use Rattle.nd_array_core.specs.along.SelectedCoordinates.{selected_shape, selected_index, selected_at}
use Rattle.nd_array_core.specs.reshape.ReshapeByRank.{IsShapeOf}
use Rattle.nd_read.specs.ScriptCalls.{AskedStep}
use Rattle.nd_steps.specs.declared.refusal_causes.Cause.{Cause}
use Rattle.nd_steps.specs.StepTestsAndShapes.{first_failed, refusal, keep_refusal, shares}
use Rattle.nd_steps.proofs.StepEquations.{seen_is}
use Rattle.nd_steps.proofs.StepChecks.{all_passed}
use Rattle.nd_npy_run.specs.declared.steps.errors.StepCause.{StepCause}
use Rattle.nd_npy_run.specs.declared.steps.errors.StepCause.TheVariants.{Layout, Count}
use Rattle.nd_npy_run.specs.ViewSelectAndReshapeSteps.{AskedNpyStep, Viewed, Chosen, Regrouped}
use Rattle.nd_npy_run.specs.StepResults.{choice_tests, lengths_tests, npy_refusal, npy_step_shape, npy_step_meaning, npy_step_result}
use Rattle.nd_npy_run.specs.StepListResults.{numbered}
use Rattle.nd_npy_run.proofs.StepMapsLeadInside.{listed_below, same_count, no_cause}

module _ {A : Type 0} (step : AskedNpyStep) (m : Meaning A) where
  -- a step that nothing is against
  pub step_ok : (n : Meaning A) → npy_refusal step m.shape ≡ None → n ≡ npy_step_meaning step m → npy_step_result step m ≡ Ok n
  step_ok n allowed same = rw allowed (ap Ok (sym same))

  pub step_err : (number : ℕ) (cause : StepCause) → npy_refusal step m.shape ≡ Some cause → numbered number (npy_step_result step m) ≡ Err (record { number = number; cause = cause })
  step_err number cause refused = rw refused refl

  pub step_made : npy_refusal step m.shape ≡ None → 0 < size_of (npy_step_shape step m.shape) → (made : Meaning A) × (npy_step_result step m ≡ Ok made) × (0 < size_of made.shape)
  step_made allowed some = (npy_step_meaning step m, rw allowed refl, some)

-- ---- Chosen coordinates

module _ {A : Type 0} (axis : ℕ) (indexes : List ℕ) (m : Meaning A) where
  -- what is known of a choice by the lengths `ns`, which are those of the array
  pub choice_by : {r : Option Cause} (ns : List ℕ) → ns ≡ m.shape → first_failed (choice_tests axis indexes ns) ≡ r → first_failed (choice_tests axis indexes m.shape) ≡ r
  choice_by {r} ns same is = subst (λ lengths. first_failed (choice_tests axis indexes lengths) ≡ r) same is

  pub chosen_ok : (n : Meaning A) → first_failed (choice_tests axis indexes m.shape) ≡ None → n.shape ≡ selected_shape m.shape axis indexes → ((i : List ℕ) → n.at i ≡ selected_at m axis indexes i) → npy_step_result (Chosen axis indexes) m ≡ Ok n
  chosen_ok n free shape elements =
      step_ok (Chosen axis indexes) m n (ap (option_map Layout) free)
      (seen_is m n (selected_shape m.shape axis indexes) (selected_index axis indexes) shape (λ i. elements i ∙ ap (λ ns. inside ns i (m.at (selected_index axis indexes i))) (sym shape)))

  pub chosen_err : (number : ℕ) (cause : Cause) → first_failed (choice_tests axis indexes m.shape) ≡ Some cause → numbered number (npy_step_result (Chosen axis indexes) m) ≡ Err (record { number = number; cause = Layout cause })
  chosen_err number cause refused = step_err (Chosen axis indexes) m number (Layout cause) (ap (option_map Layout) refused)

  pub chosen_lacks : first_failed (choice_tests axis indexes m.shape) ≡ None → 0 < size_of (selected_shape m.shape axis indexes) → (made : Meaning A) × (npy_step_result (Chosen axis indexes) m ≡ Ok made) × (0 < size_of made.shape)
  chosen_lacks free some = step_made (Chosen axis indexes) m (ap (option_map Layout) free) some

  module _ (free : first_failed (choice_tests axis indexes m.shape) ≡ None) where
    -- what can be chosen
    pub choice_axis : axis < length m.shape
    choice_axis = ltb-true axis (length m.shape) (all_passed _ _ _ free).0

    pub choice_listed : (k d : ℕ) → k < length indexes → get_or indexes k d < slice_index m.shape axis
    choice_listed k d lt = listed_below (slice_index m.shape axis) indexes k d (all_passed _ _ _ (all_passed _ _ _ free).1).0 lt

    pub choice_checked : nonzero_product (selected_shape m.shape axis indexes) < 2 ^ 63
    choice_checked = ltb-true (nonzero_product (selected_shape m.shape axis indexes)) (2 ^ 63) (all_passed _ _ _ (all_passed _ _ _ (all_passed _ _ _ free).1).1).0

-- ---- Other lengths

pub lengths_fit : (to ns : List ℕ) → npy_refusal (Regrouped to) ns ≡ None → IsShapeOf ns to
lengths_fit to ns free =
    let r = first_failed (lengths_tests to) in
    let tests = all_passed _ _ _ (no_cause (size_of to == size_of ns) r Layout free) in
    (ltb-true (nonzero_product to) (2 ^ 63) (all_passed _ _ _ tests.1).0, eqb-true _ _ (same_count (option_map Layout r) (size_of to == size_of ns) free))

pub count_differs : (to ns : List ℕ) → first_failed (lengths_tests to) ≡ None → (size_of to == size_of ns) ≡ false → npy_refusal (Regrouped to) ns ≡ Some Count
count_differs to ns free other = rw (free, other) refl

pub lengths_err : (to ns : List ℕ) (cause : Cause) → first_failed (lengths_tests to) ≡ Some cause → npy_refusal (Regrouped to) ns ≡ Some (Layout cause)
lengths_err to ns cause refused = rw refused refl

-- ---- Steps of a script that aren't broadcasts

pub kept_tests : (step : AskedStep) (ns : List ℕ) → shares step ≡ false → keep_refusal step ns ≡ refusal step ns
kept_tests step ns alone = rw alone refl

pub viewed_refused : {A : Type 0} (step : AskedStep) (m : Meaning A) (number : ℕ) (cause : Cause) → refusal step m.shape ≡ Some cause → numbered number (npy_step_result (Viewed step) m) ≡ Err (record { number = number; cause = Layout cause })
viewed_refused step m number cause refused = step_err (Viewed step) m number (Layout cause) (ap (option_map Layout) refused)
