-- The maps of steps lead inside, and the map of a list of steps is the composition of theirs.
use Rattle.std.proofs.Common.{◌≡◌, ◌∙◌, ℕ, zero, suc, ◌+◌, ◌<◌, ◌==◌, Bool, true, false, List, [], ◌∷◌, length, get_or, set, Option, Some, None, Ok, refl, subst, arith}
use Rattle.std.specs.Prelude.{nat_lt, slice_index}
use Rattle.std.specs.List.{list_all}
use Rattle.std.specs.Option.{option_map}
use Rattle.std.proofs.lemmas.Bool.{and_parts, and_from, lt-ltb, ltb-true, eqb-true}
use Rattle.nd_shape_and_slice.specs.declared.shape_builder.Order.TheVariants.{RowMajor}
use Rattle.nd_shape_and_slice.specs.ShapesAndIndexOrders.{in_box, size_of, row_rank}
use Rattle.nd_shape_and_slice.proofs.RowMajorNumberInverse.{in_box-index_at}
use Rattle.nd_shape_and_slice.proofs.RowMajor.{row_rank_below}
use Rattle.nd_array_core.specs.LayoutLaws.{LeadsInside}
use Rattle.nd_array_core.specs.ArrayMeaning.{Meaning}
use Rattle.nd_array_core.specs.along.SelectedCoordinates.{selected_shape, selected_index}
use Rattle.nd_array_core.specs.reshape.ReshapeByRank.{regrouped_index}
use Rattle.nd_steps.specs.StepListLaws.{StepsLeadInside}
use Rattle.nd_steps.specs.StepListResults.{and_then}
use Rattle.nd_steps.specs.StepTestsAndShapes.{first_failed, refusal, unless}
use Rattle.nd_steps.proofs.StepChecks.{all_passed}
use Rattle.nd_npy_run.specs.declared.steps.errors.StepCause.{StepCause}
use Rattle.nd_npy_run.specs.declared.steps.errors.StepCause.TheVariants.{Layout}
use Rattle.nd_npy_run.specs.ViewSelectAndReshapeSteps.{AskedNpyStep, Viewed, Chosen, Regrouped}
use Rattle.nd_npy_run.specs.StepResults.{choice_tests, lengths_tests, or_other_count, npy_refusal, npy_step_shape, npy_step_meaning, npy_index_along, LeadsAlongSteps}
use Rattle.nd_npy_run.specs.StepListResults.{numbered, steps_result}
use Rattle.nd_npy_run.specs.StepListLaws.{NpyStepsLeadInside, StepsLeadAlong}

pub none_mapped : {X Y : Type 0} (f : X → Y) (r : Option X) → option_map f r ≡ None → r ≡ None
none_mapped f None e = refl
none_mapped f (Some x) e = absurd cc

pub same_count : (r : Option StepCause) (t : Bool) → or_other_count r t ≡ None → t ≡ true
same_count None true e = refl
same_count None false e = absurd cc
same_count (Some cause) t e = absurd cc

pub no_cause : {C : Type 0} (t : Bool) (r : Option C) (f : C → StepCause) → or_other_count (option_map f r) t ≡ None → r ≡ None
no_cause t None f e = refl
no_cause t (Some cause) f e = absurd cc

-- ---- Chosen coordinates

pub listed_below : (n : ℕ) (xs : List ℕ) (k d : ℕ) → list_all (λ x. nat_lt x n) xs ≡ true → k < length xs → get_or xs k d < n
listed_below n [] k d all lt = absurd (omega arith)
listed_below n (x ∷ xs) zero d all lt = ltb-true x n (and_parts (nat_lt x n) (list_all (λ x. nat_lt x n) xs) all).0
listed_below n (x ∷ xs) (suc k) d all lt = listed_below n xs k d (and_parts (nat_lt x n) (list_all (λ x. nat_lt x n) xs) all).1 (omega (arith, lt))

chosen_inside : (ns : List ℕ) (axis : ℕ) (indexes : List ℕ) → axis < length ns → list_all (λ k. nat_lt k (slice_index ns axis)) indexes ≡ true → LeadsInside (selected_shape ns axis indexes) (selected_index axis indexes) ns
chosen_inside [] axis indexes on all i h = absurd (omega (arith, on))
chosen_inside (n ∷ ns) axis indexes on all [] h = absurd (no_index axis h)
  where
    no_index : (a : ℕ) → in_box (set (n ∷ ns) a (length indexes)) [] ≡ true → ⊥
    no_index zero e = absurd cc
    no_index (suc a) e = absurd cc
chosen_inside (n ∷ ns) zero indexes on all (x ∷ i) h =
    let p = and_parts (nat_lt x (length indexes)) (in_box ns i) h in
    and_from (nat_lt (slice_index indexes x) n) (in_box ns i) (lt-ltb (slice_index indexes x) n (listed_below n indexes x 0 all (ltb-true x (length indexes) p.0))) p.1
chosen_inside (n ∷ ns) (suc axis) indexes on all (x ∷ i) h =
    let p = and_parts (nat_lt x n) (in_box (selected_shape ns axis indexes) i) h in
    and_from (nat_lt x n) (in_box ns (selected_index axis indexes i)) p.0 (chosen_inside ns axis indexes (omega (arith, on)) all i p.1)

-- ---- Other lengths

regrouped_inside : (ns to : List ℕ) → size_of to ≡ size_of ns → LeadsInside to (regrouped_index RowMajor ns to) ns
regrouped_inside ns to same i h = in_box-index_at ns (row_rank to i) (omega (arith, row_rank_below to i h, same))

-- ---- All steps

pub each_leads : StepsLeadInside → NpyStepsLeadInside
each_leads viewed (Viewed step) ns e = viewed step ns (none_mapped Layout (refusal step ns) e)
each_leads viewed (Chosen axis indexes) ns e =
    let p = all_passed _ _ _ (none_mapped Layout (first_failed (choice_tests axis indexes ns)) e) in
    chosen_inside ns axis indexes (ltb-true axis (length ns) p.0) (all_passed _ _ _ p.1).0
each_leads viewed (Regrouped to) ns e = regrouped_inside ns to (eqb-true _ _ (same_count (option_map Layout (first_failed (lengths_tests to))) (size_of to == size_of ns) e))

module _ {A : Type 0} (inside : NpyStepsLeadInside) where
  step_leads : (n : ℕ) (r : Option StepCause) (step : AskedNpyStep) (steps : List AskedNpyStep) (m end : Meaning A) → npy_refusal step m.shape ≡ r → ((x : Meaning A) → steps_result (n + 1) steps x ≡ Ok end → LeadsAlongSteps steps x end)
      → and_then (numbered n (unless r (npy_step_meaning step m))) (steps_result (n + 1) steps) ≡ Ok end → LeadsAlongSteps (step ∷ steps) m end
  step_leads n None step steps m end allowed rest e =
      let more = rest (npy_step_meaning step m) e in
      (more.0, λ i h. (let r = more.1 i h in (inside step m.shape allowed (npy_index_along steps (npy_step_shape step m.shape) i) r.0, r.1 ∙ rw r.0 refl)))
  step_leads n (Some cause) step steps m end refused rest e = absurd cc

  -- what steps lead to, by the composition of their maps
  pub steps_lead : StepsLeadAlong A
  steps_lead n [] m end e = let same : m ≡ end = cc in subst (λ x. LeadsAlongSteps [] m x) same (refl, λ i h. (h, refl))
  steps_lead n (step ∷ steps) m end e = step_leads n (npy_refusal step m.shape) step steps m end refl (λ x. steps_lead (n + 1) steps x end) e
