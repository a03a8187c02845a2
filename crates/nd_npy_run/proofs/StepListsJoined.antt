-- The first steps of a list, and those that follow.
use Rattle.std.proofs.Common.{◌≡◌, ◌∙◌, ℕ, ◌+◌, ◌-◌, ◌<◌, ◌≤◌, true, false, List, [], ◌∷◌, ◌++◌, length, map, get_or, take, drop, drop-cons, add-one, append-nil, Result, Ok, Err, refl, sym, ap, arith, inl, inr}
use Rattle.std.proofs.lemmas.List.{drop_all, drop-map, take-map, take_more, map-append, get_or-map, length-map, length-take-le, take-append-drop}
use Rattle.std.proofs.lemmas.List.Folds.{list_all_at}
use Rattle.nd_shape_and_slice.specs.ShapesAndIndexOrders.{size_of}
use Rattle.nd_array_core.specs.ArrayMeaning.{Meaning}
use Rattle.nd_steps.specs.StepListResults.{and_then}
use Rattle.nd_npy_run.specs.declared.steps.errors.Refusal.{Refusal}
use Rattle.nd_npy_run.specs.declared.steps.errors.StepCause.{StepCause}
use Rattle.nd_npy_run.specs.declared.steps.errors.NpyStepsError.{NpyStepsError}
use Rattle.nd_npy_run.specs.declared.steps.errors.NpyStepsError.TheVariants.{Refused, Memory}
use Rattle.nd_npy_run.specs.declared.steps.step.NpyStep.{NpyStep}
use Rattle.nd_npy_run.specs.ViewSelectAndReshapeSteps.{AskedNpyStep, asked_npy_step, is_viewed, are_viewed}
use Rattle.nd_npy_run.specs.StepResults.{npy_step_result}
use Rattle.nd_npy_run.specs.StepListResults.{numbered, steps_result, array_after_steps, rest_of_steps, MayLackToFollow, GivesArrayAfterSome, GivesArrayAfterStep}

module _ {X : Type 0} where
  -- steps, and then others
  after_both : (n : ℕ) (first second : List AskedNpyStep) (m : Meaning X) → steps_result n (first ++ second) m ≡ and_then (steps_result n first m) (steps_result (n + length first) second)
  after_both n [] second m = let same : n ≡ n + 0 = omega arith in ap (λ k. steps_result k second m) same
  after_both n (step ∷ first) second m = by_step (npy_step_result step m) (after_both (n + 1) first second)
    where
      by_step : (r : Result (Meaning X) StepCause) → ((x : Meaning X) → steps_result (n + 1) (first ++ second) x ≡ and_then (steps_result (n + 1) first x) (steps_result (n + 1 + length first) second))
          → and_then (numbered n r) (steps_result (n + 1) (first ++ second)) ≡ and_then (and_then (numbered n r) (steps_result (n + 1) first)) (steps_result (n + length (step ∷ first)) second)
      by_step (Ok x) rest =
          let same : n + 1 + length first ≡ n + length (step ∷ first) = omega arith in
          rest x ∙ ap (λ k. and_then (steps_result (n + 1) first x) (steps_result k second)) same
      by_step (Err cause) rest = refl

  joined : (first second : List AskedNpyStep) (m now : Meaning X) → array_after_steps first m ≡ Ok now → array_after_steps (first ++ second) m ≡ steps_result (length first + 1) second now
  joined first second m now e =
      let same : 1 + length first ≡ length first + 1 = omega arith in
      after_both 1 first second m ∙ ap (λ r. and_then r (steps_result (1 + length first) second)) e ∙ ap (λ k. steps_result k second now) same

  -- all steps are the first ones and the rest
  pub after_all : (steps : List AskedNpyStep) (done : ℕ) (m now : Meaning X) → done ≤ length steps → array_after_steps (take done steps) m ≡ Ok now → array_after_steps steps m ≡ rest_of_steps done steps now
  after_all steps done m now few e =
      ap (λ xs. array_after_steps xs m) (sym (take-append-drop done steps)) ∙ joined (take done steps) (drop done steps) m now e
      ∙ ap (λ k. steps_result (k + 1) (drop done steps) now) (length-take-le done steps few)

module _ {X : Type 0} (steps : List NpyStep) (k : ℕ) (start now : Meaning X) (so_far : array_after_steps (map asked_npy_step (take k steps)) start ≡ Ok now) where
  long : k < length steps → length (map asked_npy_step (take k steps)) ≡ k
  long inside = length-map (take k steps) asked_npy_step ∙ length-take-le k steps (omega (arith, inside))

  split : (d : NpyStep) → k < length steps → map asked_npy_step steps ≡ map asked_npy_step (take k steps) ++ (asked_npy_step (get_or steps k d) ∷ map asked_npy_step (drop (k + 1) steps))
  split d inside =
      let parts : drop k steps ≡ get_or steps k d ∷ drop (k + 1) steps = rw (add-one, drop-cons steps k d inside) refl in
      ap (map asked_npy_step) (sym (take-append-drop k steps)) ∙ map-append asked_npy_step (take k steps) (drop k steps) ∙ ap (λ rest. map asked_npy_step (take k steps) ++ map asked_npy_step rest) parts

  front : (d : NpyStep) → k < length steps → map asked_npy_step (take (k + 1) steps) ≡ map asked_npy_step (take k steps) ++ (asked_npy_step (get_or steps k d) ∷ [])
  front d inside = ap (map asked_npy_step) (take_more steps k d inside) ∙ map-append asked_npy_step (take k steps) (get_or steps k d ∷ [])

  one : (d : NpyStep) (r : Result (Meaning X) StepCause) (others : List AskedNpyStep) → k < length steps → npy_step_result (asked_npy_step (get_or steps k d)) now ≡ r
      → array_after_steps (map asked_npy_step (take k steps) ++ (asked_npy_step (get_or steps k d) ∷ others)) start ≡ and_then (numbered (k + 1) r) (steps_result (k + 1 + 1) others)
  one d r others inside e =
      joined (map asked_npy_step (take k steps)) (asked_npy_step (get_or steps k d) ∷ others) start now so_far
      ∙ ap (λ n. steps_result (n + 1) (asked_npy_step (get_or steps k d) ∷ others) now) (long inside)
      ∙ ap (λ s. and_then (numbered (k + 1) s) (steps_result (k + 1 + 1) others)) e

  taken_more : (d : NpyStep) (next : Meaning X) → k < length steps → npy_step_result (asked_npy_step (get_or steps k d)) now ≡ Ok next → array_after_steps (map asked_npy_step (take (k + 1) steps)) start ≡ Ok next
  taken_more d next inside e = ap (λ xs. array_after_steps xs start) (front d inside) ∙ one d (Ok next) [] inside e

  stops_by : (d : NpyStep) (r : Result (Meaning X) StepCause) (refusal : Refusal) → k < length steps → npy_step_result (asked_npy_step (get_or steps k d)) now ≡ r → numbered (k + 1) r ≡ Err refusal → array_after_steps (map asked_npy_step steps) start ≡ Err refusal
  stops_by d (Ok x) refusal inside e is = absurd cc
  stops_by d (Err cause) refusal inside e is = ap (λ xs. array_after_steps xs start) (split d inside) ∙ one d (Err cause) (map asked_npy_step (drop (k + 1) steps)) inside e ∙ is

  taken_stops : (d : NpyStep) (refusal : Refusal) → k < length steps → numbered (k + 1) (npy_step_result (asked_npy_step (get_or steps k d)) now) ≡ Err refusal → array_after_steps (map asked_npy_step steps) start ≡ Err refusal
  taken_stops d refusal inside is = stops_by d (npy_step_result (asked_npy_step (get_or steps k d)) now) refusal inside refl is

  taken_lacks : (d : NpyStep) (made : Meaning X) → k < length steps → npy_step_result (asked_npy_step (get_or steps k d)) now ≡ Ok made → 0 < size_of made.shape → are_viewed (map asked_npy_step steps) ≡ false → MayLackToFollow (map asked_npy_step steps) start
  taken_lacks d made inside e some copies =
      let parts : map asked_npy_step steps ≡ map asked_npy_step (take (k + 1) steps) ++ map asked_npy_step (drop (k + 1) steps) = ap (map asked_npy_step) (sym (take-append-drop (k + 1) steps)) ∙ map-append asked_npy_step (take (k + 1) steps) (drop (k + 1) steps) in
      (map asked_npy_step (take (k + 1) steps), map asked_npy_step (drop (k + 1) steps), made, parts, taken_more d made inside e, some, inr copies)

  -- the step at hand fails
  pub taken_fails : (d : NpyStep) (count : ℕ) (error : NpyStepsError) → d ≡ get_or steps k d → k < length steps → are_viewed (map asked_npy_step steps) ≡ false
      → GivesArrayAfterStep {X = Meaning X} (λ m. m) (k + 1) (asked_npy_step d) now (Err error) → GivesArrayAfterSome {X = Meaning X} (λ m. m) count (map asked_npy_step steps) start (Err error)
  taken_fails d count (Refused refusal) is inside copies h = taken_stops d refusal inside (ap (λ step. numbered (k + 1) (npy_step_result (asked_npy_step step) now)) (sym is) ∙ h)
  taken_fails d count Memory is inside copies h = taken_lacks d h.0 inside (ap (λ step. npy_step_result (asked_npy_step step) now) (sym is) ∙ h.1) h.2 copies

  pub taken_next : (d : NpyStep) (next : Meaning X) → d ≡ get_or steps k d → k < length steps → npy_step_result (asked_npy_step d) now ≡ Ok next → array_after_steps (map asked_npy_step (take (k + 1) steps)) start ≡ Ok next
  taken_next d next is inside e = taken_more d next inside (ap (λ step. npy_step_result (asked_npy_step step) now) (sym is) ∙ e)

  pub taken_all : k ≤ length steps → array_after_steps (take k (map asked_npy_step steps)) start ≡ Ok now
  taken_all few = ap (λ xs. array_after_steps xs start) (take-map asked_npy_step k steps) ∙ so_far

-- at the end memory may be lacking for the whole array
pub lacks_at_end : {X : Type 0} (steps : List AskedNpyStep) (m n : Meaning X) → array_after_steps steps m ≡ Ok n → 0 < size_of n.shape → MayLackToFollow steps m
lacks_at_end {X} steps m n e some = (steps, [], n, sym (append-nil steps), e, some, inl refl)

-- ---- The last step that may copy elements

module _ (steps : List NpyStep) where
  pub views_none : (count : ℕ) → count ≡ length steps → are_viewed (drop count (map asked_npy_step steps)) ≡ true
  views_none count is = ap are_viewed (drop_all count (map asked_npy_step steps) (omega (arith, is, length-map steps asked_npy_step)))

  pub views_one : (count : ℕ) (d : NpyStep) → 0 < count → count ≤ length steps → is_viewed (asked_npy_step (get_or steps (count - 1) d)) ≡ true → are_viewed (drop count (map asked_npy_step steps)) ≡ true → are_viewed (drop (count - 1) (map asked_npy_step steps)) ≡ true
  views_one count d some few is are =
      let more : count ≡ count - 1 + 1 = omega (arith, some) in
      let inside : count - 1 < length steps = omega (arith, some, few) in
      let parts : drop (count - 1) steps ≡ get_or steps (count - 1) d ∷ drop (count - 1 + 1) steps = rw (add-one, drop-cons steps (count - 1) d inside) refl in
      let rest : are_viewed (map asked_npy_step (drop (count - 1 + 1) steps)) ≡ true = ap (λ k. are_viewed (map asked_npy_step (drop k steps))) (sym more) ∙ ap are_viewed (sym (drop-map asked_npy_step count steps)) ∙ are in
      ap are_viewed (drop-map asked_npy_step (count - 1) steps) ∙ ap (λ xs. are_viewed (map asked_npy_step xs)) parts ∙ rw (is, rest) refl

  pub copies_one : (k : ℕ) (d : NpyStep) → k < length steps → is_viewed (asked_npy_step (get_or steps k d)) ≡ false → are_viewed (map asked_npy_step steps) ≡ false
  copies_one k d inside is = list_all_at is_viewed (map asked_npy_step steps) k (asked_npy_step d) (omega (arith, inside, length-map steps asked_npy_step)) (ap is_viewed (get_or-map asked_npy_step steps k d (asked_npy_step d) inside) ∙ is)
