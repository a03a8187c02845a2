-- What a list of steps makes of an array's meaning, or the first step that is refused.
use Rattle.std.specs.Prelude.{◌≡◌, ◌⊎◌, ◌<◌, ℕ, ◌+◌, List, [], ◌∷◌, ◌++◌, take, drop, Result, Ok, Err, false}
use Rattle.nd_shape_and_slice.specs.ShapesAndIndexOrders.{size_of}
use Rattle.nd_array_core.specs.ArrayMeaning.{Meaning}
use Rattle.nd_steps.specs.StepListResults.{and_then}
use Rattle.nd_npy_run.specs.declared.steps.errors.Refusal.{Refusal}
use Rattle.nd_npy_run.specs.declared.steps.errors.StepCause.{StepCause}
use Rattle.nd_npy_run.specs.declared.steps.errors.NpyStepsError.{NpyStepsError}
use Rattle.nd_npy_run.specs.declared.steps.errors.NpyStepsError.TheVariants.{Refused, Memory}
use Rattle.nd_npy_run.specs.ViewSelectAndReshapeSteps.{AskedNpyStep, are_viewed}
use Rattle.nd_npy_run.specs.StepResults.{npy_step_result, LeadsAlongSteps}

-- Returns a value, or a cause together with the number `n`.
abbrev pub numbered : {X : Type 0} → ℕ → Result X StepCause → Result X Refusal
numbered n (Ok x) = Ok x
numbered n (Err cause) = Err (record { number = n; cause = cause })

-- Returns the array after the steps, each taken after the one before, or the first step that is refused and why. The
-- number of the first step is `n`.
abbrev pub steps_result : {A : Type 0} → ℕ → List AskedNpyStep → Meaning A → Result (Meaning A) Refusal
steps_result n [] m = Ok m
steps_result n (step ∷ steps) m = and_then (numbered n (npy_step_result step m)) (steps_result (n + 1) steps)

-- Returns the array after all steps, which are numbered from 1 on, or the first step that is refused and why.
abbrev pub array_after_steps : {A : Type 0} → List AskedNpyStep → Meaning A → Result (Meaning A) Refusal
array_after_steps steps m = steps_result 1 steps m

-- Returns the array after the steps that follow the first `done` ones, or the first of these that is refused and why.
abbrev pub rest_of_steps : {A : Type 0} → ℕ → List AskedNpyStep → Meaning A → Result (Meaning A) Refusal
rest_of_steps done steps m = steps_result (done + 1) (drop done steps) m

-- Says that the steps that follow the first `done` ones make `n` of the array `m`, or that the error is the first refusal.
abbrev pub EndsIn : {A X : Type 0} → ℕ → List AskedNpyStep → Meaning A → Meaning A → Result X Refusal → Type 0
EndsIn done steps m n (Ok x) = rest_of_steps done steps m ≡ Ok n
EndsIn done steps m n (Err refusal) = rest_of_steps done steps m ≡ Err refusal

-- Says that the steps that follow the first `done` ones lead from the array `m` to `n`.
abbrev pub LeadsOn : {A : Type 0} → ℕ → List AskedNpyStep → Meaning A → Meaning A → Type 0
LeadsOn done steps m n = LeadsAlongSteps (drop done steps) m n

-- Says that memory may be lacking for these steps: after some of them, none of which is refused, the array has an element.
-- These are all steps if all are steps of a script.
abbrev pub MayLackToFollow : {A : Type 0} → List AskedNpyStep → Meaning A → Type 0
MayLackToFollow {A} steps m =
    (front : List AskedNpyStep) × (rest : List AskedNpyStep) × (n : Meaning A) × (steps ≡ front ++ rest) × (array_after_steps front m ≡ Ok n)
    × (0 < size_of n.shape) × ((rest ≡ []) ⊎ (are_viewed steps ≡ false))

-- Says that the result is the array after the first `count` steps, which `view` shows, or the first refusal.
abbrev pub GivesArrayAfterSome : {A X : Type 0} → (X → Meaning A) → ℕ → List AskedNpyStep → Meaning A → Result X NpyStepsError → Type 0
GivesArrayAfterSome view count steps m (Ok x) = array_after_steps (take count steps) m ≡ Ok (view x)
GivesArrayAfterSome view count steps m (Err (Refused refusal)) = array_after_steps steps m ≡ Err refusal
GivesArrayAfterSome view count steps m (Err Memory) = MayLackToFollow steps m

-- Says that the result is the array after the steps, which `view` shows, or the first refusal.
abbrev pub GivesArrayAfter : {A X : Type 0} → (X → Meaning A) → List AskedNpyStep → Meaning A → Result X NpyStepsError → Type 0
GivesArrayAfter view steps m (Ok x) = array_after_steps steps m ≡ Ok (view x)
GivesArrayAfter view steps m (Err (Refused refusal)) = array_after_steps steps m ≡ Err refusal
GivesArrayAfter view steps m (Err Memory) = MayLackToFollow steps m

-- Says that the result is the array after a step, which `view` shows, or the refusal of the step, whose number is `n`.
-- Memory can be lacking only if the step isn't refused and the array after it has an element.
abbrev pub GivesArrayAfterStep : {A X : Type 0} → (X → Meaning A) → ℕ → AskedNpyStep → Meaning A → Result X NpyStepsError → Type 0
GivesArrayAfterStep view n step m (Ok x) = npy_step_result step m ≡ Ok (view x)
GivesArrayAfterStep view n step m (Err (Refused refusal)) = numbered n (npy_step_result step m) ≡ Err refusal
GivesArrayAfterStep {A} view n step m (Err Memory) = (made : Meaning A) × (npy_step_result step m ≡ Ok made) × (0 < size_of made.shape)
