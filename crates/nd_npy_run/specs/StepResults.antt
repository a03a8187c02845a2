-- What a step makes of an array's meaning, or the first cause against it.
use Rattle.std.specs.Prelude.{◌≡◌, ◌==◌, ℕ, Bool, true, false, nat_lt, nat_le, List, [], ◌∷◌, length, slice_index, Option, None, Some, Result, Ok, Err, IsTrue}
use Rattle.std.specs.List.{list_all}
use Rattle.std.specs.Option.{option_map}
use Rattle.nd_shape_and_slice.specs.declared.shape_builder.Order.TheVariants.{RowMajor}
use Rattle.nd_shape_and_slice.specs.ShapesAndIndexOrders.{in_box, size_of}
use Rattle.nd_array_core.specs.ArrayMeaning.{Meaning, meaning_through}
use Rattle.nd_array_core.specs.along.SelectedCoordinates.{selected_shape, selected_index}
use Rattle.nd_array_core.specs.reshape.ReshapeByRank.{regrouped_index}
use Rattle.nd_steps.specs.declared.refusal_causes.Cause.TheVariants as causes
use Rattle.nd_steps.specs.StepTestsAndShapes.{Test, first_failed, has_axis, size_test, refusal, unless, step_shape, step_index}
use Rattle.nd_npy_run.specs.declared.steps.errors.StepCause.{StepCause}
use Rattle.nd_npy_run.specs.declared.steps.errors.StepCause.TheVariants.{Layout, Count}
use Rattle.nd_npy_run.specs.ViewSelectAndReshapeSteps.{AskedNpyStep, Viewed, Chosen, Regrouped}

-- ---- The causes against a step

-- Returns the tests of choosing coordinates of an axis.
abbrev pub choice_tests : ℕ → List ℕ → List ℕ → List Test
choice_tests axis indexes ns =
    has_axis axis ns ∷ (list_all (λ k. nat_lt k (slice_index ns axis)) indexes, causes.Index)
    ∷ size_test (selected_shape ns axis indexes) ∷ []

-- Returns the tests of new lengths alone.
abbrev pub lengths_tests : List ℕ → List Test
lengths_tests to = (nat_le (length to) 32, causes.TooManyAxes) ∷ size_test to ∷ []

-- Returns the cause, or that there are more or fewer elements if there is no cause and the test fails.
abbrev pub or_other_count : Option StepCause → Bool → Option StepCause
or_other_count (Some cause) same = Some cause
or_other_count None true = None
or_other_count None false = Some Count

-- Returns the first cause against a step on an array of these lengths, if there is one.
abbrev pub npy_refusal : AskedNpyStep → List ℕ → Option StepCause
npy_refusal (Viewed step) ns = option_map Layout (refusal step ns)
npy_refusal (Chosen axis indexes) ns = option_map Layout (first_failed (choice_tests axis indexes ns))
npy_refusal (Regrouped to) ns = or_other_count (option_map Layout (first_failed (lengths_tests to))) (size_of to == size_of ns)

-- Says that the result of a check tells the first cause `refused`, if there is one.
abbrev pub RefusesStep : {X : Type 0} → Result X StepCause → Option StepCause → Type 0
RefusesStep (Ok x) refused = refused ≡ None
RefusesStep (Err cause) refused = refused ≡ Some cause

-- ---- What a step makes

-- Returns the lengths after a step.
abbrev pub npy_step_shape : AskedNpyStep → List ℕ → List ℕ
npy_step_shape (Viewed step) ns = step_shape step ns
npy_step_shape (Chosen axis indexes) ns = selected_shape ns axis indexes
npy_step_shape (Regrouped to) ns = to

-- Returns the index before a step that the index `i` after it names.
abbrev pub npy_step_index : AskedNpyStep → List ℕ → List ℕ → List ℕ
npy_step_index (Viewed step) ns i = step_index step ns i
npy_step_index (Chosen axis indexes) ns i = selected_index axis indexes i
npy_step_index (Regrouped to) ns i = regrouped_index RowMajor ns to i

-- Returns the array after a step.
abbrev pub npy_step_meaning : {A : Type 0} → AskedNpyStep → Meaning A → Meaning A
npy_step_meaning step m = meaning_through (npy_step_shape step m.shape) (npy_step_index step m.shape) m

-- Returns the array after a step, or the first cause against the step.
abbrev pub npy_step_result : {A : Type 0} → AskedNpyStep → Meaning A → Result (Meaning A) StepCause
npy_step_result step m = unless (npy_refusal step m.shape) (npy_step_meaning step m)

-- Says that a step makes `n` of the array `m`, or that the given cause is the first one against it.
abbrev pub MovesByStep : {A : Type 0} → AskedNpyStep → Meaning A → Meaning A → Option StepCause → Type 0
MovesByStep step m n None = npy_step_result step m ≡ Ok n
MovesByStep step m n (Some cause) = npy_step_result step m ≡ Err cause

-- ---- What steps make of an index

-- Returns the lengths after a list of steps.
abbrev pub npy_shape_along : List AskedNpyStep → List ℕ → List ℕ
npy_shape_along [] ns = ns
npy_shape_along (step ∷ steps) ns = npy_shape_along steps (npy_step_shape step ns)

-- Returns the index before a list of steps that the index `i` after it names: the composition of the steps' maps.
abbrev pub npy_index_along : List AskedNpyStep → List ℕ → List ℕ → List ℕ
npy_index_along [] ns i = i
npy_index_along (step ∷ steps) ns i = npy_step_index step ns (npy_index_along steps (npy_step_shape step ns) i)

-- Says that the steps make `n` of the array `m`: each index at their end names, by the composition of the steps' maps,
-- an index of `m` with the same element.
abbrev pub LeadsAlongSteps : {A : Type 0} → List AskedNpyStep → Meaning A → Meaning A → Type 0
LeadsAlongSteps steps m n =
    (n.shape ≡ npy_shape_along steps m.shape)
    × ((i : List ℕ) → IsTrue (in_box n.shape i) → IsTrue (in_box m.shape (npy_index_along steps m.shape i)) × (n.at i ≡ m.at (npy_index_along steps m.shape i)))
