-- What a step or a path of steps makes of an array's meaning, or the first cause against it.
use Rattle.std.specs.Prelude.{◌≡◌, ℕ, List, [], ◌∷◌, Option, Result, Ok, Err, IsTrue}
use Rattle.nd_shape_and_slice.specs.ShapesAndIndexOrders.{in_box}
use Rattle.nd_array_core.specs.ArrayMeaning.{Meaning, meaning_through}
use Rattle.nd_read.specs.ScriptCalls.{AskedStep}
use Rattle.nd_steps.specs.declared.refusal_causes.Cause.{Cause}
use Rattle.nd_steps.specs.StepTestsAndShapes.{Test, first_failed, tests_of, refusal, unless, step_shape, step_index, shape_along, index_along}
use Rattle.nd_steps.specs.WritesThroughViewsAndSplits.{path_tests}

-- Returns the array that is seen after a step.
abbrev pub step_meaning : {A : Type 0} → AskedStep → Meaning A → Meaning A
step_meaning step m = meaning_through (step_shape step m.shape) (step_index step m.shape) m

-- Returns the array that is seen after a step, or the first cause against the step.
abbrev pub step_result : {A : Type 0} → AskedStep → Meaning A → Result (Meaning A) Cause
step_result step m = unless (refusal step m.shape) (step_meaning step m)

-- Returns what `f` makes of a value, or the error if there is one.
abbrev pub and_then : {X Y E : Type 0} → Result X E → (X → Result Y E) → Result Y E
and_then (Ok x) f = f x
and_then (Err e) f = Err e

-- Returns the array that is seen after a path of steps, each taken after the one before, or the cause against its
-- first refused step, where `tests` gives the tests of a step.
abbrev pub path_result : {A : Type 0} → (AskedStep → List ℕ → List Test) → List AskedStep → Meaning A → Result (Meaning A) Cause
path_result tests [] m = Ok m
path_result tests (step ∷ steps) m = and_then (unless (first_failed (tests step m.shape)) (step_meaning step m)) (path_result tests steps)

-- Says that the path makes `n` of the array `m`: each index at its end names, by the composition of its steps' maps,
-- an index of `m` with the same element.
abbrev pub LeadsAlong : {A : Type 0} → List AskedStep → Meaning A → Meaning A → Type 0
LeadsAlong path m n =
    (n.shape ≡ shape_along path m.shape)
    × ((i : List ℕ) → IsTrue (in_box n.shape i) → IsTrue (in_box m.shape (index_along path m.shape i)) × (n.at i ≡ m.at (index_along path m.shape i)))

-- Returns the first cause against a path that is only looked along, if there is one.
abbrev pub look_refusal : List AskedStep → List ℕ → Option Cause
look_refusal path ns = first_failed (path_tests tests_of path ns)
