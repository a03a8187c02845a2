-- Room for more lengths of an axis: what is against it, and that it leaves what an array means.
use Rattle.std.specs.Prelude.{◌≡◌, ℕ, ◌+◌, ◌==◌, not, List, [], ◌∷◌, slice_index, slice_set, Option, None, Result, Ok, Err, IsTrue}
use Rattle.nd_array_core.specs.ArrayMeaning.{Meaning}
use Rattle.nd_array_core.specs.growth.ReservedAlongAxis.{added_elements}
use Rattle.nd_steps.specs.declared.refusal_causes.Cause.{Cause}
use Rattle.nd_steps.specs.StepTestsAndShapes.{Test, first_failed, has_axis, size_test}

-- Returns the tests of room for more lengths of an axis.
abbrev pub reserve_tests : ℕ → ℕ → List ℕ → List Test
reserve_tests axis additional ns = has_axis axis ns ∷ size_test (slice_set ns axis (slice_index ns axis + additional)) ∷ []

-- Returns the first cause against room for more lengths of an axis, if there is one.
abbrev pub room_refusal : ℕ → ℕ → List ℕ → Option Cause
room_refusal axis additional ns = first_failed (reserve_tests axis additional ns)

-- Says that the array stays and the result is the first cause against room for more lengths of an axis, if there is
-- one; or that the result is an error, there is no cause, and the room is for at least one element.
abbrev pub MakesRoom : {A E : Type 0} → ℕ → ℕ → Meaning A → Meaning A → Result (Option Cause) E → Type 0
MakesRoom axis additional m n (Ok refused) = (refused ≡ room_refusal axis additional m.shape) × (n ≡ m)
MakesRoom axis additional m n (Err error) = (room_refusal axis additional m.shape ≡ None) × IsTrue (not (added_elements m.shape axis additional == 0))
