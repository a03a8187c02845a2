-- What an act leaves of an array's meaning, alone, through a path or on each of two parts, whether there is a cause
-- against it or not.
use Rattle.std.specs.Prelude.{◌≡◌, ◌||◌, ℕ, List, Option, None, Some, Result, Ok, Err, IsTrue}
use Rattle.nd_array_core.specs.ArrayMeaning.{Meaning}
use Rattle.nd_paths.specs.CallbacksOnViewsAndSplits.{PathMap}
use Rattle.nd_steps.specs.declared.refusal_causes.Cause.{Cause}
use Rattle.nd_read.specs.ScriptCalls.{AskedStep, Acting}
use Rattle.nd_steps.specs.StepTestsAndShapes.{shape_along, index_along}
use Rattle.nd_steps.specs.WritesThroughViewsAndSplits.{acted_elements, act_refusal, clones, path_refusal, written, write_refusal, parts_refusal, split_refusal, split_written}

-- Returns `new`, or `old` if there is a cause.
abbrev pub unless_refused : {X : Type 0} → Option Cause → X → X → X
unless_refused None new old = new
unless_refused (Some cause) new old = old

-- Returns the element of each index after an act, or the old elements if there is a cause against it.
abbrev pub acted_elements_unless : {A : Type 0} → Option Cause → Acting A → Meaning A → List ℕ → Option A
acted_elements_unless refused act m = unless_refused refused (acted_elements act m) m.at

-- Returns the path as one to be written through.
abbrev pub written_path : List AskedStep → PathMap Cause
written_path path = record { cause_against = path_refusal path; part_lengths = shape_along path; array_index = index_along path }

-- Says that an act on the array `m` leaves `n`: the result is the first cause against it, if there is one, and the
-- elements stay, or the act is done. An error comes only if there is no cause and the act clones.
abbrev pub Acts : {A E : Type 0} → Acting A → Meaning A → Meaning A → Result (Option Cause) E → Type 0
Acts act m n (Ok refused) = (refused ≡ act_refusal act m.shape) × ((i : List ℕ) → n.at i ≡ acted_elements_unless refused act m i)
Acts act m n (Err error) = (act_refusal act m.shape ≡ None) × IsTrue (clones act)

-- Says that two acts on two arrays are done, or that the result is the first cause against them and all elements
-- stay. An error comes only if there is no cause and one of the acts clones.
abbrev pub ActsOnTwo : {A E : Type 0} → Acting A → Acting A → Meaning A → Meaning A → Meaning A → Meaning A → Result (Option Cause) E → Type 0
ActsOnTwo first second lower upper lower' upper' (Ok refused) =
    (refused ≡ parts_refusal first second lower.shape upper.shape)
    × ((i : List ℕ) → lower'.at i ≡ acted_elements_unless refused first lower i)
    × ((i : List ℕ) → upper'.at i ≡ acted_elements_unless refused second upper i)
ActsOnTwo first second lower upper lower' upper' (Err error) = (parts_refusal first second lower.shape upper.shape ≡ None) × IsTrue (clones first || clones second)

-- Says that an act at the end of a path leaves `n` of the array `m`: the result is the first cause against path and
-- act, if there is one, and the array stays, or the act is done. An error comes only if there is no cause and the act
-- clones.
abbrev pub WritesThrough : {A E : Type 0} → List AskedStep → Acting A → Meaning A → Meaning A → Result (Option Cause) E → Type 0
WritesThrough path act m n (Ok refused) = (refused ≡ write_refusal path act m.shape) × (n ≡ unless_refused refused (written path act m) m)
WritesThrough path act m n (Err error) = (write_refusal path act m.shape ≡ None) × IsTrue (clones act)

-- Returns as one result the answer of an act at the end of a path or the cause against the path.
abbrev pub as_one : {E : Type 0} → Result (Result (Option Cause) E) Cause → Result (Option Cause) E
as_one (Ok answer) = answer
as_one (Err cause) = Ok (Some cause)

-- Says that an act on each part of a split leaves `n` of the array `m`: the result is the first cause against them,
-- if there is one, and the array stays, or both acts are done. An error comes only if there is no cause and one of
-- the acts clones.
abbrev pub WritesInParts : {A E : Type 0} → ℕ → ℕ → Acting A → Acting A → Meaning A → Meaning A → Result (Option Cause) E → Type 0
WritesInParts axis index first second m n (Ok refused) = (refused ≡ split_refusal axis index first second m.shape) × (n ≡ unless_refused refused (split_written axis index first second m) m)
WritesInParts axis index first second m n (Err error) = (split_refusal axis index first second m.shape ≡ None) × IsTrue (clones first || clones second)
