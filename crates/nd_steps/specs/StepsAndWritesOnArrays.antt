-- Steps, acts and room on the arrays that hold the elements.
use Rattle.std.specs.Prelude.{◌≡◌, ℕ, List, Option, None, Some, Result, Ok, Err}
use Rattle.nd_shape_and_slice.specs.declared.dimension.Dimension as dimension
use Rattle.nd_shape_and_slice.specs.declared.dimension.AxisCount as axis_count
use Rattle.nd_shape_and_slice.specs.declared.dimension.StrideList as stride_list
use Rattle.nd_array_core.specs.Data as data_trait
use Rattle.nd_array_core.specs.declared.base.array.ArrayBase.{ArrayBase}
use Rattle.nd_array_core.specs.ArrayMeaning.{Meaning, inside, meaning_of, shape_of, element_at}
use Rattle.nd_read.specs.declared.script_call_types.Act.{Act}
use Rattle.nd_read.specs.ScriptCalls.{AskedStep, Acting, acting}
use Rattle.nd_steps.specs.declared.refusal_causes.Cause.{Cause}
use Rattle.nd_steps.specs.StepListResults.{step_result}
use Rattle.nd_steps.specs.ReservedCapacity.{MakesRoom}
use Rattle.nd_steps.specs.WriteResults.{ActsOnTwo, WritesThrough, WritesInParts}

module _ {S D A T R : Type 0} {s : data_trait.Ghosts S A} {d : dimension.Ghosts D R} {n : axis_count.Ghosts D} {r : stride_list.Ghosts R} {t : stride_list.Ghosts T} where
  -- Says that each index of the array has the element that `at` gives, or none where `at` gives none.
  abbrev pub HasElements : ArrayBase S D T A R s d n r t → (List ℕ → Option A) → Type 0
  HasElements a at = (i : List ℕ) → element_at a i ≡ at i

  -- Says that each index of `b` has the element of the index of `a` that `source` gives.
  abbrev pub ShowsThrough : ArrayBase S D T A R s d n r t → (List ℕ → List ℕ) → ArrayBase S D T A R s d n r t → Type 0
  ShowsThrough a source b = (i : List ℕ) → element_at b i ≡ inside (shape_of b) i (element_at a (source i))

  -- Says that a step makes `new` of the array `old`, or that the given cause is the first one against it.
  abbrev pub MovesBy : AskedStep → ArrayBase S D T A R s d n r t → ArrayBase S D T A R s d n r t → Option Cause → Type 0
  MovesBy step old new None = step_result step (meaning_of old) ≡ Ok (meaning_of new)
  MovesBy step old new (Some cause) = step_result step (meaning_of old) ≡ Err cause

  -- Says that an act at the end of a path is done, or that `result` is the first cause against path and act and the
  -- array stays. An error comes only of an act that clones.
  abbrev pub WritesAlong : {E : Type 0} → List AskedStep → Acting A → ArrayBase S D T A R s d n r t → ArrayBase S D T A R s d n r t → Result (Option Cause) E → Type 0
  WritesAlong path act old new result = WritesThrough path act (meaning_of old) (meaning_of new) result

  -- Says that two acts on two arrays are done, or that `result` is the first cause against them and both arrays stay.
  -- An error comes only if one of the acts clones.
  abbrev pub ActsOnBoth : {H E : Type 0} → (H → Meaning A) → Act A H → Act A H → ArrayBase S D T A R s d n r t → ArrayBase S D T A R s d n r t → ArrayBase S D T A R s d n r t → ArrayBase S D T A R s d n r t → Result (Option Cause) E → Type 0
  ActsOnBoth held first second lower upper lower' upper' result =
      ActsOnTwo (acting held first) (acting held second) (meaning_of lower) (meaning_of upper) (meaning_of lower') (meaning_of upper') result

  -- Says that an act on each part of a split is done, or that `result` is the first cause against them and the array
  -- stays. An error comes only if one of the acts clones.
  abbrev pub WritesParts : {E : Type 0} → ℕ → ℕ → Acting A → Acting A → ArrayBase S D T A R s d n r t → ArrayBase S D T A R s d n r t → Result (Option Cause) E → Type 0
  WritesParts axis index first second old new result = WritesInParts axis index first second (meaning_of old) (meaning_of new) result

  -- Says that the array stays and `result` is the first cause against room for more lengths of an axis, if there is
  -- one; or that `result` is an error, there is no cause, and the room is for at least one element.
  abbrev pub RoomIsMade : {E : Type 0} → ℕ → ℕ → ArrayBase S D T A R s d n r t → ArrayBase S D T A R s d n r t → Result (Option Cause) E → Type 0
  RoomIsMade axis additional old new result = MakesRoom axis additional (meaning_of old) (meaning_of new) result
