-- The steps of a list, apart from where they lie in memory: those of a script, which lead to views, and two that may copy
-- elements.
use Rattle.std.specs.Prelude.{ℕ, List, Bool, true, false}
use Rattle.std.specs.List.{list_all}
use Rattle.nd_read.specs.ScriptCalls.{AskedStep, asked_step}
use Rattle.nd_npy_run.specs.declared.steps.step.NpyStep.{NpyStep}
use Rattle.nd_npy_run.specs.declared.steps.step.NpyStep.TheVariants.{View, Select, Reshape}

-- A step. `Viewed` is a step of a script, `Chosen` keeps coordinates of an axis, in the order in which they are listed, and
-- `Regrouped` gives other lengths, where each element keeps its row-major rank.
pub data AskedNpyStep : Type 0 where
  Viewed : (step : AskedStep) → AskedNpyStep
  Chosen : (axis : ℕ) (indexes : List ℕ) → AskedNpyStep
  Regrouped : (lengths : List ℕ) → AskedNpyStep

abbrev pub asked_npy_step : NpyStep → AskedNpyStep
asked_npy_step (View step) = Viewed (asked_step step)
asked_npy_step (Select axis indexes) = Chosen axis indexes.items
asked_npy_step (Reshape lengths) = Regrouped lengths.items

-- Returns whether the step is one of a script.
abbrev pub is_viewed : AskedNpyStep → Bool
is_viewed (Viewed step) = true
is_viewed (Chosen axis indexes) = false
is_viewed (Regrouped lengths) = false

-- Returns whether all steps are steps of a script.
abbrev pub are_viewed : List AskedNpyStep → Bool
are_viewed steps = list_all is_viewed steps
