-- The words of a list of steps.
use Rattle.std.specs.Prelude.{◌≡◌, ◌⊎◌, ℕ, ◌+◌, Bool, List, ◌∷◌, ◌++◌, length, Result, Ok, Err, IsTrue}
use Rattle.nd_text.specs.declared.script_keywords.Keyword.{Keyword}
use Rattle.nd_text.specs.declared.script_keywords.Keyword.TheVariants.{Select, Reshape}
use Rattle.nd_text.specs.DecimalNumerals.{nat_of}
use Rattle.nd_read.specs.declared.reader.read_errors.LineFault.{LineFault}
use Rattle.nd_read.specs.declared.reader.read_errors.LineFault.TheVariants as faults
use Rattle.nd_read.specs.LineGrammar.{AreInTurn, IsWord, IsBoth, IsList, HasKeyword, IsStepText}
use Rattle.nd_text.specs.DecimalNumerals.{IsNat}
use Rattle.nd_read.specs.LineReaders.{first_as, keyword_at, list_may_lack, read_then, step_may_lack_by}
use Rattle.nd_npy_run.specs.ViewSelectAndReshapeSteps.{AskedNpyStep, Viewed, Chosen, Regrouped}
use Rattle.nd_npy_run.specs.declared.steps.errors.WordsError.{WordsError}
use Rattle.nd_npy_run.specs.declared.steps.errors.WordsError.TheVariants.{BadStep, Memory}

-- ---- One step

-- Says that the keyword is `select`, and that the words after it write an axis and a list of its coordinates.
abbrev pub IsChoiceAfter : Keyword → List (List ℕ) → ℕ × List ℕ → Type 0
IsChoiceAfter Select words choice = IsBoth (IsWord IsNat) IsList words choice
IsChoiceAfter _ words choice = ⊥

-- Says that the keyword is `reshape`, and that the words after it write a list of lengths.
abbrev pub AreLengthsAfter : Keyword → List (List ℕ) → List ℕ → Type 0
AreLengthsAfter Reshape words lengths = IsList words lengths
AreLengthsAfter _ words lengths = ⊥

-- Says that the words write the step.
abbrev pub IsNpyStepText : List (List ℕ) → AskedNpyStep → Type 0
IsNpyStepText words (Viewed step) = IsStepText words step
IsNpyStepText words (Chosen axis indexes) = HasKeyword IsChoiceAfter words (axis, indexes)
IsNpyStepText words (Regrouped lengths) = HasKeyword AreLengthsAfter words lengths

-- Says that a step stands at the front of the words, and that the words `rest` follow it.
abbrev pub HasStepInFront : List (List ℕ) → AskedNpyStep → List (List ℕ) → Type 0
HasStepInFront words step rest = (front : List (List ℕ)) × (words ≡ front ++ rest) × IsNpyStepText front step

-- Says that no step stands at the front of the words.
abbrev pub BeginWithNoStep : List (List ℕ) → Type 0
BeginWithNoStep words = (step : AskedNpyStep) (front back : List (List ℕ)) → words ≡ front ++ back → ¬ (IsNpyStepText front step)

-- Says that a step stands at the front of the words.
abbrev pub BeginWithStep : List (List ℕ) → Type 0
BeginWithStep words = (step : AskedNpyStep) × (rest : List (List ℕ)) × HasStepInFront words step rest

-- Returns whether memory is taken for the words after the keyword of a step.
abbrev pub npy_step_may_lack_by : Keyword → List (List ℕ) → Bool
npy_step_may_lack_by Select words = read_then (first_as nat_of words) (λ axis rest. list_may_lack rest)
npy_step_may_lack_by Reshape words = list_may_lack words
npy_step_may_lack_by name words = step_may_lack_by name words

-- Returns whether memory is taken for the words of a step.
abbrev pub npy_step_may_lack : List (List ℕ) → Bool
npy_step_may_lack words = read_then (keyword_at words) npy_step_may_lack_by

-- Says that no step stands at the front of the words, or that memory is lacking, which is taken for the step.
abbrev pub FailsNpyStep : List (List ℕ) → LineFault → Type 0
FailsNpyStep words faults.Bad = BeginWithNoStep words
FailsNpyStep words faults.Memory = IsTrue (npy_step_may_lack words)

-- Says that the result is the step at the front of the words and the words that follow it, as `view` tells them, or why no
-- step was read.
abbrev pub GivesNpyStep : {X : Type 0} → (X → AskedNpyStep × List (List ℕ)) → List (List ℕ) → Result X LineFault → Type 0
GivesNpyStep view words (Ok x) = HasStepInFront words (view x).0 (view x).1
GivesNpyStep view words (Err fault) = FailsNpyStep words fault

-- ---- All steps

-- Says that the words write these steps, one after another, and nothing else.
abbrev pub AreNpySteps : List (List ℕ) → List AskedNpyStep → Type 0
AreNpySteps words steps = AreInTurn IsNpyStepText words steps

-- Says that the words write these steps, and that `rest` follows.
abbrev pub HasStepsBefore : List (List ℕ) → List AskedNpyStep → List (List ℕ) → Type 0
HasStepsBefore words steps rest = (front : List (List ℕ)) × (words ≡ front ++ rest) × AreNpySteps front steps

-- Says that after some steps the words go on with `word`, where no step begins, and that `number` is that of this
-- step, counted from 1.
abbrev pub IsBadNpyStep : List (List ℕ) → ℕ → List ℕ → Type 0
IsBadNpyStep words number word = (steps : List AskedNpyStep) × (rest : List (List ℕ)) × HasStepsBefore words steps (word ∷ rest) × BeginWithNoStep (word ∷ rest) × (number ≡ length steps + 1)

-- Says that memory is taken after some steps: for a list in the words that follow, or for a step there.
abbrev pub MayLackForSteps : List (List ℕ) → Type 0
MayLackForSteps words = (steps : List AskedNpyStep) × (rest : List (List ℕ)) × HasStepsBefore words steps rest × (IsTrue (npy_step_may_lack rest) ⊎ BeginWithStep rest)

-- Says that the result is what reading the words gives.
abbrev pub GivesNpySteps : List (List ℕ) → Result (List AskedNpyStep) WordsError → Type 0
GivesNpySteps words (Ok steps) = AreNpySteps words steps
GivesNpySteps words (Err (BadStep number word)) = IsBadNpyStep words number word.now
GivesNpySteps words (Err Memory) = MayLackForSteps words
