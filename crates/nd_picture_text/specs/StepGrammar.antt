-- How a list of steps is written: words, each a step's name or one of the numbers after it.
use Rattle.std.specs.Prelude.{◌≡◌, ℕ, ◌+◌, ◌==◌, false, is_some, List, [], ◌∷◌, length, Option, None, Some, Result, Ok, Err, codes, if◌then◌else◌, IsTrue}
use Rattle.std.specs.Str.{bytes_eq}
use Rattle.nd_text.specs.DecimalNumerals.{nat_of}
use Rattle.nd_text.specs.LinesAndWords.{first_as, is_wordless}
use Rattle.nd_picture_text.specs.declared.step.Step.{Step}
use Rattle.nd_picture_text.specs.declared.step.Step.TheVariants.{Crop, Flip, Flop, RotateQuarter, RotateHalf, RotateBack, Transpose, ScaleDown, Threshold, Invert, Blur, Gray, Border, Shrink, Plain, Raw}
use Rattle.nd_picture_text.specs.declared.errors.WordsError.{WordsError}
use Rattle.nd_picture_text.specs.declared.errors.WordsError.TheVariants.{BadStep, Memory}
use Rattle.nd_picture_text.specs.declared.errors.StepFlaw.{StepFlaw}
use Rattle.nd_picture_text.specs.declared.errors.StepFlaw.TheVariants as flaws
use Rattle.nd_picture_text.specs.declared.step_words.StepName.{StepName}
use Rattle.nd_picture_text.specs.declared.step_words.StepName.TheVariants as names

-- Returns the step of this name that sets how samples are written, or `Other`.
unfoldable pub format_name_of : List ℕ → StepName
format_name_of word = if bytes_eq word (codes "plain") then names.Plain else (if bytes_eq word (codes "raw") then names.Raw else names.Other)

-- Returns the step of this name that changes samples one by one or blurs them, or what the name is otherwise.
unfoldable pub sample_name_of : List ℕ → StepName
sample_name_of word = if bytes_eq word (codes "threshold") then names.Threshold else (if bytes_eq word (codes "invert") then names.Invert else (if bytes_eq word (codes "blur") then names.Blur else (if bytes_eq word (codes "gray") then names.Gray else (format_name_of word))))

-- Returns the step of this name that makes a picture smaller or larger, or what the name is otherwise.
unfoldable pub resizing_name_of : List ℕ → StepName
resizing_name_of word = if bytes_eq word (codes "scale-down") then names.ScaleDown else (if bytes_eq word (codes "border") then names.Border else (if bytes_eq word (codes "shrink") then names.Shrink else (sample_name_of word)))

-- Returns the step that the word names, or `Other` if it names none.
unfoldable pub name_of : List ℕ → StepName
name_of word = if bytes_eq word (codes "crop") then names.Crop else (if bytes_eq word (codes "flip") then names.Flip else (if bytes_eq word (codes "flop") then names.Flop else (if bytes_eq word (codes "rotate") then names.Rotate else (if bytes_eq word (codes "transpose") then names.Transpose else (resizing_name_of word)))))

infixl 10 ◌>>?◌
abbrev pub ◌>>?◌ : {A B : Type 0} → Option A → (A → Option B) → Option B
None >>? f = None
(Some x) >>? f = f x

-- Returns the number that the first word writes, and the words after it.
abbrev pub number_first : List (List ℕ) → Option (ℕ × List (List ℕ))
number_first ws = first_as nat_of ws

-- Returns the crop whose four numbers the first words write, and the words after these.
abbrev pub crop_of : List (List ℕ) → Option (Step × List (List ℕ))
crop_of ws = number_first ws >>? λ t. number_first t.1 >>? λ l. number_first l.1 >>? λ h. number_first h.1 >>? λ w. Some (Crop t.0 l.0 h.0 w.0, w.1)

-- Returns the clockwise turn by so many degrees.
abbrev pub turn_by : ℕ → Option Step
turn_by degrees = if degrees == 90 then Some RotateQuarter else (if degrees == 180 then Some RotateHalf else (if degrees == 270 then Some RotateBack else None))

-- Returns the turn whose angle the first word writes, and the words after it.
abbrev pub rotate_of : List (List ℕ) → Option (Step × List (List ℕ))
rotate_of ws = number_first ws >>? λ x. turn_by x.0 >>? λ step. Some (step, x.1)

-- Returns the border whose two numbers the first words write, and the words after these.
abbrev pub border_of : List (List ℕ) → Option (Step × List (List ℕ))
border_of ws = number_first ws >>? λ n. number_first n.1 >>? λ v. Some (Border n.0 v.0, v.1)

-- Returns the step of this name, and the words after its numbers.
abbrev pub step_named : StepName → List (List ℕ) → Option (Step × List (List ℕ))
step_named names.Crop ws = crop_of ws
step_named names.Flip ws = Some (Flip, ws)
step_named names.Flop ws = Some (Flop, ws)
step_named names.Rotate ws = rotate_of ws
step_named names.Transpose ws = Some (Transpose, ws)
step_named names.ScaleDown ws = number_first ws >>? λ x. Some (ScaleDown x.0, x.1)
step_named names.Threshold ws = number_first ws >>? λ x. Some (Threshold x.0, x.1)
step_named names.Invert ws = Some (Invert, ws)
step_named names.Blur ws = Some (Blur, ws)
step_named names.Gray ws = Some (Gray, ws)
step_named names.Border ws = border_of ws
step_named names.Shrink ws = number_first ws >>? λ x. Some (Shrink x.0, x.1)
step_named names.Plain ws = Some (Plain, ws)
step_named names.Raw ws = Some (Raw, ws)
step_named names.Other ws = None

-- Returns the step that the first words write, and the words after it.
abbrev pub step_of : List (List ℕ) → Option (Step × List (List ℕ))
step_of [] = None
step_of (word ∷ ws) = step_named (name_of word) ws

-- Says that the words write these steps one after the other, and that `rest` follows.
abbrev pub AreStepsBefore : List Step → List (List ℕ) → List (List ℕ) → Type 0
AreStepsBefore [] ws rest = ws ≡ rest
AreStepsBefore (step ∷ steps) ws rest = (others : List (List ℕ)) × (step_of ws ≡ Some (step, others)) × AreStepsBefore steps others rest

-- Says that the words write these steps and nothing else.
abbrev pub AreSteps : List Step → List (List ℕ) → Type 0
AreSteps steps ws = AreStepsBefore steps ws []

-- Returns what is wrong with a step of this name that can't be read.
abbrev pub flaw_named : StepName → StepFlaw
flaw_named names.Crop = flaws.Crop
flaw_named names.Rotate = flaws.Angle
flaw_named names.ScaleDown = flaws.Factor
flaw_named names.Threshold = flaws.Limit
flaw_named names.Border = flaws.Border
flaw_named names.Shrink = flaws.Block
flaw_named _ = flaws.NoSuchStep

-- Returns what is wrong with the words if they begin with no step.
abbrev pub flaw_of : List (List ℕ) → StepFlaw
flaw_of [] = flaws.NoSuchStep
flaw_of (word ∷ ws) = flaw_named (name_of word)

-- Says that after some steps the words go on with something that is no step, where `n` is its number, counted from 1,
-- and `flaw` is what is wrong with it.
abbrev pub IsBadStep : List (List ℕ) → ℕ → StepFlaw → Type 0
IsBadStep ws n flaw = (front : List Step) × (rest : List (List ℕ)) × AreStepsBefore front ws rest × (step_of rest ≡ None) × (is_wordless rest ≡ false) × (n ≡ length front + 1) × (flaw ≡ flaw_of rest)

-- Says that memory is asked for a step that can be read after others.
abbrev pub LacksForStep : List (List ℕ) → Type 0
LacksForStep ws = (front : List Step) × (rest : List (List ℕ)) × AreStepsBefore front ws rest × IsTrue (is_some (step_of rest))

-- Says that the result is what reading the words gives.
abbrev pub GivesSteps : List (List ℕ) → Result (List Step) WordsError → Type 0
GivesSteps ws (Ok steps) = AreSteps steps ws
GivesSteps ws (Err (BadStep n flaw)) = IsBadStep ws n flaw
GivesSteps ws (Err Memory) = LacksForStep ws
