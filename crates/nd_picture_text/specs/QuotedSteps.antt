-- The words of one step of a line, as they are told together with what is wrong with it.
use Rattle.std.specs.Prelude.{ℕ, zero, suc, ◌-◌, List, [], ◌∷◌, ◌++◌, Option, None, Some, codes}
use Rattle.nd_picture_text.specs.declared.step.Step.{Step}
use Rattle.nd_picture_text.specs.declared.step_words.StepName.{StepName}
use Rattle.nd_picture_text.specs.declared.step_words.StepName.TheVariants as names
use Rattle.nd_picture_text.specs.StepGrammar.{name_of, step_of}

-- Returns what `after` gives for the words that follow the first step, or the words themselves if no step was read.
abbrev pub following_first : (List (List ℕ) → List (List ℕ)) → List (List ℕ) → Option (Step × List (List ℕ)) → List (List ℕ)
following_first after ws None = ws
following_first after ws (Some x) = after x.1

-- Returns the words that follow so many steps, or the words from the first one on that can't be read as a step.
abbrev pub after_steps : ℕ → List (List ℕ) → List (List ℕ)
after_steps zero ws = ws
after_steps (suc count) ws = following_first (after_steps count) ws (step_of ws)

-- Returns how many numbers stand after a step's name.
abbrev pub number_count : StepName → ℕ
number_count names.Crop = 4
number_count names.Flip = 0
number_count names.Flop = 0
number_count names.Rotate = 1
number_count names.Transpose = 0
number_count names.ScaleDown = 1
number_count names.Threshold = 1
number_count names.Invert = 0
number_count names.Blur = 0
number_count names.Gray = 0
number_count names.Border = 2
number_count names.Shrink = 1
number_count names.Plain = 0
number_count names.Raw = 0
number_count names.Other = 0

-- Returns the text of at most so many words, with a space before each.
abbrev pub spaced : ℕ → List (List ℕ) → List ℕ
spaced zero ws = []
spaced (suc count) [] = []
spaced (suc count) (word ∷ ws) = codes " " ++ (word ++ spaced count ws)

-- Returns the text of the first step's name and of its numbers, as far as there are words for them.
abbrev pub first_step_text : List (List ℕ) → List ℕ
first_step_text [] = []
first_step_text (word ∷ ws) = word ++ spaced (number_count (name_of word)) ws

-- Returns the text of the step of this number, counted from 1.
abbrev pub step_text : ℕ → List (List ℕ) → List ℕ
step_text number ws = first_step_text (after_steps (number - 1) ws)
