-- What is written if no image is.
use Rattle.std.specs.Prelude.{ℕ, List, ◌++◌, codes, Bool, if◌then◌else◌, []}
use Rattle.std.specs.Fmt.{decimal}
use Rattle.nd_picture_text.specs.declared.step.Step.{Step}
use Rattle.nd_picture_text.specs.declared.step.Step.TheVariants.{Crop, Border}
use Rattle.nd_picture_text.specs.ErrorTexts.{image_flaw_text, step_flaw_text}
use Rattle.nd_picture_text.specs.QuotedSteps.{step_text}
use Rattle.nd_picture.specs.declared.image_steps_applied.PictureStepsError.{PictureStepsError}
use Rattle.nd_picture.specs.declared.image_steps_applied.PictureStepsError.TheVariants.{Refused, Memory}
use Rattle.nd_picture.specs.declared.usage_and_argument_errors.ArgumentsError.{ArgumentsError}
use Rattle.nd_picture.specs.declared.usage_and_argument_errors.ArgumentsError.TheVariants.{NotText, Memory as NoRoom}
use Rattle.nd_picture.specs.declared.read_change_and_write.Fault.{Fault}
use Rattle.nd_picture.specs.declared.read_change_and_write.Fault.TheVariants as faults

-- Returns the text of what a step needs that can't be taken.
abbrev pub refusal_text : Step → List ℕ
refusal_text (Crop top left height width) = codes "the part must lie in the picture, and have a row and a column"
refusal_text (Border border value) = codes "the samples must be at most the maxval, and the image at most 1000000000 high and wide"
refusal_text _ = codes "the factor must be at least 1 and below 2^63"

-- Returns the text of why the steps of a list were not all taken.
abbrev pub step_error_text : PictureStepsError → List ℕ
step_error_text (Refused number step) = codes "step " ++ (decimal number ++ (codes ": " ++ refusal_text step))
step_error_text Memory = codes "out of memory"

-- Returns a line for the errors: the program's name in front of a text.
abbrev pub line_text : List ℕ → List ℕ
line_text text = codes "nd_picture_program: " ++ (text ++ codes "\n")

-- Returns the text of what is wrong with a step, with its number and its words.
abbrev pub step_line : List (List ℕ) → ℕ → List ℕ → List ℕ
step_line words number cause = codes "step " ++ (decimal number ++ (codes ": '" ++ (step_text number words ++ (codes "': " ++ cause))))

-- Returns the text of what is wrong with an image, with the number of the byte.
abbrev pub byte_line : ℕ → List ℕ → List ℕ
byte_line byte cause = codes "byte " ++ (decimal byte ++ (codes ": " ++ cause))

-- Returns the text of a fault of these words or of an image.
abbrev pub fault_text : List (List ℕ) → Fault → List ℕ
fault_text words (faults.BadStep number flaw) = step_line words number (step_flaw_text flaw)
fault_text words (faults.BadByte byte flaw) = byte_line byte (image_flaw_text flaw)
fault_text words (faults.Refused number step) = step_line words number (refusal_text step)
fault_text words faults.Memory = codes "out of memory"
fault_text words faults.ReadFailed = codes "a read failed"

-- Returns the line for a failed write to the output, if there was one.
abbrev pub write_failure_text : Bool → List ℕ
write_failure_text failed = if failed then line_text (codes "a write failed") else []

-- Returns the text of why a program's arguments can't be taken.
abbrev pub arguments_error_text : ArgumentsError → List ℕ
arguments_error_text NotText = codes "an argument isn't UTF-8"
arguments_error_text NoRoom = codes "out of memory"
