-- The texts of errors.
use Rattle.std.specs.Prelude.{ℕ, List, ◌++◌, codes}
use Rattle.std.specs.Fmt.{decimal}
use Rattle.nd_picture_text.specs.declared.errors.ImageFlaw.{ImageFlaw}
use Rattle.nd_picture_text.specs.declared.errors.ImageFlaw.TheVariants.{TooShort, Format, Width, Height, Maxval, Sample, AboveMaxval}
use Rattle.nd_picture_text.specs.declared.errors.ImageError.{ImageError}
use Rattle.nd_picture_text.specs.declared.errors.ImageError.TheVariants.{BadByte, Memory as NoRoom}
use Rattle.nd_picture_text.specs.declared.errors.StepFlaw.{StepFlaw}
use Rattle.nd_picture_text.specs.declared.errors.StepFlaw.TheVariants.{NoSuchStep, Crop, Angle, Factor, Limit, Border, Block}
use Rattle.nd_picture_text.specs.declared.errors.WordsError.{WordsError}
use Rattle.nd_picture_text.specs.declared.errors.WordsError.TheVariants.{BadStep, Memory}

-- Returns the text of what is wrong with an image at a byte.
abbrev pub image_flaw_text : ImageFlaw → List ℕ
image_flaw_text TooShort = codes "the image ends too early"
image_flaw_text Format = codes "an image must begin with one of P1 to P6 and a blank"
image_flaw_text Width = codes "the width must be a number from 1 to 1000000000"
image_flaw_text Height = codes "the height must be a number from 1 to 1000000000"
image_flaw_text Maxval = codes "the maxval must be a number from 1 to 65535"
image_flaw_text Sample = codes "a sample must be a number from 0 to the maxval"
image_flaw_text AboveMaxval = codes "the sample is above the maxval"

-- Returns the text of why bytes are no image.
abbrev pub image_error_text : ImageError → List ℕ
image_error_text (BadByte byte flaw) = codes "byte " ++ (decimal byte ++ (codes ": " ++ image_flaw_text flaw))
image_error_text NoRoom = codes "out of memory"

-- Returns the text of what is wrong with the words of a step.
abbrev pub step_flaw_text : StepFlaw → List ℕ
step_flaw_text NoSuchStep = codes "no such step; --help lists the steps"
step_flaw_text Crop = codes "crop takes four numbers: top, left, height and width"
step_flaw_text Angle = codes "rotate takes 90, 180 or 270"
step_flaw_text Factor = codes "scale-down takes one number"
step_flaw_text Limit = codes "threshold takes one number"
step_flaw_text Border = codes "border takes two numbers: width and value"
step_flaw_text Block = codes "shrink takes one number"

-- Returns the text of why words are no steps.
abbrev pub words_error_text : WordsError → List ℕ
words_error_text (BadStep number flaw) = codes "step " ++ (decimal number ++ (codes ": " ++ step_flaw_text flaw))
words_error_text Memory = codes "out of memory"
