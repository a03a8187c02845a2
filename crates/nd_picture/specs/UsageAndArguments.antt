-- The program's usage, and the status of arguments that can't be taken.
use Rattle.std.specs.Prelude.{ℕ, Bool, false, List, [], ◌∷◌, codes}
use Rattle.std.specs.Str.{bytes_eq}
use Rattle.nd_picture.specs.declared.usage_and_argument_errors.ArgumentsError.{ArgumentsError}
use Rattle.nd_picture.specs.declared.usage_and_argument_errors.ArgumentsError.TheVariants.{NotText, Memory}

abbrev pub usage_text : List ℕ
usage_text = codes "Usage: nd_picture_program [STEP]..\nReads an image (P1 to P6 of Netpbm), takes the steps in order, and writes the image.\n\ncrop T L H W   keep H rows from row T on, and W columns from column L on\nflip           turn the image upside down\nflop           mirror the image, left to right\nrotate A       turn the image clockwise by A degrees: 90, 180 or 270\ntranspose      exchange rows and columns\nscale-down K   keep the first of every K rows, and of every K columns\nthreshold N    set samples above N to the maxval, and all others to 0\ninvert         set each sample to the maxval less the sample\nblur           set each sample to the mean of the nine samples around it\ngray           set each pixel of a coloured image to its lightness\nborder N V     put N rows and columns of samples V on each side of the image\nshrink K       set each block of K rows and columns to the mean of its samples\nplain          write the samples in digits (P1, P2, P3)\nraw            write the samples in bytes (P4, P5, P6)\n\nExit status: 0 done, 1 bad arguments or image, 2 out of memory, 3 a read or a write failed.\n"

-- Returns whether the first word asks for the usage.
abbrev pub asks_for_help : List (List ℕ) → Bool
asks_for_help [] = false
asks_for_help (word ∷ words) = bytes_eq word (codes "--help")

abbrev pub arguments_status : ArgumentsError → ℕ
arguments_status NotText = 1
arguments_status Memory = 2
