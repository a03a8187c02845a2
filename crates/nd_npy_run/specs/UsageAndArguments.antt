-- The program's usage, and the status of arguments that can't be taken.
use Rattle.std.specs.Prelude.{ℕ, Bool, false, List, [], ◌∷◌, Option, Some, None, codes, if◌then◌else◌}
use Rattle.std.specs.Str.{bytes_eq}
use Rattle.nd_text.specs.DecimalNumerals.{nat_of}
use Rattle.nd_text.specs.LinesAndWords.{first_as}
use Rattle.nd_npy_run.specs.declared.reduction.Reduction.{Reduction}
use Rattle.nd_npy_run.specs.declared.reduction.Reduction.TheVariants.{Sum, Mean, Min, Max}
use Rattle.nd_npy_run.specs.declared.usage_and_argument_errors.ArgumentsError.{ArgumentsError}
use Rattle.nd_npy_run.specs.declared.usage_and_argument_errors.ArgumentsError.TheVariants.{NotText, Memory}
use Rattle.nd_npy_run.specs.declared.wanted_outputs.Wanted.{Wanted}
use Rattle.nd_npy_run.specs.declared.wanted_outputs.Wanted.TheVariants.{File, Description, Shape, Text, Reduced}

abbrev pub npy_usage_text : List ℕ
npy_usage_text = codes "Usage: nd_npy_program [describe | shape | print | sum A | mean A | min A | max A] [STEP]..\nReads an array in numpy's format .npy, takes the steps in order, and writes the array; or\nwith the word describe a line that tells its type of elements and its shape, with shape its\nshape, and with print its elements, which must be integers or truth values; or with sum,\nmean, min or max the array of the sums, the means, or the least or greatest elements along\nits axis A.\n\ncut A START END STEP   slice axis A; END is _ for the end of the axis\nslice N ELEM..         slice all axes by N of: s START END STEP, i INDEX, n (a new axis)\ncollapse A I           keep index I of axis A, which then has length 1\nindex A I              keep index I of axis A, and take the axis out\npermute N AXIS..       put the N axes in this order\nreverse                put the axes in the opposite order\nswapaxes A B           exchange two axes\ninvert A               run axis A backwards\ninsert A               put in an axis of length 1 at A\nremove A               keep index 0 of axis A, and take the axis out\nsqueeze                take out the axes of length 1\ndiag                   keep the elements whose coordinates are all the same\nbroadcast N LENGTH..   repeat the elements to these N lengths\nselect A N INDEX..     keep these N indexes of axis A, in this order\nreshape N LENGTH..     put the elements, in their row-major order, under these N lengths\n\nExit status: 0 done, 1 bad arguments or file, 2 out of memory, 3 a read or a write failed.\n"

-- Returns whether the first word asks for the usage.
abbrev pub asks_for_npy_help : List (List ℕ) → Bool
asks_for_npy_help [] = false
asks_for_npy_help (word ∷ words) = bytes_eq word (codes "--help")

-- Returns what the word asks for, if it isn't the first word of a step.
abbrev pub wanted_named : List ℕ → Option Wanted
wanted_named word = if bytes_eq word (codes "describe") then Some Description else (if bytes_eq word (codes "shape") then Some Shape else (if bytes_eq word (codes "print") then Some Text else None))

-- Returns what the word says is made of the lanes along an axis, if it is one of four words.
abbrev pub reduction_named : List ℕ → Option Reduction
reduction_named word =
    if bytes_eq word (codes "sum") then Some Sum else (if bytes_eq word (codes "mean") then Some Mean else (if bytes_eq word (codes "min") then Some Min else (if bytes_eq word (codes "max") then Some Max else None)))

-- Returns what is asked for and the words behind that, for a reduction and the words that follow its name: the reduction
-- along the axis that the first of them writes. `all` are the words from the name on, which are steps if there is no axis.
abbrev pub asked_along : List (List ℕ) → Reduction → Option (ℕ × List (List ℕ)) → Wanted × List (List ℕ)
asked_along all reduction None = (File, all)
asked_along all reduction (Some along) = (Reduced reduction along.0, along.1)

-- Returns what is asked for and the words behind that, where the first word may be the name of a reduction.
abbrev pub asked_of : List (List ℕ) → Option Reduction → List (List ℕ) → Wanted × List (List ℕ)
asked_of all None words = (File, all)
asked_of all (Some reduction) words = asked_along all reduction (first_as nat_of words)

-- Returns what is asked for and the words behind that: what the first word asks for, or else a reduction.
abbrev pub asked_or_reduced : List ℕ → List (List ℕ) → Option Wanted → Wanted × List (List ℕ)
asked_or_reduced word words (Some wanted) = (wanted, words)
asked_or_reduced word words None = asked_of (word ∷ words) (reduction_named word) words

-- Returns what the first words ask for, which is the file if they ask for nothing else, and the words behind them, which
-- are steps.
abbrev pub asked_by : List (List ℕ) → Wanted × List (List ℕ)
asked_by [] = (File, [])
asked_by (word ∷ words) = asked_or_reduced word words (wanted_named word)

-- Returns what the first words ask for.
abbrev pub wanted_by : List (List ℕ) → Wanted
wanted_by words = (asked_by words).0

-- Returns the words that are steps.
abbrev pub step_words : List (List ℕ) → List (List ℕ)
step_words words = (asked_by words).1

abbrev pub npy_arguments_status : ArgumentsError → ℕ
npy_arguments_status NotText = 1
npy_arguments_status Memory = 2
