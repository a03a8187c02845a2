-- The texts of errors.
use Rattle.std.specs.Prelude.{ℕ, List, ◌++◌, codes}
use Rattle.std.specs.Fmt.{decimal}
use Rattle.nd_text.specs.declared.script_keywords.Keyword.{Keyword}
use Rattle.nd_text.specs.declared.script_keywords.Keyword.TheVariants as words
use Rattle.nd_text.specs.KeywordSpelling.{keyword_of}
use Rattle.nd_steps.specs.declared.refusal_causes.Cause.{Cause}
use Rattle.nd_steps.specs.declared.refusal_causes.Cause.TheVariants as causes
use Rattle.nd_npy_run.specs.declared.steps.errors.StepCause.{StepCause}
use Rattle.nd_npy_run.specs.declared.steps.errors.StepCause.TheVariants.{Layout, Count}
use Rattle.nd_npy_run.specs.declared.steps.errors.WordsError.{WordsError}
use Rattle.nd_npy_run.specs.declared.steps.errors.WordsError.TheVariants.{BadStep, Memory}
use Rattle.nd_npy_run.specs.declared.steps.errors.Refusal.{Refusal}
use Rattle.nd_npy_run.specs.declared.steps.errors.NpyStepsError.{NpyStepsError}
use Rattle.nd_npy_run.specs.declared.steps.errors.NpyStepsError.TheVariants.{Refused, Memory as NoRoom}

-- Returns the text of what has to follow a word that begins a step, or that none begins so.
abbrev pub step_needs_text : Keyword → List ℕ
step_needs_text words.Cut = codes "cut takes an axis, a start, an end or _, and a step"
step_needs_text words.Slice = codes "slice takes a count, and as many of s START END STEP, i INDEX and n"
step_needs_text words.Collapse = codes "collapse takes an axis and an index"
step_needs_text words.Index = codes "index takes an axis and an index"
step_needs_text words.Permute = codes "permute takes a count, and as many axes"
step_needs_text words.SwapAxes = codes "swapaxes takes two axes"
step_needs_text words.Invert = codes "invert takes an axis"
step_needs_text words.Insert = codes "insert takes an axis"
step_needs_text words.Remove = codes "remove takes an axis"
step_needs_text words.Broadcast = codes "broadcast takes a count, and as many lengths"
step_needs_text words.Select = codes "select takes an axis, a count, and as many indexes"
step_needs_text words.Reshape = codes "reshape takes a count, and as many lengths"
step_needs_text _ = codes "no such step; --help lists the steps"

-- Returns the text of why a step is refused.
abbrev pub cause_text : Cause → List ℕ
cause_text causes.Axis = codes "the array has no such axis"
cause_text causes.Index = codes "the axis has no such index"
cause_text causes.Slice = codes "the slice doesn't fit its axis"
cause_text causes.Permutation = codes "the list must name each axis once"
cause_text causes.Shape = codes "the list must have a slice or an index for each axis"
cause_text causes.Overflow = codes "the array would be too large"
cause_text causes.TooManyAxes = codes "the array would have more than 32 axes"
cause_text causes.Broadcast = codes "there is no broadcast to these lengths"

-- Returns the text of why a step of a list is refused.
abbrev pub step_cause_text : StepCause → List ℕ
step_cause_text (Layout cause) = cause_text cause
step_cause_text Count = codes "the lengths don't make as many elements as there are"

-- Returns the text of a refusal.
abbrev pub step_refusal_text : Refusal → List ℕ
step_refusal_text refusal = codes "step " ++ (decimal refusal.number ++ (codes ": " ++ step_cause_text refusal.cause))

-- Returns the text of why words are no steps.
abbrev pub npy_words_error_text : WordsError → List ℕ
npy_words_error_text (BadStep number word) = codes "step " ++ (decimal number ++ (codes ": " ++ step_needs_text (keyword_of word.now)))
npy_words_error_text Memory = codes "out of memory"

-- Returns the text of why there is no array after the steps.
abbrev pub steps_error_text : NpyStepsError → List ℕ
steps_error_text (Refused refusal) = step_refusal_text refusal
steps_error_text NoRoom = codes "out of memory"
