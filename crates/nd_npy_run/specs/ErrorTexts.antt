-- What is written if no file is.
use Rattle.std.specs.Prelude.{ℕ, List, ◌++◌, codes, Bool, if◌then◌else◌, [], is_some}
use Rattle.std.specs.Fmt.{decimal}
use Rattle.nd_text.specs.KeywordSpelling.{keyword_of}
use Rattle.nd_npy_text.specs.declared.item_type.Kind.{Kind}
use Rattle.nd_npy_text.specs.ItemTypes.{kind_code}
use Rattle.nd_npy_text.specs.ErrorTexts.{header_error_text}
use Rattle.nd_npy_run.specs.StepErrorTexts.{step_needs_text, step_refusal_text}
use Rattle.nd_npy_run.specs.UsageAndArguments.{reduction_named}
use Rattle.nd_npy_run.specs.declared.reduction.ReductionError.{ReductionError}
use Rattle.nd_npy_run.specs.declared.reduction.ReductionError.TheVariants.{NoAxis, NoElements, NoNumbers}
use Rattle.nd_npy_run.specs.declared.usage_and_argument_errors.ArgumentsError.{ArgumentsError}
use Rattle.nd_npy_run.specs.declared.usage_and_argument_errors.ArgumentsError.TheVariants.{NotText, Memory as NoRoom}
use Rattle.nd_npy_run.specs.declared.output_or_fault.Fault.{Fault}
use Rattle.nd_npy_run.specs.declared.output_or_fault.Fault.TheVariants as faults

-- Returns a line for the errors: the program's name in front of a text.
abbrev pub npy_line_text : List ℕ → List ℕ
npy_line_text text = codes "nd_npy_program: " ++ (text ++ codes "\n")

-- Returns the text for the first word of what is no step: where a reduction stands, what has to follow a word that begins a
-- step, or that none begins so.
abbrev pub word_needs_text : List ℕ → List ℕ
word_needs_text word = if is_some (reduction_named word) then codes "it stands in front of the steps, with an axis after it" else step_needs_text (keyword_of word)

-- Returns the text of a step that can't be read, with its number and its first word.
abbrev pub bad_step_line : ℕ → List ℕ → List ℕ
bad_step_line number word = codes "step " ++ (decimal number ++ (codes " '" ++ (word ++ (codes "': " ++ word_needs_text word))))

-- Returns the text of a wrong number of bytes behind a head.
abbrev pub size_line : ℕ → ℕ → List ℕ
size_line expected found = codes "the elements take " ++ (decimal expected ++ (codes " bytes, but " ++ (decimal found ++ codes " bytes follow the head")))

-- Returns the text of items that can't be printed.
abbrev pub no_text_line : Kind → List ℕ
no_text_line kind = codes "elements of the kind " ++ (kind_code kind ++ codes " can't be printed")

-- Returns the text of why an array can't be reduced along an axis.
abbrev pub reduction_line : ReductionError → List ℕ
reduction_line (NoAxis axis axes) = codes "there is no axis " ++ (decimal axis ++ (codes ", because the number of axes is " ++ decimal axes))
reduction_line (NoElements axis) = codes "there are no elements along axis " ++ decimal axis
reduction_line (NoNumbers kind) = codes "elements of the kind " ++ (kind_code kind ++ codes " can't be reduced")

-- Returns the text of a fault.
abbrev pub npy_fault_text : Fault → List ℕ
npy_fault_text (faults.BadStep number word) = bad_step_line number word.now
npy_fault_text (faults.BadHead error) = header_error_text error
npy_fault_text (faults.WrongSize expected found) = size_line expected found
npy_fault_text (faults.Refused refusal) = step_refusal_text refusal
npy_fault_text (faults.NoText kind) = no_text_line kind
npy_fault_text (faults.NotReduced error) = reduction_line error
npy_fault_text faults.Memory = codes "out of memory"
npy_fault_text faults.ReadFailed = codes "a read failed"

-- Returns the line for a failed write to the output, if there was one.
abbrev pub npy_write_failure_text : Bool → List ℕ
npy_write_failure_text failed = if failed then npy_line_text (codes "a write failed") else []

-- Returns the text of why a program's arguments can't be taken.
abbrev pub npy_arguments_error_text : ArgumentsError → List ℕ
npy_arguments_error_text NotText = codes "an argument isn't UTF-8"
npy_arguments_error_text NoRoom = codes "out of memory"
