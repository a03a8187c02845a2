-- What the program makes of its words and of the bytes that it reads, what it writes, and its status.
use Rattle.std.specs.Prelude.{◌≡◌, ◌⊎◌, ◌<◌, ℕ, Bool, true, false, List, [], length, Option, Some, IfSome, Result, Ok, Err}
use Rattle.std.specs.Io.KnownBytes.{Appends}
use Rattle.std.specs.Result.{result_map_both}
use Rattle.std.specs.declared.vec.Vec.{Vec}
use Rattle.nd_text.specs.declared.watched_streams.Watched.{Watched}
use Rattle.nd_text.specs.WatchedReadersAndWriters.{watched_inner, watched_failed, GetsFlushed}
use Rattle.nd_text.specs.BufferedPrinting.{TakesText}
use Rattle.nd_npy_text.specs.declared.item_type.ItemType.{ItemType}
use Rattle.nd_npy_run.specs.ViewSelectAndReshapeSteps.{AskedNpyStep}
use Rattle.nd_npy_run.specs.StepListWords.{AreNpySteps, IsBadNpyStep, MayLackForSteps}
use Rattle.nd_npy_run.specs.declared.output_or_fault.Fault.{Fault}
use Rattle.nd_npy_run.specs.declared.steps.errors.Refusal.{Refusal}
use Rattle.nd_npy_run.specs.declared.reduction.ReductionError.{ReductionError}
use Rattle.nd_npy_run.specs.declared.wanted_outputs.Wanted.{Wanted}
use Rattle.nd_npy_run.specs.declared.wanted_outputs.Wanted.TheVariants.{Text}
use Rattle.nd_npy_run.specs.declared.output_or_fault.Fault.TheVariants.{BadStep, BadHead, WrongSize, Refused, NoText, NotReduced, Memory, ReadFailed}
use Rattle.nd_npy_run.specs.ItemTexts.{has_text}
use Rattle.nd_npy_run.specs.ErrorTexts.{npy_line_text, npy_write_failure_text, npy_fault_text}
use Rattle.nd_npy_run.specs.FilesAfterSteps.{TurnsInto, IsRefused, HasWrongSize, HasNoHead, HasNoText, HasNoReduction, IsNotReduced, wanted_text, Items}

-- Says that the result is what is wanted of the array `m`, whose items have this type, or that it is to be printed and
-- its items have no text, or that it is to be reduced and can't be. Memory may run out.
abbrev pub ComesOfArray : Wanted → ItemType → Items → Result (List ℕ) Fault → Type 0
ComesOfArray wanted item_type m (Ok text) = wanted_text wanted item_type m ≡ Some text
ComesOfArray wanted item_type m (Err (NoText kind)) = (wanted ≡ Text) × (kind ≡ item_type.kind) × (has_text kind ≡ false)
ComesOfArray wanted item_type m (Err (NotReduced error)) = IsNotReduced wanted item_type m error
ComesOfArray wanted item_type m (Err Memory) = Unit {0}
ComesOfArray wanted item_type m (Err _) = ⊥

-- Says that the result is what is wanted of the array after steps, or the step that was refused.
abbrev pub ComesOfRest : Wanted → ItemType → Result Items Refusal → Result (List ℕ) Fault → Type 0
ComesOfRest wanted item_type (Ok m) made = ComesOfArray wanted item_type m made
ComesOfRest wanted item_type (Err refusal) made = made ≡ Err (Refused refusal)

-- Says that the result is this text, which is then known. Memory may run out.
abbrev pub ComesOfText : Option (List ℕ) → Result (List ℕ) Fault → Type 0
ComesOfText known (Ok text) = known ≡ Some text
ComesOfText known (Err Memory) = Unit {0}
ComesOfText known (Err _) = ⊥

-- Says that the result is this file of an array that is reduced, or why it isn't. Memory may run out.
abbrev pub ComesOfReduced : Result (List ℕ) ReductionError → Result (List ℕ) Fault → Type 0
ComesOfReduced reduced (Ok file) = reduced ≡ Ok file
ComesOfReduced reduced (Err (NotReduced error)) = reduced ≡ Err error
ComesOfReduced reduced (Err Memory) = Unit {0}
ComesOfReduced reduced (Err _) = ⊥

-- Says that the words are no list of steps.
abbrev pub AreNoNpySteps : List (List ℕ) → Type 0
AreNoNpySteps words = (steps : List AskedNpyStep) → ¬ (AreNpySteps words steps)

-- Says that the words are steps, and that `P` holds of these.
abbrev pub AreStepsWith : List (List ℕ) → (List AskedNpyStep → Type 0) → Type 0
AreStepsWith words P = (steps : List AskedNpyStep) × AreNpySteps words steps × P steps

-- Says that the result is what comes of these steps and bytes: what is wanted of the array after the steps, or the first
-- fault: in the head, in the number of bytes behind it, in a step that is refused, in the kind of items, which can't be
-- printed, or in what is to be reduced. Memory may run out if there are bytes.
abbrev pub ComesOfSteps : Wanted → List AskedNpyStep → List ℕ → Result (List ℕ) Fault → Type 0
ComesOfSteps wanted steps bytes (Ok turned) = TurnsInto wanted steps bytes turned
ComesOfSteps wanted steps bytes (Err (BadStep number word)) = ⊥
ComesOfSteps wanted steps bytes (Err (BadHead error)) = HasNoHead bytes error
ComesOfSteps wanted steps bytes (Err (WrongSize expected found)) = HasWrongSize bytes expected found
ComesOfSteps wanted steps bytes (Err (Refused refusal)) = IsRefused steps bytes refusal
ComesOfSteps wanted steps bytes (Err (NoText kind)) = HasNoText wanted steps bytes kind
ComesOfSteps wanted steps bytes (Err (NotReduced error)) = HasNoReduction wanted steps bytes error
ComesOfSteps wanted steps bytes (Err Memory) = 0 < length bytes
ComesOfSteps wanted steps bytes (Err ReadFailed) = ⊥

-- Says that the result is what comes of these words and bytes: what comes of the steps that the words are, or the first
-- step that can't be read. Memory may run out for a step, too, and a read may fail.
abbrev pub ComesOfFile : Wanted → List (List ℕ) → List ℕ → Result (List ℕ) Fault → Type 0
ComesOfFile wanted words bytes (Err (BadStep number word)) = IsBadNpyStep words number word.now
ComesOfFile wanted words bytes (Err Memory) = MayLackForSteps words ⊎ AreStepsWith words (λ steps. 0 < length bytes)
ComesOfFile wanted words bytes (Err ReadFailed) = Unit {0}
ComesOfFile wanted words bytes made = AreStepsWith words (λ steps. ComesOfSteps wanted steps bytes made)

-- Returns the bytes that were made, or the fault.
abbrev pub bytes_made : {Z : Type 0} → Result (Vec ℕ Z) Fault → Result (List ℕ) Fault
bytes_made made = result_map_both (λ file. file.items) (λ fault. fault) made

-- Returns what is written to the output.
abbrev pub npy_output_text : Result (List ℕ) Fault → List ℕ
npy_output_text (Ok file) = file
npy_output_text (Err fault) = []

-- Returns what is written to the errors: a line for a fault, or one for a failed write of the file.
abbrev pub npy_errors_text : Bool → Result (List ℕ) Fault → List ℕ
npy_errors_text failed (Ok file) = npy_write_failure_text failed
npy_errors_text failed (Err fault) = npy_line_text (npy_fault_text fault)

-- Returns whether the result is that a read failed.
abbrev pub is_npy_failed_read : {X : Type 0} → Result X Fault → Bool
is_npy_failed_read (Ok x) = false
is_npy_failed_read (Err ReadFailed) = true
is_npy_failed_read (Err _) = false

-- Returns the status of a fault.
abbrev pub npy_fault_status : Fault → ℕ
npy_fault_status (BadStep number word) = 1
npy_fault_status (BadHead error) = 1
npy_fault_status (WrongSize expected found) = 1
npy_fault_status (Refused refusal) = 1
npy_fault_status (NoText kind) = 1
npy_fault_status (NotReduced error) = 1
npy_fault_status Memory = 2
npy_fault_status ReadFailed = 3

-- Returns the status if no write failed.
abbrev pub npy_status_after : {X : Type 0} → Result X Fault → ℕ
npy_status_after (Ok x) = 0
npy_status_after (Err fault) = npy_fault_status fault

-- Says that the result is what comes of the words and of the reader's bytes, if these are known.
abbrev pub ComesOfReader : {R : Type 0} → (R → Option (List ℕ)) → Wanted → List (List ℕ) → Watched R → Result (List ℕ) Fault → Type 0
ComesOfReader remaining wanted words input made = IfSome (remaining (watched_inner input)) (λ bytes. ComesOfFile wanted words bytes made)

-- Says how the input is read for this result. If a step can't be read, it isn't read; if memory runs out, it isn't
-- read or no read failed; otherwise the result is a failed read exactly if a read failed.
abbrev pub IsInputReadFor : {R X : Type 0} → Watched R → Watched R → Result X Fault → Type 0
IsInputReadFor input input' (Err (BadStep number word)) = input' ≡ input
IsInputReadFor input input' (Err Memory) = (input' ≡ input) ⊎ (watched_failed input' ≡ false)
IsInputReadFor input input' made = watched_failed input' ≡ is_npy_failed_read made

-- Says that the errors are flushed if the flag is true, and are otherwise left alone.
abbrev pub FlushesErrorsIf : {E : Type 0} → Bool → Watched E → Watched E → Type 0
FlushesErrorsIf true errors errors' = GetsFlushed errors errors'
FlushesErrorsIf false errors errors' = errors' ≡ errors

-- Says that the output is flushed for a file, and the errors only if a write of it failed; and that for a fault the
-- errors are flushed and the output is left alone.
abbrev pub FlushesForNpy : {W E X : Type 0} → Watched W → Watched W → Watched E → Watched E → Result X Fault → Type 0
FlushesForNpy output output' errors errors' (Ok made) = GetsFlushed output output' × FlushesErrorsIf (watched_failed output') errors errors'
FlushesForNpy output output' errors errors' (Err fault) = GetsFlushed errors errors' × (output' ≡ output)

module _ {R W E : Type 0} (remaining : R → Option (List ℕ)) (contents : W → Option (List ℕ)) (reports : E → Option (List ℕ)) where
  -- Says that what comes of the words and the reader's bytes is written, a file to the output or a line to the errors,
  -- and that this is its status. If a write failed, only a beginning is written.
  abbrev pub PutsFileOrLine : Wanted → List (List ℕ) → Watched R → Watched R → Watched W → Watched W → Watched E → Watched E → ℕ → Type 0
  PutsFileOrLine wanted words input input' output output' errors errors' status =
      (made : Result (List ℕ) Fault) × ComesOfReader remaining wanted words input made × TakesText contents output output' (npy_output_text made) × TakesText reports errors errors' (npy_errors_text (watched_failed output') made) × (status ≡ npy_status_after made)
      × IsInputReadFor input input' made × FlushesForNpy output output' errors errors' made

  -- Says that what comes of the words and the reader's bytes is written, a file to the output or a line to the errors.
  -- If a write failed, only a beginning is written.
  abbrev pub BeginsFileOrLine : Wanted → List (List ℕ) → Watched R → Watched R → Watched W → Watched W → Watched E → Watched E → Type 0
  BeginsFileOrLine wanted words input input' output output' errors errors' =
      (made : Result (List ℕ) Fault) × ComesOfReader remaining wanted words input made × TakesText contents output output' (npy_output_text made) × TakesText reports errors errors' (npy_errors_text (watched_failed output') made)
      × IsInputReadFor input input' made × FlushesForNpy output output' errors errors' made

  -- Says that what comes of the words and the reader's bytes is written whole, and that this is its status.
  abbrev pub WritesFileOrLine : Wanted → List (List ℕ) → Watched R → Watched W → Watched W → Watched E → Watched E → ℕ → Type 0
  WritesFileOrLine wanted words input output output' errors errors' status =
      (made : Result (List ℕ) Fault) × ComesOfReader remaining wanted words input made
      × Appends (contents (watched_inner output)) (contents (watched_inner output')) (npy_output_text made)
      × Appends (reports (watched_inner errors)) (reports (watched_inner errors')) (npy_errors_text false made)
      × (status ≡ npy_status_after made)
