-- What the program makes of its words and of the bytes that it reads, what it writes, and its status.
use Rattle.std.specs.Prelude.{◌≡◌, ◌⊎◌, ◌<◌, ℕ, Bool, true, false, List, [], length, Option, IfSome, Result, Ok, Err}
use Rattle.std.specs.Io.KnownBytes.{Appends}
use Rattle.nd_text.specs.declared.watched_streams.Watched.{Watched}
use Rattle.nd_text.specs.WatchedReadersAndWriters.{watched_inner, watched_failed, GetsFlushed}
use Rattle.nd_text.specs.BufferedPrinting.{TakesText}
use Rattle.nd_picture_text.specs.declared.step.Step.{Step}
use Rattle.nd_picture_text.specs.ImageFormatsAndHeaders.{Pixmap, IsWholeImage}
use Rattle.nd_picture_text.specs.ImageReading.{image_in, counted}
use Rattle.nd_picture_text.specs.StepGrammar.{AreSteps, IsBadStep, LacksForStep}
use Rattle.nd_picture_text.specs.ImageWriting.{image_text}
use Rattle.nd_picture.specs.declared.read_change_and_write.Fault.{Fault}
use Rattle.nd_picture.specs.declared.read_change_and_write.Fault.TheVariants.{BadStep, BadByte, Refused, Memory, ReadFailed}
use Rattle.nd_picture.specs.ErrorTexts.{line_text, write_failure_text, fault_text}
use Rattle.nd_picture.specs.PictureChanges.{Picture}
use Rattle.nd_picture.specs.PictureSampleLists.{picture_in, IsImageOf}
use Rattle.nd_picture.specs.RowByRowOutput.{BeginsRows}
use Rattle.nd_picture.specs.RowwiseSteps.{are_by_rows}
use Rattle.nd_picture.specs.StepListResults.{after_all, header_after}

-- Returns the picture that the steps make of an image's picture, or the first step that can't be taken, with its
-- number.
abbrev pub picture_after : List Step → Pixmap → Result Picture (ℕ × Step)
picture_after steps image = after_all image.header.maxval 1 steps (picture_in image)

-- Says that the words are steps, that the bytes are an image, and that `P` holds of the steps, the image and what the
-- steps make of its picture.
abbrev pub StepsEnd : List (List ℕ) → List ℕ → (List Step → Pixmap → Result Picture (ℕ × Step) → Type 0) → Type 0
StepsEnd words bytes P = (steps : List Step) × (image : Pixmap) × AreSteps steps words × (image_in bytes ≡ Ok image) × P steps image (picture_after steps image)

-- Says that memory may run out: for a step that can be read after others, or because the words are steps and there
-- are bytes.
abbrev pub MayRunOutOfMemory : List (List ℕ) → List ℕ → Type 0
MayRunOutOfMemory words bytes = LacksForStep words ⊎ (((steps : List Step) × AreSteps steps words) × (0 < length bytes))

-- Says that the words are no list of steps.
abbrev pub AreNoSteps : List (List ℕ) → Type 0
AreNoSteps words = (steps : List Step) → ¬ (AreSteps steps words)

-- Says that the result is what comes of these words and bytes: an image of the picture that the steps end with, whole
-- and with no sample above the maxval, or the first fault, in a step that can't be read, in a byte, or in a step that
-- can't be taken. Memory may run out, and a read may fail.
abbrev pub Comes : List (List ℕ) → List ℕ → Result Pixmap Fault → Type 0
Comes words bytes (Ok made) = StepsEnd words bytes (λ steps image end. (p : Picture) × (end ≡ Ok p) × IsImageOf (header_after steps image.header) p made × IsWholeImage made)
Comes words bytes (Err (BadStep number flaw)) = IsBadStep words number flaw
Comes words bytes (Err (BadByte byte flaw)) = counted (length bytes) (image_in bytes) ≡ Err (byte, flaw)
Comes words bytes (Err (Refused number step)) = StepsEnd words bytes (λ steps image end. end ≡ Err (number, step))
Comes words bytes (Err Memory) = MayRunOutOfMemory words bytes
Comes words bytes (Err ReadFailed) = Unit {0}

-- Says that the words are steps, and that the text is the beginning of the image that they make of the one that the
-- bytes begin, row by row.
abbrev pub BeginsRowsOf : List (List ℕ) → List ℕ → List ℕ → Type 0
BeginsRowsOf words bytes text = (steps : List Step) × AreSteps steps words × BeginsRows steps bytes text

-- Says that the words are steps that go row by row.
abbrev pub GoRowByRow : List (List ℕ) → Type 0
GoRowByRow words = (steps : List Step) × AreSteps steps words × (are_by_rows steps ≡ true)

-- Says that this is the text that is written before the fault is found: nothing; or, where the steps go row by row, the
-- rows that they make of the first ones.
abbrev pub IsTextBefore : Type 0 → (List ℕ → List ℕ → Type 0) → Option (List ℕ) → Fault → List ℕ → Type 0
IsTextBefore by_rows begins known (BadStep number flaw) text = text ≡ []
IsTextBefore by_rows begins known (Refused number step) text = text ≡ []
IsTextBefore by_rows begins known _ text = (text ≡ []) ⊎ (by_rows × IfSome known (λ bytes. begins bytes text))

-- Says that this is what is written to the output: the image, or what is written before a fault is found.
abbrev pub IsOutputText : List (List ℕ) → Option (List ℕ) → Result Pixmap Fault → List ℕ → Type 0
IsOutputText words known (Ok image) text = text ≡ image_text image
IsOutputText words known (Err fault) text = IsTextBefore (GoRowByRow words) (BeginsRowsOf words) known fault text

-- Returns what is written to the errors: a line for a fault, or one for a failed write of the image.
abbrev pub errors_text : List (List ℕ) → Bool → Result Pixmap Fault → List ℕ
errors_text words failed (Ok image) = write_failure_text failed
errors_text words failed (Err fault) = line_text (fault_text words fault)

-- Returns whether the result is that a read failed.
abbrev pub is_failed_read : {X : Type 0} → Result X Fault → Bool
is_failed_read (Ok x) = false
is_failed_read (Err ReadFailed) = true
is_failed_read (Err _) = false

-- Returns the status of a fault.
abbrev pub fault_status : Fault → ℕ
fault_status (BadStep number flaw) = 1
fault_status (BadByte byte flaw) = 1
fault_status (Refused number step) = 1
fault_status Memory = 2
fault_status ReadFailed = 3

-- Returns the status if no write failed.
abbrev pub status_after : {X : Type 0} → Result X Fault → ℕ
status_after (Ok x) = 0
status_after (Err fault) = fault_status fault

-- Says that the result is what comes of the words and of the reader's bytes, if these are known.
abbrev pub ComesOf : {R : Type 0} → (R → Option (List ℕ)) → List (List ℕ) → Watched R → Result Pixmap Fault → Type 0
ComesOf remaining words input made = IfSome (remaining (watched_inner input)) (λ bytes. Comes words bytes made)

-- Says how the input is read for this result. If a step can't be read, it isn't read; if memory runs out, it isn't
-- read or no read failed; otherwise the result is a failed read exactly if a read failed.
abbrev pub IsReadFor : {R X : Type 0} → Watched R → Watched R → Result X Fault → Type 0
IsReadFor input input' (Err (BadStep number flaw)) = input' ≡ input
IsReadFor input input' (Err Memory) = (input' ≡ input) ⊎ (watched_failed input' ≡ false)
IsReadFor input input' made = watched_failed input' ≡ is_failed_read made

-- Says that the result isn't that a step can't be read.
abbrev pub HasGoodSteps : {X : Type 0} → Result X Fault → Type 0
HasGoodSteps (Err (BadStep number flaw)) = ⊥
HasGoodSteps _ = Unit {0}

-- Says that the errors are flushed if the flag is true, and are otherwise left alone.
abbrev pub FlushesIf : {E : Type 0} → Bool → Watched E → Watched E → Type 0
FlushesIf true errors errors' = GetsFlushed errors errors'
FlushesIf false errors errors' = errors' ≡ errors

-- Says that the writer is left alone or flushed.
abbrev pub IsLeftOrFlushed : {W : Type 0} → Watched W → Watched W → Type 0
IsLeftOrFlushed output output' = (output' ≡ output) ⊎ GetsFlushed output output'

-- Says that the output is flushed for an image, and the errors only if a write of it failed; and that for a fault the
-- errors are flushed, and the output is flushed or left alone.
abbrev pub FlushesFor : {W E X : Type 0} → Watched W → Watched W → Watched E → Watched E → Result X Fault → Type 0
FlushesFor output output' errors errors' (Ok made) = GetsFlushed output output' × FlushesIf (watched_failed output') errors errors'
FlushesFor output output' errors errors' (Err fault) = GetsFlushed errors errors' × IsLeftOrFlushed output output'

-- Says that the result is the image that the bytes mean, or the first byte that is wrong. Memory may run out if there
-- are bytes, and a read may fail.
abbrev pub IsImageRead : List ℕ → Result Pixmap Fault → Type 0
IsImageRead bytes (Ok image) = image_in bytes ≡ Ok image
IsImageRead bytes (Err (BadByte byte flaw)) = counted (length bytes) (image_in bytes) ≡ Err (byte, flaw)
IsImageRead bytes (Err Memory) = 0 < length bytes
IsImageRead bytes (Err ReadFailed) = Unit {0}
IsImageRead bytes (Err _) = ⊥

-- Says that the result is the image that the bytes mean, or why there is none, if these bytes are known.
abbrev pub IsImageReadFrom : Option (List ℕ) → Result Pixmap Fault → Type 0
IsImageReadFrom known made = IfSome known (λ bytes. IsImageRead bytes made)

-- Says that the result is an image of the picture after the steps, whole and with no sample above the maxval, or the
-- first step that can't be taken. Memory may run out.
abbrev pub Changes : List Step → Pixmap → Result Pixmap Fault → Type 0
Changes steps image (Ok made) = (p : Picture) × (picture_after steps image ≡ Ok p) × IsImageOf (header_after steps image.header) p made × IsWholeImage made
Changes steps image (Err (Refused number step)) = picture_after steps image ≡ Err (number, step)
Changes steps image (Err Memory) = Unit {0}
Changes steps image (Err _) = ⊥

-- Says that the result is what the steps make of the image that the bytes mean, or why there is none.
abbrev pub Makes : List Step → List ℕ → Result Pixmap Fault → Type 0
Makes steps bytes (Ok made) = (image : Pixmap) × (image_in bytes ≡ Ok image) × Changes steps image (Ok made)
Makes steps bytes (Err (Refused number step)) = (image : Pixmap) × (image_in bytes ≡ Ok image) × Changes steps image (Err (Refused number step))
Makes steps bytes (Err fault) = IsImageRead bytes (Err fault)

module _ {W : Type 0} (contents : W → Option (List ℕ)) where
  -- Says that the image that the steps make of that of the bytes is written, if these are known.
  abbrev pub WritesImage : List Step → Option (List ℕ) → Watched W → Watched W → Type 0
  WritesImage steps known output output' = (made : Pixmap) × IfSome known (λ bytes. Makes steps bytes (Ok made)) × TakesText contents output output' (image_text made) × GetsFlushed output output'

  -- Says that the fault is why the steps make no image of the bytes, and that what is due before it is written.
  abbrev pub WritesBefore : List Step → Option (List ℕ) → Fault → Watched W → Watched W → Type 0
  WritesBefore steps known fault output output' =
      IfSome known (λ bytes. Makes steps bytes (Err fault)) × (text : List ℕ) × IsTextBefore (are_by_rows steps ≡ true) (BeginsRows steps) known fault text × TakesText contents output output' text × IsLeftOrFlushed output output'

  -- Says that the image that comes of the words and of the bytes is written, if these bytes are known.
  abbrev pub WritesImageOf : List (List ℕ) → Option (List ℕ) → Watched W → Watched W → Type 0
  WritesImageOf words known output output' = (made : Pixmap) × IfSome known (λ bytes. Comes words bytes (Ok made)) × TakesText contents output output' (image_text made) × GetsFlushed output output'

  -- Says that the fault comes of the words and of the bytes, if these are known, and that what is due before it is written.
  abbrev pub WritesBeforeOf : List (List ℕ) → Option (List ℕ) → Fault → Watched W → Watched W → Type 0
  WritesBeforeOf words known fault output output' =
      IfSome known (λ bytes. Comes words bytes (Err fault)) × (text : List ℕ) × IsTextBefore (GoRowByRow words) (BeginsRowsOf words) known fault text × TakesText contents output output' text × IsLeftOrFlushed output output'

module _ {R W E : Type 0} (remaining : R → Option (List ℕ)) (contents : W → Option (List ℕ)) (reports : E → Option (List ℕ)) where
  -- Says that what comes of the words and the reader's bytes is written, an image to the output or a line to the
  -- errors, and that this is its status. If a write failed, only a beginning is written. Before a fault is found, the
  -- first rows of the image may be written.
  abbrev pub PutsWhatComes : List (List ℕ) → Watched R → Watched R → Watched W → Watched W → Watched E → Watched E → ℕ → Type 0
  PutsWhatComes words input input' output output' errors errors' status =
      (made : Result Pixmap Fault) × (text : List ℕ) × ComesOf remaining words input made × IsOutputText words (remaining (watched_inner input)) made text
      × TakesText contents output output' text × TakesText reports errors errors' (errors_text words (watched_failed output') made) × (status ≡ status_after made)
      × IsReadFor input input' made × FlushesFor output output' errors errors' made

  -- Says that what comes of the words and the reader's bytes is written, an image to the output or a line to the
  -- errors. If a write failed, only a beginning is written. Before a fault is found, the first rows of the image may be
  -- written.
  abbrev pub BeginsWhatComes : List (List ℕ) → Watched R → Watched R → Watched W → Watched W → Watched E → Watched E → Type 0
  BeginsWhatComes words input input' output output' errors errors' =
      (made : Result Pixmap Fault) × (text : List ℕ) × ComesOf remaining words input made × IsOutputText words (remaining (watched_inner input)) made text
      × TakesText contents output output' text × TakesText reports errors errors' (errors_text words (watched_failed output') made)
      × IsReadFor input input' made × FlushesFor output output' errors errors' made

  -- Says that what comes of the words and the reader's bytes is written whole, and that this is its status. Before a fault
  -- is found, the first rows of the image may be written.
  abbrev pub WritesWhatComes : List (List ℕ) → Watched R → Watched W → Watched W → Watched E → Watched E → ℕ → Type 0
  WritesWhatComes words input output output' errors errors' status =
      (made : Result Pixmap Fault) × (text : List ℕ) × ComesOf remaining words input made × IsOutputText words (remaining (watched_inner input)) made text
      × Appends (contents (watched_inner output)) (contents (watched_inner output')) text
      × Appends (reports (watched_inner errors)) (reports (watched_inner errors')) (errors_text words false made)
      × (status ≡ status_after made)
