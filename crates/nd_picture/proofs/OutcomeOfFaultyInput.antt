-- What comes of bytes that give no image, how they are read, and where memory may run out.
use Rattle.std.proofs.Common.{◌≡◌, ◌∙◌, ℕ, ◌<◌, ◌≤◌, ◌⊎◌, ◌^◌, List, [], ◌∷◌, ◌++◌, length, length-append, append-nil, Option, None, Some, IfSome, IfErr, Result, Ok, Err, inl, inr, true, refl, sym, ap, subst, arith}
use Rattle.std.specs.Io.KnownBytes.{prepend_known, Consumes, IsAtEnd}
use Rattle.nd_text.specs.declared.watched_streams.Watched.{Watched}
use Rattle.nd_text.specs.WatchedReadersAndWriters.{watched_failed, GetsFlushed}
use Rattle.nd_text.specs.BufferedPrinting.{TakesText}
use Rattle.nd_text.proofs.PrintingInTurn.{writes_nothing}
use Rattle.nd_picture_text.specs.declared.step.Step.{Step}
use Rattle.nd_picture_text.specs.declared.image_formats.Header.{Header}
use Rattle.nd_picture_text.specs.ImageFormatsAndHeaders.{Pixmap}
use Rattle.nd_picture_text.specs.ImageReading.{ImageStop, image_header_in, image_in, counted, AsksForSamples}
use Rattle.nd_picture_text.specs.StepGrammar.{AreSteps}
use Rattle.nd_picture_text.specs.ImageWriting.{image_text}
use Rattle.nd_picture.specs.declared.read_change_and_write.Fault.{Fault}
use Rattle.nd_picture.specs.declared.read_change_and_write.Fault.TheVariants.{BadStep, BadByte, Refused, Memory, ReadFailed}
use Rattle.nd_picture.specs.RowByRowOutput.{BeginsRows}
use Rattle.nd_picture.specs.RowwiseSteps.{are_by_rows}
use Rattle.nd_picture.specs.OutputAndStatus.{Comes, is_failed_read, HasGoodSteps, IsImageRead, IsReadFor, Changes, Makes, GoRowByRow, IsTextBefore, BeginsRowsOf, WritesImage, WritesBefore, WritesImageOf, WritesBeforeOf}

-- a header has bytes, and so has an image
pub some_header : (bytes : List ℕ) (x : Header × List ℕ) → image_header_in bytes ≡ Ok x → 0 < length bytes
unfolding image_header_in
some_header [] x e = absurd cc
some_header (b ∷ bytes) x e = omega arith

pub some_image : (bytes : List ℕ) (image : Pixmap) → image_in bytes ≡ Ok image → 0 < length bytes
unfolding image_in image_header_in
some_image [] image e = absurd cc
some_image (b ∷ bytes) image e = omega arith

pub some_asked : (bytes : List ℕ) → AsksForSamples bytes → 0 < length bytes
some_asked bytes asks = some_header bytes (asks.0, asks.1) asks.2

-- ---- bytes that were read before, and those that the reader still gives

-- all of them were read
pub all_given : (old new : Option (List ℕ)) (bytes piece read : List ℕ) (P : List ℕ → Type 0) → Consumes old new piece → IsAtEnd new → read ≡ bytes ++ piece → P read → IfSome (prepend_known bytes old) P
all_given None new bytes piece read P takes end is holds = tt
all_given (Some xs) None bytes piece read P takes end is holds = absurd takes
all_given (Some xs) (Some ys) bytes piece read P takes end is holds =
    let none : ys ≡ [] = end in
    let same : bytes ++ xs ≡ read = ap (λ (l : List ℕ). bytes ++ l) (takes ∙ ap (λ (l : List ℕ). piece ++ l) none ∙ append-nil piece) ∙ sym is in
    subst P (sym same) holds

pub uncounted : (n : ℕ) (r : Result Pixmap ImageStop) (image : Pixmap) → counted n r ≡ Ok image → r ≡ Ok image
uncounted n (Ok made) image is = is
uncounted n (Err stop) image is = absurd cc

-- there are never so many bytes
pub at_end : (known : Option (List ℕ)) (bytes : List ℕ) → (18446744073709551615 ≤ length bytes) ⊎ IsAtEnd known → length bytes < 2 ^ 63 → IsAtEnd known
at_end known bytes (inl many) few = absurd (omega (arith, many, few))
at_end known bytes (inr end) few = end

pub each_given : (known : Option (List ℕ)) (bytes : List ℕ) (P : List ℕ → Type 0) → ((l : List ℕ) → P l) → IfSome (prepend_known bytes known) P
each_given None bytes P holds = tt
each_given (Some xs) bytes P holds = holds (bytes ++ xs)

pub some_given : (known : Option (List ℕ)) (bytes : List ℕ) → IfSome known (λ xs. 0 < length xs) → IfSome (prepend_known bytes known) (λ l. 0 < length l)
some_given None bytes some = tt
some_given (Some xs) bytes some = omega (arith, some, length-append bytes xs)

-- what holds of the known bytes holds of all that were given at first
abbrev pub Backward : Option (List ℕ) → Option (List ℕ) → Type 1
Backward known before = (P : List ℕ → Type 0) → IfSome known P → IfSome before P

pub from_start : (known : Option (List ℕ)) → Backward (prepend_known [] known) known
from_start None P holds = tt
from_start (Some xs) P holds = holds

pub from_front : (old new : Option (List ℕ)) (first read piece : List ℕ) → first ≡ [] → Consumes old new piece → read ≡ first ++ piece → Backward (prepend_known read new) old
from_front None new first read piece none takes is P holds = tt
from_front (Some xs) None first read piece none takes is P holds = absurd takes
from_front (Some xs) (Some ys) first read piece none takes is P holds = subst P (ap (λ (l : List ℕ). l ++ ys) (is ∙ ap (λ (l : List ℕ). l ++ piece) none) ∙ sym takes) holds

both_known : (known : Option (List ℕ)) (P Q : List ℕ → Type 0) → ((l : List ℕ) → P l → Q l) → IfSome known P → IfSome known Q
both_known None P Q more holds = tt
both_known (Some xs) P Q more holds = more xs holds

-- ---- what the steps make of the bytes

module _ (steps : List Step) where
  pub unloaded : (bytes : List ℕ) (fault : Fault) → IsImageRead bytes (Err fault) → Makes steps bytes (Err fault)
  unloaded bytes (BadStep n w) loads = loads
  unloaded bytes (BadByte n w) loads = loads
  unloaded bytes (Refused n s) loads = absurd loads
  unloaded bytes Memory loads = loads
  unloaded bytes ReadFailed loads = loads

  pub changed : (image : Pixmap) (fault : Fault) → Changes steps image (Err fault) → (bytes : List ℕ) → IsImageRead bytes (Ok image) → Makes steps bytes (Err fault)
  changed image (BadStep n w) changes bytes is = absurd changes
  changed image (BadByte n w) changes bytes is = absurd changes
  changed image (Refused n s) changes bytes is = (image, is, changes)
  changed image Memory changes bytes is = some_image bytes image is
  changed image ReadFailed changes bytes is = absurd changes

  pub no_text : (by_rows : Type 0) (begins : List ℕ → List ℕ → Type 0) (known : Option (List ℕ)) (fault : Fault) → IsTextBefore by_rows begins known fault []
  no_text by_rows begins known (BadStep n w) = refl
  no_text by_rows begins known (BadByte n w) = inl refl
  no_text by_rows begins known (Refused n s) = refl
  no_text by_rows begins known Memory = inl refl
  no_text by_rows begins known ReadFailed = inl refl

  rows_back : (by_rows also_by_rows : Type 0) (begins other : List ℕ → List ℕ → Type 0) (known before : Option (List ℕ)) (text : List ℕ) → Backward known before → (by_rows → also_by_rows) → ((bytes : List ℕ) → begins bytes text → other bytes text)
      → (text ≡ []) ⊎ (by_rows × IfSome known (λ bytes. begins bytes text)) → (text ≡ []) ⊎ (also_by_rows × IfSome before (λ bytes. other bytes text))
  rows_back by_rows also_by_rows begins other known before text back also more (inl e) = inl e
  rows_back by_rows also_by_rows begins other known before text back also more (inr is) = inr (also is.0, both_known before (λ bytes. begins bytes text) (λ bytes. other bytes text) more (back (λ bytes. begins bytes text) is.1))

  text_back : (by_rows also_by_rows : Type 0) (begins other : List ℕ → List ℕ → Type 0) (known before : Option (List ℕ)) (fault : Fault) (text : List ℕ) → Backward known before → (by_rows → also_by_rows) → ((bytes : List ℕ) → begins bytes text → other bytes text)
      → IsTextBefore by_rows begins known fault text → IsTextBefore also_by_rows other before fault text
  text_back by_rows also_by_rows begins other known before (BadStep n w) text back also more is = is
  text_back by_rows also_by_rows begins other known before (Refused n s) text back also more is = is
  text_back by_rows also_by_rows begins other known before (BadByte n w) text back also more is = rows_back by_rows also_by_rows begins other known before text back also more is
  text_back by_rows also_by_rows begins other known before Memory text back also more is = rows_back by_rows also_by_rows begins other known before text back also more is
  text_back by_rows also_by_rows begins other known before ReadFailed text back also more is = rows_back by_rows also_by_rows begins other known before text back also more is

  module _ {W : Type 0} (contents : W → Option (List ℕ)) (output output' : Watched W) where
    -- nothing is written
    pub writes_none : (known : Option (List ℕ)) (fault : Fault) → IfSome known (λ bytes. Makes steps bytes (Err fault)) → WritesBefore contents steps known fault output output
    writes_none known fault makes = (makes, [], no_text (are_by_rows steps ≡ true) (BeginsRows steps) known fault, (writes_nothing output).takes, inl refl)

    pub unloaded_writes : (known : Option (List ℕ)) (fault : Fault) → IfSome known (λ bytes. IsImageRead bytes (Err fault)) → WritesBefore contents steps known fault output output
    unloaded_writes known fault loads = writes_none known fault (both_known known (λ bytes. IsImageRead bytes (Err fault)) (λ bytes. Makes steps bytes (Err fault)) (λ bytes. unloaded bytes fault) loads)

    pub refused_writes : (known : Option (List ℕ)) (image : Pixmap) (fault : Fault) → Changes steps image (Err fault) → IfSome known (λ bytes. IsImageRead bytes (Ok image)) → WritesBefore contents steps known fault output output
    refused_writes known image fault changes loads = writes_none known fault (both_known known (λ bytes. IsImageRead bytes (Ok image)) (λ bytes. Makes steps bytes (Err fault)) (λ bytes. changed image fault changes bytes) loads)

    pub changed_writes : (known : Option (List ℕ)) (image made : Pixmap) → Changes steps image (Ok made) → IfSome known (λ bytes. IsImageRead bytes (Ok image)) → TakesText contents output output' (image_text made) → GetsFlushed output output' → WritesImage contents steps known output output'
    changed_writes known image made changes loads text flushed = (made, both_known known (λ bytes. IsImageRead bytes (Ok image)) (λ bytes. Makes steps bytes (Ok made)) (λ bytes is. (image, is, changes)) loads, text, flushed)

    -- from what was given at first
    pub image_back : (known before : Option (List ℕ)) → Backward known before → WritesImage contents steps known output output' → WritesImage contents steps before output output'
    image_back known before back writes = (writes.0, back (λ bytes. Makes steps bytes (Ok writes.0)) writes.1, writes.2, writes.3)

    pub fault_back : (known before : Option (List ℕ)) (fault : Fault) → Backward known before → WritesBefore contents steps known fault output output' → WritesBefore contents steps before fault output output'
    fault_back known before fault back writes = (back (λ bytes. Makes steps bytes (Err fault)) writes.0, writes.1, text_back (are_by_rows steps ≡ true) (are_by_rows steps ≡ true) (BeginsRows steps) (BeginsRows steps) known before fault writes.1 back (λ is. is) (λ bytes is. is) writes.2, writes.3, writes.4)

    pub results_back : {X : Type 0} (known before : Option (List ℕ)) (result : Result X Fault) → Backward known before → IfErr result (λ fault. WritesBefore contents steps known fault output output') → IfErr result (λ fault. WritesBefore contents steps before fault output output')
    results_back {X} known before (Ok x) back writes = tt
    results_back {X} known before (Err fault) back writes = fault_back known before fault back writes

  -- ---- the words of the steps
  module _ (words : List (List ℕ)) (are : AreSteps steps words) where
    comes : (bytes : List ℕ) (made : Result Pixmap Fault) → Makes steps bytes made → Comes words bytes made
    comes bytes (Ok made) makes = (steps, makes.0, are, makes.1, makes.2)
    comes bytes (Err (BadStep n w)) makes = absurd makes
    comes bytes (Err (BadByte n w)) makes = makes
    comes bytes (Err (Refused n s)) makes = (steps, makes.0, are, makes.1, makes.2)
    comes bytes (Err Memory) makes = inr ((steps, are), makes)
    comes bytes (Err ReadFailed) makes = tt

    module _ {W : Type 0} (contents : W → Option (List ℕ)) (output output' : Watched W) (known : Option (List ℕ)) where
      pub image_of_words : WritesImage contents steps known output output' → WritesImageOf contents words known output output'
      image_of_words writes = (writes.0, both_known known (λ bytes. Makes steps bytes (Ok writes.0)) (λ bytes. Comes words bytes (Ok writes.0)) (λ bytes. comes bytes (Ok writes.0)) writes.1, writes.2, writes.3)

      pub fault_of_words : (fault : Fault) → WritesBefore contents steps known fault output output' → WritesBeforeOf contents words known fault output output'
      fault_of_words fault writes = (
        both_known known (λ bytes. Makes steps bytes (Err fault)) (λ bytes. Comes words bytes (Err fault)) (λ bytes. comes bytes (Err fault)) writes.0,
        writes.1,
        text_back (are_by_rows steps ≡ true) (GoRowByRow words) (BeginsRows steps) (BeginsRowsOf words) known known fault writes.1 (λ P holds. holds) (λ is. (steps, are, is)) (λ bytes is. (steps, are, is)) writes.2,
        writes.3,
        writes.4,
      )

      pub results_of_words : {X : Type 0} (result : Result X Fault) → IfErr result (λ fault. WritesBefore contents steps known fault output output') → IfErr result (λ fault. WritesBeforeOf contents words known fault output output')
      results_of_words {X} (Ok x) writes = tt
      results_of_words {X} (Err fault) writes = fault_of_words fault writes

-- words that are no steps
pub no_steps_written : {W : Type 0} (contents : W → Option (List ℕ)) (output : Watched W) (words : List (List ℕ)) (known : Option (List ℕ)) (fault : Fault) → ((bytes : List ℕ) → Comes words bytes (Err fault)) → WritesBeforeOf contents words known fault output output
no_steps_written {W} contents output words known fault come = (by_known known, [], no_text [] (GoRowByRow words) (BeginsRowsOf words) known fault, (writes_nothing output).takes, inl refl)
  where
    by_known : (known : Option (List ℕ)) → IfSome known (λ bytes. Comes words bytes (Err fault))
    by_known None = tt
    by_known (Some bytes) = come bytes

-- how the input was read where no step was bad
pub reads_made : {R X : Type 0} (input input' : Watched R) (made : Result X Fault) → watched_failed input' ≡ is_failed_read made → HasGoodSteps made → IsReadFor input input' made
reads_made {R} {X} input input' (Ok x) failed good = failed
reads_made {R} {X} input input' (Err (BadStep n w)) failed good = absurd good
reads_made {R} {X} input input' (Err (BadByte n w)) failed good = failed
reads_made {R} {X} input input' (Err (Refused n s)) failed good = failed
reads_made {R} {X} input input' (Err Memory) failed good = inr failed
reads_made {R} {X} input input' (Err ReadFailed) failed good = failed

-- an image is changed by good steps
pub changes_good : (X : Type 0) (steps : List Step) (image : Pixmap) (fault : Fault) → Changes steps image (Err fault) → HasGoodSteps {X = X} (Err fault)
changes_good X steps image (BadStep n w) changes = absurd changes
changes_good X steps image (BadByte n w) changes = tt
changes_good X steps image (Refused n s) changes = tt
changes_good X steps image Memory changes = tt
changes_good X steps image ReadFailed changes = tt
