-- What the program writes for the bytes that it reads, and which status tells of it. Each definition is about a
-- reader whose bytes are known.
use Rattle.std.specs.Prelude.{◌≡◌, ℕ, ℤ, false, List, ◌++◌, Option, IfSome, IsTrue}
use Rattle.std.specs.Ordering.{int_eq}
use Rattle.std.specs.Io.KnownBytes.{Appends}
use Rattle.nd_array_core.specs.ConcatenationAndSplit.{row_major_elements}
use Rattle.nd_text.specs.declared.watched_streams.Watched.{Watched}
use Rattle.nd_text.specs.BufferedPrinting.{TakesText}
use Rattle.nd_text.specs.WatchedReadersAndWriters.{watched_inner, watched_failed, watched_retried}
use Rattle.nd_text.specs.LinesAndWords.{lines_of}
use Rattle.nd_run.specs.CallReplies.{Said}
use Rattle.nd_run.specs.OutcomesOfCalls.{replies_to, end_of}
use Rattle.nd_read.specs.ScriptReading.{AskedScript, IsScript, IsFirstBad}
use Rattle.nd_run.specs.ScriptEndings.{Ending, Finished, BadAt, OutOfMemory, ending_text, status_of, is_no_input, StopsForMemory, Ends}
use Rattle.nd_run.specs.ScriptMeaning.{Runs, Stops}

-- Returns the end of a script's run.
abbrev pub run_ending : AskedScript → Ending
run_ending script =
    Finished (replies_to int_eq script.asked script.start) (end_of int_eq script.asked script.start).shape (row_major_elements (end_of int_eq script.asked script.start))

-- Says that the program may end in this way on these bytes, and that the end is the one without input exactly if a
-- read failed.
abbrev pub MayEnd : {R : Type 0} → List ℕ → Watched R → Ending → Type 0
MayEnd bytes input end = (watched_failed input ≡ is_no_input end) × Ends Runs Stops bytes end

-- Says that no call follows a failed one, and that a writer of which a call had failed before is left alone.
abbrev pub StopsAtFailure : {W : Type 0} → Watched W → Watched W → Type 0
StopsAtFailure old new = (IsTrue (watched_failed old) → new ≡ old) × (watched_retried new ≡ watched_retried old)

module _ {W : Type 0} (contents : W → Option (List ℕ)) where
  -- Says that the writer took the text.
  abbrev pub Took : Watched W → Watched W → List ℕ → Type 0
  Took old new text = Appends (contents (watched_inner old)) (contents (watched_inner new)) text

  -- Says that the text of some end that these bytes may have is written, with its status. If a write failed, only a
  -- beginning of it is.
  abbrev pub DrivenOn : {R : Type 0} → List ℕ → Watched R → Watched W → Watched W → ℕ → Type 0
  DrivenOn bytes input old new status = (end : Ending) × MayEnd bytes input end × TakesText contents old new (ending_text end) × (status ≡ status_of (watched_failed new) end)

module _ {R W : Type 0} (remaining : R → Option (List ℕ)) (contents : W → Option (List ℕ)) where
  -- Says that the text of some end that the reader's bytes may have is written, with its status. If a write failed,
  -- only a beginning of it is.
  abbrev pub Driven : Watched R → Watched R → Watched W → Watched W → ℕ → Type 0
  Driven input input' old new status = IfSome (remaining (watched_inner input)) (λ bytes. DrivenOn contents bytes input' old new status)

  -- Says that the writer took the text of an end that the reader's bytes may have, unless a write failed.
  abbrev pub TellsEnd : Watched R → Watched R → Watched W → Watched W → Type 0
  TellsEnd input input' old new =
      IfSome (remaining (watched_inner input)) (λ bytes. watched_failed new ≡ false → (end : Ending) × MayEnd bytes input' end × Took contents old new (ending_text end))

  -- Says that the bytes are a script, and that the writer took the replies of its run and the array that it leaves.
  abbrev pub TellsRun : Watched R → Watched W → Watched W → Type 0
  TellsRun input old new =
      IfSome (remaining (watched_inner input)) (λ bytes. (script : AskedScript) × IsScript (lines_of bytes) script × Took contents old new (ending_text (run_ending script)))

  -- Says that a line is bad, and that the writer took the number of the first bad one.
  abbrev pub TellsBadLine : Watched R → Watched W → Watched W → Type 0
  TellsBadLine input old new =
      IfSome (remaining (watched_inner input)) (λ bytes. (number : ℕ) × IsFirstBad (lines_of bytes) number × Took contents old new (ending_text (BadAt number)))

  -- Says that memory may be refused after some replies, and that the writer took these and the line that tells it.
  abbrev pub TellsWant : Watched R → Watched W → Watched W → Type 0
  TellsWant input old new =
      IfSome (remaining (watched_inner input)) (λ bytes. (replies : List (Said ℤ)) × StopsForMemory Runs Stops bytes replies × Took contents old new (ending_text (OutOfMemory replies)))

  -- Says that after a failed write the writer took a beginning of the text of an end that the reader's bytes may
  -- have.
  abbrev pub TellsBeginning : Watched R → Watched R → Watched W → Watched W → Type 0
  TellsBeginning input input' old new =
      IfSome (remaining (watched_inner input)) (λ bytes. IsTrue (watched_failed new) → (end : Ending) × MayEnd bytes input' end × (front rest : List ℕ) × (ending_text end ≡ front ++ rest) × Took contents old new front)
