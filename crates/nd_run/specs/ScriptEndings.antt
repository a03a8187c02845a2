-- How a script ends, what is written then, and the status.
use Rattle.std.specs.Prelude.{◌≡◌, ◌<◌, length, ℕ, ℤ, Bool, true, false, List, [], ◌++◌, Result, Ok, Err, ◌⊎◌, codes, if◌then◌else◌}
use Rattle.std.specs.Fmt.{decimal}
use Rattle.nd_run.specs.declared.output_and_exit_status.Outcome.{Outcome}
use Rattle.nd_run.specs.declared.output_and_exit_status.Outcome.TheVariants as outcomes
use Rattle.nd_run.specs.CallReplies.{Said, said_replies}
use Rattle.nd_read.specs.ScriptReading.{AskedScript, IsScript, IsFirstBad}
use Rattle.nd_run.specs.ReplyTexts.{replies_text, shape_and_elements_text}
use Rattle.nd_text.specs.LinesAndWords.{lines_of}

-- An end of the program: `Finished` with the replies and the last array, `BadAt` the number of a bad line,
-- `OutOfMemory` after these replies, or `NoInput` if a read failed.
pub data Ending : Type 0 where
  Finished : (replies : List (Said ℤ)) (lengths : List ℕ) (elements : List ℤ) → Ending
  BadAt : (number : ℕ) → Ending
  OutOfMemory : (replies : List (Said ℤ)) → Ending
  NoInput : Ending

-- Returns the end that the outcome of the code is.
abbrev pub ending : Outcome → Ending
ending (outcomes.BadLine number) = BadAt number
ending (outcomes.Memory replies) = OutOfMemory (said_replies replies.items)
ending outcomes.ReadFailed = NoInput

-- Returns what is written at an end.
abbrev pub ending_text : Ending → List ℕ
ending_text (Finished replies lengths elements) = replies_text replies ++ (codes "end " ++ (shape_and_elements_text lengths elements ++ codes "\n"))
ending_text (BadAt number) = codes "bad line " ++ (decimal number ++ codes "\n")
ending_text (OutOfMemory replies) = replies_text replies ++ codes "out of memory\n"
ending_text NoInput = codes "read failed\n"

abbrev pub ending_status : Ending → ℕ
ending_status (Finished replies lengths elements) = 0
ending_status (BadAt number) = 1
ending_status (OutOfMemory replies) = 2
ending_status NoInput = 3

-- Returns whether the end is the one without input.
abbrev pub is_no_input : Ending → Bool
is_no_input (Finished replies lengths elements) = false
is_no_input (BadAt number) = false
is_no_input (OutOfMemory replies) = false
is_no_input NoInput = true

-- Returns the status of an end, or 3 if a write failed.
abbrev pub status_of : Bool → Ending → ℕ
status_of failed end = if failed then 3 else ending_status end

-- ---- Loading a script

-- Returns whether loading a script failed in a read.
abbrev pub is_load_failure : {X : Type 0} → Result X Outcome → Bool
is_load_failure (Ok x) = false
is_load_failure (Err outcome) = is_no_input (ending outcome)

-- Says that the program may end in this way on these bytes if no script is loaded.
abbrev pub EndsUnloaded : List ℕ → Ending → Type 0
EndsUnloaded bytes (Finished replies lengths elements) = ⊥
EndsUnloaded bytes (BadAt number) = IsFirstBad (lines_of bytes) number
EndsUnloaded bytes (OutOfMemory replies) = (0 < length bytes) × (replies ≡ [])
EndsUnloaded bytes NoInput = Unit {0}

-- Says that loading gives the script that these bytes are, or an end that they may have without one.
abbrev pub Loads : {X : Type 0} → (X → AskedScript) → List ℕ → Result X Outcome → Type 0
Loads view bytes (Ok script) = IsScript (lines_of bytes) (view script)
Loads view bytes (Err outcome) = EndsUnloaded bytes (ending outcome)

-- ---- The whole program, where `Runs` says which replies and which array a script ends with, and `Stops` says
-- which replies may come before memory is refused

module _ (Runs : AskedScript → List (Said ℤ) → List ℕ → List ℤ → Type 0) (Stops : AskedScript → List (Said ℤ) → Type 0) where
  -- Says that memory may be refused on these bytes after these replies. It may be refused without a reply while the
  -- bytes are read.
  abbrev pub StopsForMemory : List ℕ → List (Said ℤ) → Type 0
  StopsForMemory bytes replies = ((0 < length bytes) × (replies ≡ [])) ⊎ ((script : AskedScript) × IsScript (lines_of bytes) script × Stops script replies)

  -- Says that the program may end in this way on these bytes.
  abbrev pub Ends : List ℕ → Ending → Type 0
  Ends bytes (Finished replies lengths elements) = (script : AskedScript) × IsScript (lines_of bytes) script × Runs script replies lengths elements
  Ends bytes (BadAt number) = IsFirstBad (lines_of bytes) number
  Ends bytes (OutOfMemory replies) = StopsForMemory bytes replies
  Ends bytes NoInput = Unit {0}

  -- Says that running the script may end in this way.
  abbrev pub RunsTo : AskedScript → Ending → Type 0
  RunsTo script (Finished replies lengths elements) = Runs script replies lengths elements
  RunsTo script (BadAt number) = ⊥
  RunsTo script (OutOfMemory replies) = Stops script replies
  RunsTo script NoInput = ⊥
