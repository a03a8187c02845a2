-- A script: a line that starts with an array, and a call in each later line with words.
use Rattle.std.specs.Prelude.{◌≡◌, ℕ, ◌+◌, Bool, true, false, List, [], ◌∷◌, ◌++◌, length, ℤ, Option, None, Some, Result, Ok, Err, ◌⊎◌, if◌then◌else◌, IsTrue}
use Rattle.nd_array_core.specs.ArrayMeaning.{Meaning, meaning_of}
use Rattle.nd_read.specs.declared.reader.read_errors.ScriptError.{ScriptError}
use Rattle.nd_read.specs.declared.reader.read_errors.ScriptError.TheVariants.{BadLine, Memory}
use Rattle.nd_read.specs.declared.reader.Script.{Script}
use Rattle.nd_read.specs.declared.reader.lines_of_script.ScriptReader.{ScriptReader}
use Rattle.nd_read.specs.ScriptCalls.{Asked, asked_calls, boxed}
use Rattle.nd_read.specs.LineGrammar.{AreAll, IsStart, IsCall}
use Rattle.nd_read.specs.LineReaders.{call_of, start_of, call_may_lack, start_may_lack}
use Rattle.nd_text.specs.LinesAndWords.{words_of, is_wordless}

-- A script, apart from where it lies in memory.
pub record AskedScript : Type 0 where
  pub start : Meaning ℤ
  pub asked : List (Asked ℤ)

abbrev pub asked_script : Script → AskedScript
asked_script script = record { start = meaning_of script.start; asked = asked_calls (boxed meaning_of) script.calls.items }

-- Returns the words of each line that has some.
abbrev pub worded_lines : List (List ℕ) → List (List (List ℕ))
worded_lines [] = []
worded_lines (line ∷ lines) = if is_wordless (words_of line) then worded_lines lines else words_of line ∷ worded_lines lines

-- Says that the lines with words are the start of the script and then its calls.
abbrev pub IsScript : List (List ℕ) → AskedScript → Type 0
IsScript lines script =
    (first : List (List ℕ)) × (others : List (List (List ℕ))) × (worded_lines lines ≡ first ∷ others)
    × IsStart first script.start × AreAll IsCall others script.asked

-- Says that the words of the line write no start of a script.
abbrev pub IsNoStart : List ℕ → Type 0
IsNoStart line = (start : Meaning ℤ) → ¬ (IsStart (words_of line) start)

-- Says that the words of the line write no call.
abbrev pub IsNoCall : List ℕ → Type 0
IsNoCall line = (call : Asked ℤ) → ¬ (IsCall (words_of line) call)

-- Says that `bad` is the number of the first bad line, where the lines are counted from `n` on: it has words that
-- can't be read, and the lines before it can be read. If no line has words, it is the line after the last.
abbrev pub IsBadFrom : ℕ → List (List ℕ) → ℕ → Type 0
IsBadFrom n lines bad =
    ((worded_lines lines ≡ []) × (bad ≡ length lines + n))
    ⊎ ((front : List (List ℕ)) × (line : List ℕ) × (back : List (List ℕ)) × (lines ≡ front ++ (line ∷ back)) × (bad ≡ length front + n)
    × (is_wordless (words_of line) ≡ false)
    × (((worded_lines front ≡ []) × IsNoStart line) ⊎ ((script : AskedScript) × IsScript front script × IsNoCall line)))

-- Says that `bad` is the number of the first bad line, where the lines are counted from 1 on.
abbrev pub IsFirstBad : List (List ℕ) → ℕ → Type 0
IsFirstBad lines bad = IsBadFrom 1 lines bad

-- Says that memory is taken for the words of the line, read as the start of a script.
abbrev pub StartMayLack : List ℕ → Type 0
StartMayLack line = IsTrue (start_may_lack (words_of line))

-- Says that memory is taken for the words of the line, read as a call; or that they are a call, and memory is taken
-- for its place in the list of calls.
abbrev pub CallMayLack : List ℕ → Type 0
CallMayLack line = IsTrue (call_may_lack (words_of line)) ⊎ ((call : Asked ℤ) × IsCall (words_of line) call)

-- Says that reading a script may lack memory: memory is taken for a line that comes after lines which can be read.
abbrev pub MayLackIn : List (List ℕ) → Type 0
MayLackIn lines =
    (front : List (List ℕ)) × (line : List ℕ) × (back : List (List ℕ)) × (lines ≡ front ++ (line ∷ back)) × (is_wordless (words_of line) ≡ false)
    × (((worded_lines front ≡ []) × StartMayLack line) ⊎ ((script : AskedScript) × IsScript front script × CallMayLack line))

-- Says that reading the lines after the start may lack memory: memory is taken for a line that comes after lines
-- which can be read.
abbrev pub MayLackInCalls : List (List ℕ) → Type 0
MayLackInCalls lines =
    (front : List (List ℕ)) × (line : List ℕ) × (back : List (List ℕ)) × (lines ≡ front ++ (line ∷ back)) × (is_wordless (words_of line) ≡ false)
    × (calls : List (Asked ℤ)) × AreAll IsCall (worded_lines front) calls × CallMayLack line

-- Returns whether memory was refused to a reader of scripts.
abbrev pub lacked_memory : ScriptReader → Bool
lacked_memory reader = reader.lacked

-- ---- Reading line by line, up to the first bad line

infixl 10 ◌>>=◌
abbrev pub ◌>>=◌ : {A B : Type 0} → Result A ℕ → (A → Result B ℕ) → Result B ℕ
(Ok x) >>= f = f x
(Err n) >>= f = Err n

-- Returns what was read from a line, or the number `n` of the line if that is bad.
abbrev pub read_or_number : {A : Type 0} → ℕ → Option A → Result A ℕ
read_or_number n None = Err n
read_or_number n (Some x) = Ok x

-- Returns the call that the words of the line are, if they are one.
abbrev pub call_in : List ℕ → Option (Asked ℤ)
call_in line = call_of (length line) (words_of line)

-- Returns the array that the words of the line start a script with, if they do.
abbrev pub start_in : List ℕ → Option (Meaning ℤ)
start_in line = start_of (words_of line)

-- Returns the calls of the lines with words, or the number of the first bad line, where the lines are counted from
-- `n` on.
unfoldable pub calls_from : ℕ → List (List ℕ) → Result (List (Asked ℤ)) ℕ
calls_from n [] = Ok []
calls_from n (line ∷ lines) = if is_wordless (words_of line) then calls_from (n + 1) lines else (read_or_number n (call_in line) >>= λ call. calls_from (n + 1) lines >>= λ calls. Ok (call ∷ calls))

-- Returns the script that the lines write, or the number of the first bad line, where the lines are counted from `n`
-- on.
unfoldable pub script_from : ℕ → List (List ℕ) → Result AskedScript ℕ
script_from n [] = Err n
script_from n (line ∷ lines) = if is_wordless (words_of line) then script_from (n + 1) lines else (read_or_number n (start_in line) >>= λ start. calls_from (n + 1) lines >>= λ calls. Ok (record { start = start; asked = calls }))

-- Says that reading finds the bad line that the error names. Of lacking memory it says nothing.
abbrev pub FailsAt : {Y : Type 0} → ScriptError → Result Y ℕ → Type 0
FailsAt Memory read = Unit {0}
FailsAt (BadLine n) read = read ≡ Err n

-- Says that a reader of the code returned what reading gives, where `view` tells what its value means, unless memory
-- ran out.
abbrev pub GivesScript : {X Y : Type 0} → (X → Y) → Result X ScriptError → Result Y ℕ → Type 0
GivesScript view (Ok x) read = read ≡ Ok (view x)
GivesScript view (Err fault) read = FailsAt fault read

-- Returns whether the result is the error for lacking memory.
abbrev pub lacks_memory : {X : Type 0} → Result X ScriptError → Bool
lacks_memory (Ok x) = false
lacks_memory (Err Memory) = true
lacks_memory (Err (BadLine n)) = false
