-- Laws of lines and of scripts.
use Rattle.std.specs.Prelude.{◌≡◌, List, ℕ, ℤ}
use Rattle.nd_read.specs.ScriptCalls.{Asked}
use Rattle.nd_read.specs.LineGrammar.{IsCall}
use Rattle.nd_read.specs.ScriptReading.{AskedScript, IsScript, IsFirstBad}

-- The words of a line mean one call at most.
abbrev pub MeansOneCall : Type 0
MeansOneCall = (words : List (List ℕ)) (one other : Asked ℤ) → IsCall words one → IsCall words other → one ≡ other

-- Lines mean one script at most.
abbrev pub MeansOneScript : Type 0
MeansOneScript = (lines : List (List ℕ)) (one other : AskedScript) → IsScript lines one → IsScript lines other → one ≡ other

-- None of the lines of a script is bad.
abbrev pub HasNoBadLine : Type 0
HasNoBadLine = (lines : List (List ℕ)) (script : AskedScript) (n : ℕ) → IsScript lines script → ¬ (IsFirstBad lines n)
