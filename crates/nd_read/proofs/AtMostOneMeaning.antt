-- A line means one call at most, and a text one script at most.
use Rattle.std.proofs.Common.{◌≡◌, ℕ, length, Option, Some, Result, Ok, Err, sym, ◌∙◌, arith}
use Rattle.nd_read.specs.LineReaders.{call_of}
use Rattle.nd_read.specs.ScriptReading.{script_from}
use Rattle.nd_read.specs.LineAndScriptLaws.{MeansOneCall, MeansOneScript, HasNoBadLine}
use Rattle.nd_read.proofs.ReadingAfterKeywords.{call_again}
use Rattle.nd_read.proofs.ScriptsReadAndWritten.{script_again}
use Rattle.nd_read.proofs.BadLines.{bad_again}

same_some : {X : Type 0} (r : Option X) (x y : X) → r ≡ Some x → r ≡ Some y → x ≡ y
same_some r x y e f = let both : Some x ≡ Some y = sym e ∙ f in cc

same_ok : {X : Type 0} (r : Result X ℕ) (x y : X) → r ≡ Ok x → r ≡ Ok y → x ≡ y
same_ok r x y e f = let both : Ok x ≡ Ok y = sym e ∙ f in cc

pub means_one_call : MeansOneCall
means_one_call words one other h g =
    let n = length words in
    same_some (call_of n words) one other (call_again n words one (omega arith) h) (call_again n words other (omega arith) g)

pub means_one_script : MeansOneScript
means_one_script lines one other h g = same_ok (script_from 1 lines) one other (script_again 1 lines one h) (script_again 1 lines other g)

not_ok : {X : Type 0} (r : Result X ℕ) (x : X) (n : ℕ) → r ≡ Ok x → r ≡ Err n → ⊥
not_ok (Ok y) x n e f = absurd cc
not_ok (Err m) x n e f = absurd cc

pub has_no_bad_line : HasNoBadLine
has_no_bad_line lines script n is bad = not_ok (script_from 1 lines) script n (script_again 1 lines script is) (bad_again 1 lines n bad)
