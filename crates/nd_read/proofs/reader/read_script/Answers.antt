use Rattle.std.proofs.Common.{◌≡◌, ℕ, List, Result, Ok, Err, subst, rules}
use Rattle.std.specs.Prelude.{IfOk}
use Rattle.nd_read.specs.declared.reader.read_errors.ScriptError.{ScriptError}
use Rattle.nd_read.specs.declared.reader.read_errors.ScriptError.TheVariants.{BadLine}
use Rattle.nd_text.specs.LinesAndWords.{lines_of}
use Rattle.nd_read.specs.ScriptReading.{AskedScript, IsScript, IsFirstBad, GivesScript, asked_script, script_from}
use Rattle.nd_read.proofs.ScriptsReadAndWritten.{script_takes, script_again}
use Rattle.nd_read.proofs.BadLines.{script_bad, bad_again}
use Rattle.nd_read.proofs.reader.read_script.Goals as goal

module _ {X : Type 0} (view : X → AskedScript) where
  found : (r : Result X ScriptError) (lines : List (List ℕ)) → GivesScript view r (script_from 1 lines) → IfOk r (λ s. IsScript lines (view s))
  found (Ok s) lines given = script_takes 1 lines (view s) given
  found (Err e) lines given = tt

  first_bad : (r : Result X ScriptError) (lines : List (List ℕ)) (n : ℕ) → GivesScript view r (script_from 1 lines) → r ≡ Err (BadLine n) → IsFirstBad lines n
  first_bad r lines n given e = script_bad 1 lines n (subst (λ (x : Result X ScriptError). GivesScript view x (script_from 1 lines)) e given)

pub returns : goal.returns
returns c =
    record {
      found = found asked_script c.whole_script.result (lines_of c.args.text.now) c.whole_script.ensures.read;
      only = λ s is. subst (GivesScript asked_script c.whole_script.result) (script_again 1 (lines_of c.args.text.now) s is) c.whole_script.ensures.read;
      bad = λ n e. first_bad asked_script c.whole_script.result (lines_of c.args.text.now) n c.whole_script.ensures.read e;
      bad_only = λ n is. subst (GivesScript asked_script c.whole_script.result) (bad_again 1 (lines_of c.args.text.now) n is) c.whole_script.ensures.read;
      memory = search rules;
      lacked = search rules;
    }
