-- What comes of words, of bytes and of steps.
use Rattle.std.proofs.Common.{◌≡◌, Bor, ℕ, ◌<◌, false, List, length, Option, Some, None, Result, Ok, Err, inr, sym, subst}
use Rattle.std.specs.Prelude.{IfSome}
use Rattle.std.specs.Result.{result_map_both}
use Rattle.nd_text.specs.declared.watched_streams.Watched.{Watched}
use Rattle.nd_text.specs.WatchedReadersAndWriters.{watched_failed}
use Rattle.nd_npy_run.specs.declared.steps.errors.WordsError.{WordsError}
use Rattle.nd_npy_run.specs.declared.steps.errors.WordsError.TheVariants as words_errors
use Rattle.nd_npy_run.specs.ViewSelectAndReshapeSteps.{AskedNpyStep}
use Rattle.nd_npy_run.specs.StepListWords.{AreNpySteps, GivesNpySteps}
use Rattle.nd_npy_run.specs.declared.output_or_fault.Fault.{Fault}
use Rattle.nd_npy_run.specs.declared.output_or_fault.Fault.TheVariants.{BadStep, BadHead, WrongSize, Refused, NoText, NotReduced, Memory, ReadFailed}
use Rattle.nd_npy_run.specs.declared.wanted_outputs.Wanted.{Wanted}
use Rattle.nd_npy_run.specs.OutputAndStatus.{ComesOfFile, ComesOfSteps, IsInputReadFor}

-- what comes of the bytes that were read
pub comes_read : (wanted : Wanted) (words : List (List ℕ)) (made : Result (List ℕ) Fault) (r : Option (List ℕ)) (v : List ℕ) → IfSome r (λ xs. xs ≡ v) → ComesOfFile wanted words v made → IfSome r (λ bytes. ComesOfFile wanted words bytes made)
comes_read wanted words made None v same comes = tt
comes_read wanted words made (Some xs) v same comes = subst (λ bytes. ComesOfFile wanted words bytes made) (sym same) comes

-- a step that can't be read
pub comes_bad : (wanted : Wanted) (words : List (List ℕ)) (r : Option (List ℕ)) (error : WordsError) (number : ℕ) (word : Bor (List ℕ)) → error ≡ words_errors.BadStep number word → GivesNpySteps words (Err error) → IfSome r (λ bytes. ComesOfFile wanted words bytes (Err (BadStep number word)))
comes_bad wanted words None error number word is bad = tt
comes_bad wanted words (Some xs) error number word is bad = subst (λ e. GivesNpySteps words (Err e)) is bad

-- no memory for the bytes
pub comes_short : (wanted : Wanted) (steps : List AskedNpyStep) (words : List (List ℕ)) (r : Option (List ℕ)) → AreNpySteps words steps → IfSome r (λ xs. 0 < length xs) → IfSome r (λ bytes. ComesOfFile wanted words bytes (Err Memory))
comes_short wanted steps words None are some = tt
comes_short wanted steps words (Some xs) are some = inr (steps, are, some)

module _ (wanted : Wanted) (steps : List AskedNpyStep) (bytes : List ℕ) where
  pub comes_turned : (words : List (List ℕ)) (made : Result (List ℕ) Fault) → AreNpySteps words steps → ComesOfSteps wanted steps bytes made → ComesOfFile wanted words bytes made
  comes_turned words (Ok file) are comes = (steps, are, comes)
  comes_turned words (Err (BadStep n w)) are comes = absurd comes
  comes_turned words (Err (BadHead e)) are comes = (steps, are, comes)
  comes_turned words (Err (WrongSize n m)) are comes = (steps, are, comes)
  comes_turned words (Err (Refused r)) are comes = (steps, are, comes)
  comes_turned words (Err (NoText kind)) are comes = (steps, are, comes)
  comes_turned words (Err (NotReduced error)) are comes = (steps, are, comes)
  comes_turned words (Err Memory) are comes = inr (steps, are, comes)
  comes_turned words (Err ReadFailed) are comes = absurd comes

  -- what the steps make of a file was read without a failed read
  pub reads_turned : {R X : Type 0} (view : X → List ℕ) (input input' : Watched R) (made : Result X Fault) → ComesOfSteps wanted steps bytes (result_map_both view (λ e. e) made) → watched_failed input' ≡ false → IsInputReadFor input input' made
  reads_turned view input input' (Ok x) comes whole = whole
  reads_turned view input input' (Err (BadStep n w)) comes whole = absurd comes
  reads_turned view input input' (Err (BadHead e)) comes whole = whole
  reads_turned view input input' (Err (WrongSize n m)) comes whole = whole
  reads_turned view input input' (Err (Refused r)) comes whole = whole
  reads_turned view input input' (Err (NoText kind)) comes whole = whole
  reads_turned view input input' (Err (NotReduced error)) comes whole = whole
  reads_turned view input input' (Err Memory) comes whole = inr whole
  reads_turned view input input' (Err ReadFailed) comes whole = absurd comes
