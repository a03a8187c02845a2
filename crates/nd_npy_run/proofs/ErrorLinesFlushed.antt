-- The status 3 is that of a read that failed, and a line that tells a fault gets flushed.
use Rattle.std.proofs.Common.{◌≡◌, ◌∙◌, ℕ, ◌<◌, Bool, true, false, List, Option, Result, Ok, Err, refl, sym, ap, subst, arith}
use Rattle.std.specs.Prelude.{◌||◌}
use Rattle.std.specs.Io.KnownBytes.{Appends}
use Rattle.nd_text.specs.declared.watched_streams.Flushes.TheVariants.{Never}
use Rattle.nd_text.specs.declared.watched_streams.Watched.{Watched}
use Rattle.nd_text.specs.WatchedReadersAndWriters.{watched_inner, watched_failed, watched_flushes, is_flushed_once, GetsFlushed}
use Rattle.nd_npy_run.specs.declared.output_or_fault.Fault.{Fault}
use Rattle.nd_npy_run.specs.declared.output_or_fault.Fault.TheVariants.{BadStep, BadHead, WrongSize, Refused, NoText, NotReduced, Memory, ReadFailed}
use Rattle.nd_npy_run.specs.declared.wanted_outputs.Wanted.{Wanted}
use Rattle.nd_npy_run.specs.OutputAndStatus.{npy_errors_text, npy_fault_status, npy_status_after, FlushesErrorsIf, FlushesForNpy, IsInputReadFor, PutsFileOrLine, WritesFileOrLine}

pub read_fault : {R X : Type 0} (input input' : Watched R) (made : Result X Fault) (f : Fault) → made ≡ Err f → npy_fault_status f ≡ 3 → IsInputReadFor input input' made → watched_failed input' ≡ true
read_fault input input' made (BadStep n w) is e reads = absurd (omega (arith, e))
read_fault input input' made (BadHead h) is e reads = absurd (omega (arith, e))
read_fault input input' made (WrongSize n m) is e reads = absurd (omega (arith, e))
read_fault input input' made (Refused r) is e reads = absurd (omega (arith, e))
read_fault input input' made (NoText kind) is e reads = absurd (omega (arith, e))
read_fault input input' made (NotReduced error) is e reads = absurd (omega (arith, e))
read_fault input input' made Memory is e reads = absurd (omega (arith, e))
read_fault input input' made ReadFailed is e reads = subst (IsInputReadFor input input') is reads

-- a writer that is left alone after a failed call counts as flushed
left_alone : {E : Type 0} (errors errors' : Watched E) → errors' ≡ errors → watched_failed errors' ≡ true → GetsFlushed errors errors'
left_alone errors errors' same failed never = ap (λ f. is_flushed_once f (watched_failed errors')) (ap (λ e. watched_flushes e) same ∙ never) ∙ ap (is_flushed_once Never) failed

-- so the errors count as flushed where a write or a call of theirs failed
flushed_if : {E : Type 0} (failed : Bool) (errors errors' : Watched E) → FlushesErrorsIf failed errors errors' → (failed || watched_failed errors') ≡ true → GetsFlushed errors errors'
flushed_if true errors errors' flushes some = flushes
flushed_if false errors errors' same some = left_alone errors errors' same some

module _ {R W E X : Type 0} (input input' : Watched R) (output output' : Watched W) (errors errors' : Watched E) where
  pub line_flushed : (made : Result X Fault) (status : ℕ) → status ≡ npy_status_after made → 0 < status → FlushesForNpy output output' errors errors' made → GetsFlushed errors errors'
  line_flushed (Ok x) status is more flushes = absurd (omega (arith, is, more))
  line_flushed (Err fault) status is more flushes = flushes.0

  -- also where a call failed
  pub line_flushed_failing : (made : Result X Fault) → IsInputReadFor input input' made → FlushesForNpy output output' errors errors' made → (watched_failed input' || watched_failed output' || watched_failed errors') ≡ true → GetsFlushed errors errors'
  line_flushed_failing (Ok x) reads flushes failed =
      flushed_if (watched_failed output') errors errors' flushes.1 (sym (ap (λ a. a || watched_failed output' || watched_failed errors') reads) ∙ failed)
  line_flushed_failing (Err fault) reads flushes failed = flushes.0

-- of three flags that are all false, the second and the third are
none_set : (a b c : Bool) → (a || b || c) ≡ false → (b ≡ false) × (c ≡ false)
none_set true b c is = absurd cc
none_set false true c is = absurd cc
none_set false false true is = absurd cc
none_set false false false is = (refl, refl)

-- where no call failed, all was written
module _ {R W E : Type 0} (remaining : R → Option (List ℕ)) (contents : W → Option (List ℕ)) (reports : E → Option (List ℕ)) where
  pub written_whole : (wanted : Wanted) (words : List (List ℕ)) (input input' : Watched R) (output output' : Watched W) (errors errors' : Watched E) (status : ℕ)
      → PutsFileOrLine remaining contents reports wanted words input input' output output' errors errors' status → (watched_failed input' || watched_failed output' || watched_failed errors') ≡ false
      → WritesFileOrLine remaining contents reports wanted words input output output' errors errors' status
  written_whole wanted words input input' output output' errors errors' status puts none =
      let fine = none_set (watched_failed input') (watched_failed output') (watched_failed errors') none in (
        puts.0,
        puts.1,
        puts.2.whole_text fine.0,
        subst (λ failed. Appends (reports (watched_inner errors)) (reports (watched_inner errors')) (npy_errors_text failed puts.0)) fine.0 (puts.3.whole_text fine.1),
        puts.4,
      )
