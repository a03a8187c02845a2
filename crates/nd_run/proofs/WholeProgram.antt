-- What is loaded, carried out and written makes the whole program, and what each status tells follows.
use Rattle.std.proofs.Common.{◌≡◌, ◌∙◌, ◌<◌, ℕ, ℤ, Bool, true, false, List, [], ◌∷◌, length, Option, None, Some, Result, Ok, refl, sym, ap, subst, inl, inr, arith}
use Rattle.std.specs.Prelude.{IfSome}
use Rattle.nd_run.specs.declared.output_and_exit_status.Outcome.{Outcome}
use Rattle.nd_text.specs.declared.watched_streams.Watched.{Watched}
use Rattle.nd_run.specs.CallReplies.{Said}
use Rattle.nd_run.specs.ScriptMeaning.{Runs, Stops}
use Rattle.nd_read.specs.ScriptReading.{AskedScript, IsScript, IsFirstBad, MayLackIn}
use Rattle.nd_text.specs.BufferedPrinting.{TakesText}
use Rattle.nd_text.specs.WatchedReadersAndWriters.{watched_inner, watched_failed}
use Rattle.nd_text.specs.LinesAndWords.{lines_of}
use Rattle.nd_run.specs.ScriptEndings.{is_no_input, Ending, Finished, BadAt, OutOfMemory, NoInput, ending_text, status_of, is_load_failure, EndsUnloaded, Loads, RunsTo, StopsForMemory, Ends}
use Rattle.nd_run.specs.OutputAndStatus.{run_ending, Took, Driven, TellsEnd, TellsRun, TellsBadLine, TellsWant, TellsBeginning}

run_ends : (bytes : List ℕ) (script : AskedScript) (end : Ending) → IsScript (lines_of bytes) script → RunsTo Runs Stops script end → Ends Runs Stops bytes end
run_ends bytes script (Finished replies lengths elements) is h = (script, is, h)
run_ends bytes script (BadAt number) is h = absurd h
run_ends bytes script (OutOfMemory replies) is h = inr (script, is, h)
run_ends bytes script NoInput is h = absurd h

run_reads : (script : AskedScript) (end : Ending) → RunsTo Runs Stops script end → is_no_input end ≡ false
run_reads script (Finished replies lengths elements) h = refl
run_reads script (BadAt number) h = absurd h
run_reads script (OutOfMemory replies) h = refl
run_reads script NoInput h = absurd h

unloaded_ends : (bytes : List ℕ) (end : Ending) → EndsUnloaded bytes end → Ends Runs Stops bytes end
unloaded_ends bytes (Finished replies lengths elements) h = absurd h
unloaded_ends bytes (BadAt number) h = h
unloaded_ends bytes (OutOfMemory replies) h = inl h
unloaded_ends bytes NoInput h = tt

-- what holds of known bytes
of_known : {P Q : List ℕ → Type 0} → ((bytes : List ℕ) → P bytes → Q bytes) → (known : Option (List ℕ)) → IfSome known P → IfSome known Q
of_known f None h = tt
of_known f (Some bytes) h = f bytes h

-- a text in which reading may lack memory has some bytes
some_bytes : (text : List ℕ) → MayLackIn (lines_of text) → 0 < length text
some_bytes [] ([], line, back, parts, some, before) = absurd cc
some_bytes [] (first ∷ front, line, back, parts, some, before) = absurd cc
some_bytes (b ∷ bs) lacks = omega arith

-- so has an input that was read whole, before memory was refused to the reader of its lines
pub want_ends : (known : Option (List ℕ)) (read text : List ℕ) (replies : List (Said ℤ)) → IfSome known (λ bytes. bytes ≡ read) → text ≡ read → MayLackIn (lines_of text) → replies ≡ [] → IfSome known (λ bytes. (0 < length bytes) × (replies ≡ []))
want_ends known read text replies is same lacks none = of_known (λ bytes e. (subst (λ (bs : List ℕ). 0 < length bs) (same ∙ sym e) (some_bytes text lacks), none)) known is

module _ {X R W : Type 0} (view : X → AskedScript) (remaining : R → Option (List ℕ)) (contents : W → Option (List ℕ)) (input input' : Watched R) (r : Result X Outcome) (old new : Watched W) (status : ℕ) (loads : IfSome (remaining (watched_inner input)) (λ bytes. Loads view bytes r)) (is : watched_failed input' ≡ is_load_failure r) where
  -- a script that was loaded and run
  pub ran_is_driven : (script : X) (end : Ending) → r ≡ Ok script → RunsTo Runs Stops (view script) end → TakesText contents old new (ending_text end) → status ≡ status_of (watched_failed new) end → Driven remaining contents input input' old new status
  ran_is_driven script end e how puts number =
      of_known (λ bytes loads. (end, ((is ∙ ap is_load_failure e) ∙ sym (run_reads (view script) end how), run_ends bytes (view script) end (subst (Loads view bytes) e loads) how), puts, number)) (remaining (watched_inner input)) loads

-- ---- what each status tells

-- a finished run's end is the one of its script
finished_is : (script : AskedScript) (replies : List (Said ℤ)) (lengths : List ℕ) (elements : List ℤ) → Runs script replies lengths elements → Finished replies lengths elements ≡ run_ending script
finished_is script replies lengths elements runs = rw (runs.0, runs.1, runs.2) refl

module _ {W : Type 0} (contents : W → Option (List ℕ)) (old new : Watched W) (status : ℕ) (bytes : List ℕ) where
  finished : (b : Bool) (end : Ending) → watched_failed new ≡ b → status ≡ status_of b end → status ≡ 0 → Ends Runs Stops bytes end → TakesText contents old new (ending_text end)
      → (script : AskedScript) × IsScript (lines_of bytes) script × Took contents old new (ending_text (run_ending script))
  finished true end failed number e h takes = absurd (omega (arith, number, e))
  finished false (Finished replies lengths elements) failed number e h takes =
      (h.0, h.1, subst (Took contents old new) (ap ending_text (finished_is h.0 replies lengths elements h.2)) (takes.whole_text failed))
  finished false (BadAt n) failed number e h takes = absurd (omega (arith, number, e))
  finished false (OutOfMemory replies) failed number e h takes = absurd (omega (arith, number, e))
  finished false NoInput failed number e h takes = absurd (omega (arith, number, e))

  bad : (b : Bool) (end : Ending) → watched_failed new ≡ b → status ≡ status_of b end → status ≡ 1 → Ends Runs Stops bytes end → TakesText contents old new (ending_text end)
      → (n : ℕ) × IsFirstBad (lines_of bytes) n × Took contents old new (ending_text (BadAt n))
  bad true end failed number e h takes = absurd (omega (arith, number, e))
  bad false (Finished replies lengths elements) failed number e h takes = absurd (omega (arith, number, e))
  bad false (BadAt n) failed number e h takes = (n, h, takes.whole_text failed)
  bad false (OutOfMemory replies) failed number e h takes = absurd (omega (arith, number, e))
  bad false NoInput failed number e h takes = absurd (omega (arith, number, e))

  want : (b : Bool) (end : Ending) → watched_failed new ≡ b → status ≡ status_of b end → status ≡ 2 → Ends Runs Stops bytes end → TakesText contents old new (ending_text end)
      → (replies : List (Said ℤ)) × StopsForMemory Runs Stops bytes replies × Took contents old new (ending_text (OutOfMemory replies))
  want true end failed number e h takes = absurd (omega (arith, number, e))
  want false (Finished replies lengths elements) failed number e h takes = absurd (omega (arith, number, e))
  want false (BadAt n) failed number e h takes = absurd (omega (arith, number, e))
  want false (OutOfMemory replies) failed number e h takes = (replies, h, takes.whole_text failed)
  want false NoInput failed number e h takes = absurd (omega (arith, number, e))

module _ {R W : Type 0} (remaining : R → Option (List ℕ)) (contents : W → Option (List ℕ)) (input input' : Watched R) (old new : Watched W) (status : ℕ) (driven : Driven remaining contents input input' old new status) where
  pub tells_end : TellsEnd remaining contents input input' old new
  tells_end = of_known (λ bytes d fine. (d.0, d.1, d.2.whole_text fine)) (remaining (watched_inner input)) driven

  pub tells_run : status ≡ 0 → TellsRun remaining contents input old new
  tells_run e = of_known (λ bytes d. finished contents old new status bytes (watched_failed new) d.0 refl d.3 e d.1.1 d.2) (remaining (watched_inner input)) driven

  pub tells_bad_line : status ≡ 1 → TellsBadLine remaining contents input old new
  tells_bad_line e = of_known (λ bytes d. bad contents old new status bytes (watched_failed new) d.0 refl d.3 e d.1.1 d.2) (remaining (watched_inner input)) driven

  pub tells_want : status ≡ 2 → TellsWant remaining contents input old new
  tells_want e = of_known (λ bytes d. want contents old new status bytes (watched_failed new) d.0 refl d.3 e d.1.1 d.2) (remaining (watched_inner input)) driven

  pub tells_beginning : TellsBeginning remaining contents input input' old new
  tells_beginning = of_known (λ bytes d failed. (d.0, d.1, d.2.part.0, d.2.part.1, d.2.part.2, d.2.part.3)) (remaining (watched_inner input)) driven
