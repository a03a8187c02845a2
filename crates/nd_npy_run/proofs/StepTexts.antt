-- What stands at the front of words: a step of a script, a choice of coordinates, other lengths, or no step.
use Rattle.std.proofs.Common.{◌≡◌, ◌∙◌, ℕ, List, [], ◌∷◌, ◌++◌, length, true, Option, Some, None, refl, sym, ap, subst, arith}
use Rattle.nd_text.specs.declared.script_keywords.Keyword.{Keyword}
use Rattle.nd_text.specs.declared.script_keywords.Keyword.TheVariants.{Select, Reshape}
use Rattle.nd_text.specs.DecimalNumerals.{nat_of}
use Rattle.nd_text.specs.KeywordSpelling.{keyword_of}
use Rattle.nd_read.specs.declared.reader.read_errors.LineFault.{LineFault}
use Rattle.nd_read.specs.declared.reader.read_errors.LineFault.TheVariants.{Bad, Memory}
use Rattle.nd_read.specs.ScriptCalls.{AskedStep}
use Rattle.nd_read.specs.LineGrammar.{HasKeyword}
use Rattle.nd_read.specs.LineReaders.{Fails, first_as, both_at, list_at, list_may_lack, named_at, step_by, step_at, step_may_lack_by, step_may_lack}
use Rattle.nd_read.proofs.ArraysReadAndWritten.{nat_reads, list_reads}
use Rattle.nd_read.proofs.ReadersMatchGrammar.{Reads, none_reads, both_reads, named_reads}
use Rattle.nd_read.proofs.ReadingAfterKeywords.{step_reads}
use Rattle.nd_npy_run.specs.ViewSelectAndReshapeSteps.{Viewed, Chosen, Regrouped}
use Rattle.nd_npy_run.specs.StepListWords.{IsChoiceAfter, AreLengthsAfter, HasStepInFront, BeginWithNoStep, npy_step_may_lack_by, npy_step_may_lack, FailsNpyStep}

-- ---- What is read after the two words that are no steps of a script

abbrev pub choice_by : Keyword → List (List ℕ) → Option ((ℕ × List ℕ) × List (List ℕ))
choice_by Select words = both_at (first_as nat_of) list_at words
choice_by _ words = None

abbrev pub lengths_by : Keyword → List (List ℕ) → Option (List ℕ × List (List ℕ))
lengths_by Reshape words = list_at words
lengths_by _ words = None

choice_rows : {n : ℕ} (k : Keyword) → Reads n (choice_by k) (IsChoiceAfter k)
choice_rows Select = both_reads nat_reads list_reads
choice_rows _ = none_reads

lengths_rows : {n : ℕ} (k : Keyword) → Reads n (lengths_by k) (AreLengthsAfter k)
lengths_rows Reshape = list_reads
lengths_rows _ = none_reads

choice_reads : {n : ℕ} → Reads n (named_at choice_by) (HasKeyword IsChoiceAfter)
choice_reads = named_reads choice_rows (λ words x h. h)

lengths_reads : {n : ℕ} → Reads n (named_at lengths_by) (HasKeyword AreLengthsAfter)
lengths_reads = named_reads lengths_rows (λ words x h. h)

-- what a row reads after a word of this keyword
after_word : {X : Type 0} (row : Keyword → List (List ℕ) → Option (X × List (List ℕ))) (k : Keyword) (word : List ℕ) (words : List (List ℕ)) → keyword_of word ≡ k → named_at row (word ∷ words) ≡ row k words
unfolding named_at
after_word row k word words is = ap (λ (name : Keyword). row name words) is

-- ---- A step at the front

pub viewed_front : (words rest : List (List ℕ)) (step : AskedStep) → step_at words ≡ Some (step, rest) → HasStepInFront words (Viewed step) rest
viewed_front words rest step read = let f = (step_reads {n = 0}).takes words step rest read in (f.front, f.parts, f.is)

module _ (line : List (List ℕ)) (word : List ℕ) (words : List (List ℕ)) (parts : line ≡ word ∷ words) where
  pub chosen_front : (rest : List (List ℕ)) (axis : ℕ) (indexes : List ℕ) → keyword_of word ≡ Select → both_at (first_as nat_of) list_at words ≡ Some ((axis, indexes), rest) → HasStepInFront line (Chosen axis indexes) rest
  chosen_front rest axis indexes is read =
      let f = (choice_reads {n = 0}).takes (word ∷ words) (axis, indexes) rest (after_word choice_by Select word words is ∙ read) in (f.front, parts ∙ f.parts, f.is)

  pub lengths_front : (rest : List (List ℕ)) (lengths : List ℕ) → keyword_of word ≡ Reshape → list_at words ≡ Some (lengths, rest) → HasStepInFront line (Regrouped lengths) rest
  lengths_front rest lengths is read =
      let f = (lengths_reads {n = 0}).takes (word ∷ words) lengths rest (after_word lengths_by Reshape word words is ∙ read) in (f.front, parts ∙ f.parts, f.is)

-- ---- No step at the front

none_there : {X : Type 0} (read : List (List ℕ) → Option (X × List (List ℕ))) (Is : List (List ℕ) → X → Type 0) → ((n : ℕ) → Reads n read Is) → (words : List (List ℕ)) → read words ≡ None → (x : X) (front back : List (List ℕ)) → words ≡ front ++ back → Is front x → ⊥
none_there {X} read Is reads words none x front back parts is =
    let found : read (front ++ back) ≡ Some (x, back) = (reads (length front)).again front x back (omega arith) is in
    let clash : ◌≡◌ {A = Option (X × List (List ℕ))} None (Some (x, back)) = sym none ∙ ap read parts ∙ found in
    absurd cc

pub no_step : (words : List (List ℕ)) → step_at words ≡ None → named_at choice_by words ≡ None → named_at lengths_by words ≡ None → BeginWithNoStep words
no_step words viewed chosen lengths (Viewed step) front back parts is = none_there step_at _ (λ n. step_reads {n = n}) words viewed step front back parts is
no_step words viewed chosen lengths (Chosen axis indexes) front back parts is = none_there (named_at choice_by) _ (λ n. choice_reads {n = n}) words chosen (axis, indexes) front back parts is
no_step words viewed chosen lengths (Regrouped to) front back parts is = none_there (named_at lengths_by) _ (λ n. lengths_reads {n = n}) words lengths to front back parts is

none_read : {X : Type 0} (row : Keyword → List (List ℕ) → Option (X × List (List ℕ))) → named_at row [] ≡ None
unfolding named_at
none_read row = refl

pub no_words : (words : List (List ℕ)) → words ≡ [] → BeginWithNoStep words
no_words words none = subst BeginWithNoStep (sym none) (no_step [] (none_read step_by) (none_read choice_by) (none_read lengths_by))

-- a keyword of a step of a script, or of none
no_choice : (k : Keyword) (words : List (List ℕ)) → (k ≡ Select → ⊥) → choice_by k words ≡ None
no_choice Select words other = absurd (other refl)
no_choice _ words other = refl

no_lengths : (k : Keyword) (words : List (List ℕ)) → (k ≡ Reshape → ⊥) → lengths_by k words ≡ None
no_lengths Reshape words other = absurd (other refl)
no_lengths _ words other = refl

may_lack : (k : Keyword) (words : List (List ℕ)) → (k ≡ Select → ⊥) → (k ≡ Reshape → ⊥) → npy_step_may_lack_by k words ≡ step_may_lack_by k words
may_lack Select words other another = absurd (other refl)
may_lack Reshape words other another = absurd (another refl)
may_lack _ words other another = refl

-- ---- Why no step is read

module _ (line : List (List ℕ)) (word : List ℕ) (words : List (List ℕ)) (parts : line ≡ word ∷ words) where
  lacking : (k : Keyword) → keyword_of word ≡ k → npy_step_may_lack_by k words ≡ true → npy_step_may_lack line ≡ true
  lacking k is lacks = ap npy_step_may_lack parts ∙ ap (λ (name : Keyword). npy_step_may_lack_by name words) is ∙ lacks

  none : (k : Keyword) → keyword_of word ≡ k → step_by k words ≡ None → choice_by k words ≡ None → lengths_by k words ≡ None → BeginWithNoStep line
  none k is viewed chosen lengths = subst BeginWithNoStep (sym parts) (no_step (word ∷ words) (after_word step_by k word words is ∙ viewed) (after_word choice_by k word words is ∙ chosen) (after_word lengths_by k word words is ∙ lengths))

  pub choice_fails : (fault : LineFault) → keyword_of word ≡ Select → Fails (npy_step_may_lack_by Select words) fault (both_at (first_as nat_of) list_at words) → FailsNpyStep line fault
  choice_fails Bad is fails = none Select is refl fails refl
  choice_fails Memory is fails = lacking Select is fails

  pub lengths_fail : (fault : LineFault) → keyword_of word ≡ Reshape → Fails (list_may_lack words) fault (list_at words) → FailsNpyStep line fault
  lengths_fail Bad is fails = none Reshape is refl refl fails
  lengths_fail Memory is fails = lacking Reshape is fails

  pub step_fails : (fault : LineFault) → (keyword_of word ≡ Select → ⊥) → (keyword_of word ≡ Reshape → ⊥) → Fails (step_may_lack line) fault (step_at line) → FailsNpyStep line fault
  step_fails Bad other another fails =
      let k = keyword_of word in
      let viewed : step_by k words ≡ None = sym (after_word step_by k word words refl) ∙ ap step_at (sym parts) ∙ fails in
      none k refl viewed (no_choice k words other) (no_lengths k words another)
  step_fails Memory other another fails =
      let k = keyword_of word in
      let lacks : step_may_lack_by k words ≡ true = ap step_may_lack (sym parts) ∙ fails in
      lacking k refl (may_lack k words other another ∙ lacks)
