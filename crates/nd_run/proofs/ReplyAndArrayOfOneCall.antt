-- Steps and replies, one at a time.
use Rattle.std.proofs.Common.{◌≡◌, Bool, true, List, refl, ap, sym, ◌∙◌, [], ◌∷◌, ◌++◌, Ok, Err, Option, Some, None, Result}
use Rattle.std.specs.Prelude.{IfOk, OnErr}
use Rattle.nd_array_core.specs.ArrayMeaning.{Meaning}
use Rattle.nd_steps.specs.declared.refusal_causes.Cause.{Cause}
use Rattle.nd_run.specs.declared.replies.Reply.{Reply}
use Rattle.nd_read.specs.ScriptCalls.{AskedStep, Asking, Asked, About}
use Rattle.nd_run.specs.CallReplies.{Said, SaidDone, SaidRefused, said_reply, said_unless}
use Rattle.nd_steps.specs.StepTestsAndShapes.{first_failed, tests_of, unless, shape_along, number_of}
use Rattle.nd_steps.specs.WritesThroughViewsAndSplits.{path_tests, meaning_at_end}
use Rattle.nd_steps.specs.WriteResults.{unless_refused}
use Rattle.nd_steps.specs.StepListResults.{look_refusal}
use Rattle.nd_steps.proofs.StepEquations.{tests_pass, tests_fail}
use Rattle.nd_run.specs.OutcomesOfCalls.{question_reply, reply_or_refusal, question_tests, replies_in_memory, IsCarriedOutOrLacks, tests_for, reply_and_array, outcome, given_by, reply_to}

module _ {A : Type 0} where
  -- a call that is checked first and answers no question: its reply, and the array after it
  pub carried : (eq : A → A → Bool) (call : Asked A) (m : Meaning A) (r : Option Cause) (new : Meaning A) → r ≡ first_failed (tests_for call m.shape) → (reply_and_array eq call m).0 ≡ SaidDone → new ≡ unless_refused r (reply_and_array eq call m).1 m
      → ◌≡◌ {A = Said A × Meaning A} (said_unless r, new) (given_by (outcome eq call m) m)
  carried eq call m None new e says is = ap (λ s. (s, new)) (sym says) ∙ (ap (λ n. ((reply_and_array eq call m).0, n)) is ∙ ap (λ r. given_by (unless r (reply_and_array eq call m)) m) e)
  carried eq call m (Some cause) new e says is = ap (λ n. (SaidRefused (number_of cause), n)) is ∙ ap (λ r. given_by (unless r (reply_and_array eq call m)) m) e

  -- a question at the end of a path
  module _ (eq : A → A → Bool) (path : List AskedStep) (question : Asking A) (m : Meaning A) where
    -- where no step is refused the question decides
    ask_decides : look_refusal path m.shape ≡ None → first_failed (question_tests question (shape_along path m.shape)) ≡ first_failed (tests_for (About path question) m.shape)
    ask_decides h = sym (tests_pass (path_tests tests_of path m.shape) (question_tests question (shape_along path m.shape)) h)

    answer_is : (n : Meaning A) → look_refusal path m.shape ≡ None → n ≡ meaning_at_end path m → reply_or_refusal eq question n ≡ reply_to eq (About path question) m
    answer_is n h e = ap (reply_or_refusal eq question) e ∙ (told (first_failed (question_tests question (shape_along path m.shape))) ∙ ap (λ r. (given_by (unless r (reply_and_array eq (About path question) m)) m).0) (ask_decides h))
      where
        told : (r : Option Cause) → (given_by (unless r (question_reply eq question (meaning_at_end path m), meaning_at_end path m)) (meaning_at_end path m)).0 ≡ (given_by (unless r (reply_and_array eq (About path question) m)) m).0
        told None = refl
        told (Some cause) = refl

    pub ask_refused : (cause : Cause) → look_refusal path m.shape ≡ Some cause → SaidRefused (number_of cause) ≡ reply_to eq (About path question) m
    ask_refused cause h = ap (λ r. (given_by (unless r (reply_and_array eq (About path question) m)) m).0) (sym (tests_fail (path_tests tests_of path m.shape) (question_tests question (shape_along path m.shape)) cause h))

    -- it leaves the array as it is
    pub asked_is : (reply : Said A) → reply ≡ reply_to eq (About path question) m → ◌≡◌ {A = Said A × Meaning A} (reply, m) (given_by (outcome eq (About path question) m) m)
    asked_is reply e = ap (λ s. (s, m)) e ∙ kept (first_failed (tests_for (About path question) m.shape))
      where
        kept : (r : Option Cause) → ◌≡◌ {A = Said A × Meaning A} ((given_by (unless r (reply_and_array eq (About path question) m)) m).0, m) (given_by (unless r (reply_and_array eq (About path question) m)) m)
        kept None = refl
        kept (Some cause) = refl

    -- at the path's end it was answered or refused, or memory was lacking
    pub answered : {E : Type 0} (n : Meaning A) (r : Result (Reply A) E) → look_refusal path m.shape ≡ None → n ≡ meaning_at_end path m → IfOk r (λ reply. said_reply reply ≡ reply_or_refusal eq question n)
        → OnErr r ((first_failed (question_tests question n.shape) ≡ None) × (replies_in_memory question n ≡ true)) → IsCarriedOutOrLacks eq (About path question) m m r
    answered n (Ok reply) h e is lacks = asked_is (said_reply reply) (is ∙ answer_is n h e)
    answered n (Err error) h e is lacks = (sym (ap (λ (s : Meaning A). first_failed (question_tests question s.shape)) e ∙ ask_decides h) ∙ lacks.0, sym (ap (replies_in_memory question) e) ∙ lacks.1)
