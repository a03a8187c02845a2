-- Steps read one after another.
use Rattle.std.proofs.Common.{◌≡◌, List, [], ◌∷◌, ◌++◌, ℕ, ◌<◌, length, length-append, map, refl, sym, ap, subst, ◌∙◌, append_assoc, append-nil, arith}
use Rattle.std.proofs.lemmas.List.{map_push}
use Rattle.nd_npy_run.specs.declared.steps.step.NpyStep.{NpyStep}
use Rattle.nd_npy_run.specs.ViewSelectAndReshapeSteps.{AskedNpyStep, asked_npy_step, Viewed, Chosen, Regrouped}
use Rattle.nd_npy_run.specs.StepListWords.{IsNpyStepText, AreNpySteps, HasStepInFront, HasStepsBefore, BeginWithStep}

pub none_before : (words : List (List ℕ)) → HasStepsBefore words [] words
none_before words = ([], refl, refl)

one_more : (front one : List (List ℕ)) (steps : List AskedNpyStep) (step : AskedNpyStep) → AreNpySteps front steps → IsNpyStepText one step → AreNpySteps (front ++ one) (steps ++ step ∷ [])
one_more front one [] step are is = (one, [], ap (λ (ws : List (List ℕ)). ws ++ one) are ∙ sym (append-nil one), is, refl)
one_more front one (s ∷ steps) step are is =
    (are.0, are.1 ++ one, ap (λ (ws : List (List ℕ)). ws ++ one) are.2 ∙ append_assoc are.0 are.1 one, are.3, one_more are.1 one steps step are.4 is)

-- one step more
pub more_before : (steps : List NpyStep) (words rest others : List (List ℕ)) (step : NpyStep) → HasStepsBefore words (map asked_npy_step steps) rest → HasStepInFront rest (asked_npy_step step) others → HasStepsBefore words (map asked_npy_step (steps ++ step ∷ [])) others
more_before steps words rest others step before next =
    let parts : words ≡ (before.0 ++ next.0) ++ others = before.1 ∙ ap (λ (ws : List (List ℕ)). before.0 ++ ws) next.1 ∙ sym (append_assoc before.0 next.0 others) in
    let are : AreNpySteps (before.0 ++ next.0) (map asked_npy_step steps ++ asked_npy_step step ∷ []) = one_more before.0 next.0 (map asked_npy_step steps) (asked_npy_step step) before.2 next.2 in
    (before.0 ++ next.0, parts, subst (AreNpySteps (before.0 ++ next.0)) (sym (map_push asked_npy_step steps step)) are)

some_words : (front : List (List ℕ)) (step : AskedNpyStep) → IsNpyStepText front step → 0 < length front
some_words front (Viewed step) h = omega (arith, ap (length {A = List ℕ}) h.2)
some_words front (Chosen axis indexes) h = omega (arith, ap (length {A = List ℕ}) h.2)
some_words front (Regrouped lengths) h = omega (arith, ap (length {A = List ℕ}) h.2)

-- a step takes a word
pub fewer_words : (words others : List (List ℕ)) (step : AskedNpyStep) → HasStepInFront words step others → length others < length words
fewer_words words others step next = omega (arith, ap (length {A = List ℕ}) next.1, length-append next.0 others, some_words next.0 step next.2)

pub begins_one : (words others : List (List ℕ)) (step : AskedNpyStep) → HasStepInFront words step others → BeginWithStep words
begins_one words others step next = (step, others, next)

-- no word is left
pub all_before : (words : List (List ℕ)) (steps : List AskedNpyStep) (rest : List (List ℕ)) → rest ≡ [] → HasStepsBefore words steps rest → AreNpySteps words steps
all_before words steps rest none before =
    let all : words ≡ before.0 = before.1 ∙ ap (λ (ws : List (List ℕ)). before.0 ++ ws) none ∙ append-nil before.0 in
    subst (λ (ws : List (List ℕ)). AreNpySteps ws steps) (sym all) before.2
