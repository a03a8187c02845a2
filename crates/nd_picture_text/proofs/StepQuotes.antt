-- Steps that are passed over, one after the other.
use Rattle.std.proofs.Common.{◌≡◌, ◌∙◌, ℕ, zero, suc, ◌-◌, ◌<◌, List, [], ◌∷◌, ◌++◌, None, Some, refl, ap, sym, arith}
use Rattle.std.specs.Prelude.{codes}
use Rattle.nd_picture_text.specs.declared.step.Step.{Step}
use Rattle.nd_picture_text.specs.StepGrammar.{name_of, step_of}
use Rattle.nd_picture_text.specs.QuotedSteps.{following_first, after_steps, number_count, spaced, first_step_text}

pub after_more : (count : ℕ) (ws others : List (List ℕ)) (step : Step) → 0 < count → step_of ws ≡ Some (step, others) → after_steps (count - 1) others ≡ after_steps count ws
after_more zero ws others step some e = absurd (omega (arith, some))
after_more (suc count) ws others step some e =
    let less : suc count - 1 ≡ count = omega arith in
    ap (λ n. after_steps n others) less ∙ sym (ap (following_first (after_steps count) ws) e)

pub after_end : (count : ℕ) (ws : List (List ℕ)) → 0 < count → step_of ws ≡ None → ws ≡ after_steps count ws
after_end zero ws some e = absurd (omega (arith, some))
after_end (suc count) ws some e = sym (ap (following_first (after_steps count) ws) e)

-- the words of a step, one after the other
pub spaced_more : (count : ℕ) (words : List (List ℕ)) (word : List ℕ) (ws : List (List ℕ)) → 0 < count → words ≡ word ∷ ws → codes " " ++ (word ++ spaced (count - 1) ws) ≡ spaced count words
spaced_more zero words word ws some e = absurd (omega (arith, some))
spaced_more (suc count) words word ws some e =
    let less : suc count - 1 ≡ count = omega arith in
    ap (λ n. codes " " ++ (word ++ spaced n ws)) less ∙ ap (spaced (suc count)) (sym e)

pub spaced_none : (count : ℕ) (words : List (List ℕ)) → words ≡ [] → [] ≡ spaced count words
spaced_none zero words e = refl
spaced_none (suc count) words e = ap (spaced (suc count)) (sym e)

pub first_more : (words : List (List ℕ)) (word : List ℕ) (ws : List (List ℕ)) (count : ℕ) → words ≡ word ∷ ws → count ≡ number_count (name_of word) → word ++ spaced count ws ≡ first_step_text words
first_more words word ws count e is = ap (λ n. word ++ spaced n ws) is ∙ ap first_step_text (sym e)
