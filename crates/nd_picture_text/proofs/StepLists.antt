-- Steps read one after the other: each has a word of its own.
use Rattle.std.proofs.Common.{◌≡◌, List, [], ◌∷◌, ◌++◌, ℕ, ◌<◌, ◌≤◌, length, Option, None, Some, refl, sym, subst, arith}
use Rattle.nd_text.specs.DecimalNumerals.{nat_of}
use Rattle.nd_text.specs.LinesAndWords.{◌>>=◌}
use Rattle.nd_picture_text.specs.declared.step.Step.{Step}
use Rattle.nd_picture_text.specs.declared.step_words.StepName.{StepName}
use Rattle.nd_picture_text.specs.declared.step_words.StepName.TheVariants as names
use Rattle.nd_picture_text.specs.StepGrammar.{◌>>?◌, name_of, number_first, crop_of, turn_by, step_named, step_of, AreStepsBefore}

-- one step more
pub writes_more : (steps : List Step) (ws rest others : List (List ℕ)) (step : Step) → AreStepsBefore steps ws rest → step_of rest ≡ Some (step, others) → AreStepsBefore (steps ++ step ∷ []) ws others
writes_more [] ws rest others step before e = (others, subst (λ l. step_of l ≡ Some (step, others)) (sym before) e, refl)
writes_more (s ∷ steps) ws rest others step before e = (before.0, before.1, writes_more steps before.0 rest others step before.2 e)

-- no more words than before
abbrev pub Fewer : {X : Type 0} → Option (X × List (List ℕ)) → ℕ → Type 0
Fewer None n = Unit {0}
Fewer (Some x) n = length x.1 ≤ n

then_fewer : {X Y : Type 0} (r : Option (X × List (List ℕ))) (n : ℕ) (f : X × List (List ℕ) → Option (Y × List (List ℕ))) → Fewer r n → ((x : X × List (List ℕ)) → length x.1 ≤ n → Fewer (f x) n) → Fewer (r >>? f) n
then_fewer None n f h g = tt
then_fewer (Some x) n f h g = g x h

number_by : (r : Option ℕ) (ws : List (List ℕ)) (n : ℕ) → length ws ≤ n → Fewer (r >>= λ x. Some (x, ws)) n
number_by None ws n h = tt
number_by (Some x) ws n h = h

number_fewer : (ws : List (List ℕ)) (n : ℕ) → length ws ≤ n → Fewer (number_first ws) n
number_fewer [] n h = tt
number_fewer (w ∷ ws) n h = number_by (nat_of w) ws n (omega (arith, h))

crop_fewer : (ws : List (List ℕ)) (n : ℕ) → length ws ≤ n → Fewer (crop_of ws) n
crop_fewer ws n h =
    then_fewer (number_first ws) n _ (number_fewer ws n h) (λ t a. then_fewer (number_first t.1) n _ (number_fewer t.1 n a) (λ l b. then_fewer (number_first l.1) n _ (number_fewer l.1 n b) (λ k d. then_fewer (number_first k.1) n _ (number_fewer k.1 n d) (λ w e. e))))

turn_fewer : (r : Option Step) (ws : List (List ℕ)) (n : ℕ) → length ws ≤ n → Fewer (r >>? λ step. Some (step, ws)) n
turn_fewer None ws n h = tt
turn_fewer (Some step) ws n h = h

named_fewer : (name : StepName) (ws : List (List ℕ)) (n : ℕ) → length ws ≤ n → Fewer (step_named name ws) n
named_fewer names.Crop ws n h = crop_fewer ws n h
named_fewer names.Flip ws n h = h
named_fewer names.Flop ws n h = h
named_fewer names.Rotate ws n h = then_fewer (number_first ws) n _ (number_fewer ws n h) (λ x a. turn_fewer (turn_by x.0) x.1 n a)
named_fewer names.Transpose ws n h = h
named_fewer names.ScaleDown ws n h = then_fewer (number_first ws) n _ (number_fewer ws n h) (λ x a. a)
named_fewer names.Threshold ws n h = then_fewer (number_first ws) n _ (number_fewer ws n h) (λ x a. a)
named_fewer names.Invert ws n h = h
named_fewer names.Blur ws n h = h
named_fewer names.Gray ws n h = h
named_fewer names.Border ws n h = then_fewer (number_first ws) n _ (number_fewer ws n h) (λ x a. then_fewer (number_first x.1) n _ (number_fewer x.1 n a) (λ y b. b))
named_fewer names.Shrink ws n h = then_fewer (number_first ws) n _ (number_fewer ws n h) (λ x a. a)
named_fewer names.Plain ws n h = h
named_fewer names.Raw ws n h = h
named_fewer names.Other ws n h = tt

-- a step takes a word
pub fewer_words : (ws others : List (List ℕ)) (step : Step) → step_of ws ≡ Some (step, others) → length others < length ws
fewer_words [] others step e = absurd cc
fewer_words (word ∷ ws) others step e =
    let few : length others ≤ length ws = subst (λ (r : Option (Step × List (List ℕ))). Fewer r (length ws)) e (named_fewer (name_of word) ws (length ws) (omega arith)) in
    omega (arith, few)
