-- A run, call by call.
use Rattle.std.proofs.Common.{◌≡◌, Bool, ℕ, suc, ◌+◌, ◌<◌, ◌≤◌, List, [], ◌∷◌, ◌++◌, map, Result, Ok, Err, length, take, drop, get_or, refl, ap, sym, ◌∙◌, subst, inr, arith, add-one, drop-cons}
use Rattle.std.proofs.lemmas.List.{take_more, take_all, take-append-drop, length-map}
use Rattle.std.specs.Prelude.{IfErr}
use Rattle.nd_array_core.specs.ArrayMeaning.{Meaning}
use Rattle.nd_read.specs.ScriptCalls.{Asked}
use Rattle.nd_run.specs.CallReplies.{Said}
use Rattle.nd_run.specs.OutcomesOfCalls.{reply_to, meaning_after, replies_to, end_of, LacksOnlyMemory, StopsAt, StopsBefore, KeepsReplies, replies_before}
use Rattle.nd_run.specs.declared.run_calls.RunFault.{RunFault}

module _ {A : Type 0} (eq : A → A → Bool) where
  pub end_of-append : (xs ys : List (Asked A)) (m : Meaning A) → end_of eq (xs ++ ys) m ≡ end_of eq ys (end_of eq xs m)
  end_of-append [] ys m = refl
  end_of-append (x ∷ xs) ys m = end_of-append xs ys (meaning_after eq x m)

  pub replies_to-append : (xs ys : List (Asked A)) (m : Meaning A) → replies_to eq (xs ++ ys) m ≡ replies_to eq xs m ++ replies_to eq ys (end_of eq xs m)
  replies_to-append [] ys m = refl
  replies_to-append (x ∷ xs) ys m = ap (λ t. reply_to eq x m ∷ t) (replies_to-append xs ys (meaning_after eq x m))

  -- the calls below k were carried out
  pub record IsRunBelow (calls : List (Asked A)) (start : Meaning A) (replies : List (Said A)) (array : Meaning A) (k : ℕ) : Type 0 where
    pub replied : replies ≡ replies_to eq (take k calls) start
    pub left : array ≡ end_of eq (take k calls) start

  pub run_more : (calls : List (Asked A)) (start array next : Meaning A) (replies : List (Said A)) (k : ℕ) (call : Asked A) (reply : Said A) → k < length calls → get_or calls k call ≡ call → reply ≡ reply_to eq call array → next ≡ meaning_after eq call array → IsRunBelow calls start replies array k → IsRunBelow calls start (replies ++ reply ∷ []) next (k + 1)
  run_more calls start array next replies k call reply lt at said left so_far =
      let front = take k calls in
      let more : take (k + 1) calls ≡ front ++ call ∷ [] = take_more calls k call lt ∙ ap (λ x. front ++ x ∷ []) at in
      record {
        replied = sym ((ap (λ t. replies_to eq t start) more ∙ replies_to-append front (call ∷ []) start) ∙ (ap (λ m. replies_to eq front start ++ reply_to eq call m ∷ []) (sym so_far.left) ∙ rw (sym so_far.replied, sym said) refl));
        left = sym ((ap (λ t. end_of eq t start) more ∙ end_of-append front (call ∷ []) start) ∙ (ap (meaning_after eq call) (sym so_far.left) ∙ sym left));
      }

  pub run_all : (calls : List (Asked A)) (start array : Meaning A) (replies : List (Said A)) (k : ℕ) → length calls ≤ k → IsRunBelow calls start replies array k → (replies ≡ replies_to eq calls start) × (array ≡ end_of eq calls start)
  run_all calls start array replies k h all =
      let whole : take k calls ≡ calls = take_all k calls h in
      (all.replied ∙ ap (λ t. replies_to eq t start) whole, all.left ∙ ap (λ t. end_of eq t start) whole)

  pub run_stops : (calls : List (Asked A)) (start array : Meaning A) (replies : List (Said A)) (k : ℕ) (call : Asked A) → k < length calls → get_or calls k call ≡ call → LacksOnlyMemory call array → IsRunBelow calls start replies array k → StopsAt eq calls start replies
  run_stops calls start array replies k call lt at lacks so_far =
      let cut : calls ≡ take k calls ++ call ∷ drop (k + 1) calls = sym (take-append-drop k calls) ∙ ap (λ t. take k calls ++ t) (rw (add-one, drop-cons calls k call) (ap (λ x. x ∷ drop (suc k) calls) at)) in
      (take k calls, call, drop (k + 1) calls, cut, so_far.replied, subst (LacksOnlyMemory call) so_far.left lacks)

  -- a run that stopped did so after the replies that it has, whatever room their list has
  module _ {X : Type 0} (calls : List (Asked A)) (m : Meaning A) where
    pub stops_before : (r : Result X (RunFault A)) → IfErr r (λ f. StopsAt eq calls m (replies_before f)) → IfErr r (λ f. StopsBefore eq calls m (replies_before f))
    stops_before (Ok x) h = tt
    stops_before (Err f) h = inr h

    pub keeps_replies : (r : Result X (RunFault A)) → IfErr r (λ f. StopsAt eq calls m (replies_before f)) → IfErr r (KeepsReplies eq calls m)
    keeps_replies (Ok x) h = tt
    keeps_replies (Err f) h = λ _. h

-- a list that isn't empty
pub some_calls : {X Y : Type 0} (f : X → Y) (xs : List X) → (length xs ≡ 0 → ⊥) → 0 < length (map f xs)
some_calls f xs h = omega (arith, h, length-map xs f)
