-- Clones of a slice after the elements of a vector, as those of a lane whose places are contiguous.
use Rattle.nd_elements.proofs.NamesFromOtherCrates.{◌≡◌, ℕ, ◌<◌, List, ◌++◌, ap, sym, ◌∙◌, arith, get_or, length, slice_get_within, Option, Some, Result, OnOk, OnErr, slice_get, on_ok_weaker, on_err_weaker}
use Rattle.nd_elements.specs.CollectedElements.{collected, IsFront}
use Rattle.nd_elements.specs.LackOfMemory.{MayLackBelow}
use Rattle.nd_elements.specs.EqualClones.{ClonesAreEqual, StoredClonesAreEqual}
use Rattle.nd_elements.proofs.elements_lemmas.ElementsCollectedInOrder.{collected_alike}
use Rattle.nd_elements.proofs.elements_lemmas.MappedElements.{got_item}

module _ {A : Type 0} (run : List A) (f : ℕ → Option A) (n : ℕ) (long : length run ≡ n) (each : (k : ℕ) (d : A) → k < n → f k ≡ Some (get_or run k d)) where
  agree : (k : ℕ) → k < n → slice_get run k ≡ f k
  agree k below = got_item run k (f k) (omega (arith, below, long)) (λ d. each k d below)

  pub run_clones : (is_clone : A → A → Type 0) → ((k : ℕ) (x : A) → k < n → f k ≡ Some x → ClonesAreEqual is_clone x) → StoredClonesAreEqual is_clone run
  run_clones is_clone equal k x there = let within = slice_get_within run k x there in let below : k < n = omega (arith, within, long) in equal k x below (sym (agree k below) ∙ there)

  module _ {T E : Type 0} (r : Result T E) (held longer old new : List A) (before : held ≡ old) (after : new ≡ longer) where
    pub run_after : OnOk r (longer ≡ held ++ collected (slice_get run) (length run)) → OnOk r (new ≡ old ++ collected f n)
    run_after = on_ok_weaker r (λ e. after ∙ e ∙ ap (λ xs. xs ++ collected (slice_get run) (length run)) before ∙ ap (λ m. old ++ collected (slice_get run) m) long ∙ ap (λ xs. old ++ xs) (collected_alike (slice_get run) f n agree))

    pub run_front : OnErr r (IsFront held longer) → OnErr r (IsFront old new)
    run_front = on_err_weaker r (λ front. (front.0, after ∙ front.1 ∙ ap (λ xs. xs ++ front.0) before))

  pub run_refuses : {T E : Type 0} (r : Result T E) (is_infallible : A → Type 0) → OnErr r (MayLackBelow is_infallible (slice_get run) (length run)) → OnErr r (MayLackBelow is_infallible f n)
  run_refuses r is_infallible = on_err_weaker r (λ no. let under = no.2 in let below : no.0 < n = omega (arith, under, long) in (no.0, no.1, below, sym (agree no.0 below) ∙ no.3, no.4))
