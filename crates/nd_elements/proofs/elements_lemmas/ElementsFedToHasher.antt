-- Elements fed to a hasher one by one.
use Rattle.nd_elements.proofs.NamesFromOtherCrates.{◌≡◌, ℕ, ◌+◌, List, [], ◌∷◌, ◌++◌, ap, sym, ◌∙◌, Option, Some, fold, flat_map, HashWrites, append-nil, fold-append, flat_map-append}
use Rattle.nd_elements.specs.CollectedElements.{collected}
use Rattle.nd_elements.proofs.elements_lemmas.ElementsCollectedInOrder.{collected_more}

module _ {A H : Type 0} (write : H → List ℕ → H) (feed : A → HashWrites) where
  -- more elements after those that were fed
  pub fed_then : (first now last : H) (xs ys : List A) → now ≡ fold write first (flat_map feed xs) → last ≡ fold write now (flat_map feed ys) → last ≡ fold write first (flat_map feed (xs ++ ys))
  fed_then first now last xs ys before later =
      later
      ∙ ap (λ s. fold write s (flat_map feed ys)) before
      ∙ sym (fold-append write first (flat_map feed xs) (flat_map feed ys))
      ∙ ap (fold write first) (sym (flat_map-append feed xs ys))

  -- one element more
  pub fed_more : (f : ℕ → Option A) (first now last : H) (n : ℕ) (x : A) → f n ≡ Some x → now ≡ fold write first (flat_map feed (collected f n)) → last ≡ fold write now (feed x) → last ≡ fold write first (flat_map feed (collected f (n + 1)))
  fed_more f first now last n x e before later =
      fed_then first now last (collected f n) (x ∷ []) before (later ∙ ap (fold write now) (sym (append-nil (feed x))))
      ∙ ap (λ xs. fold write first (flat_map feed xs)) (sym (collected_more f n x e))
