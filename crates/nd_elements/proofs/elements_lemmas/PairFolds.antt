-- Folds over pairs: one part after the other, and the total by a function.
use Rattle.nd_elements.proofs.NamesFromOtherCrates.{◌≡◌, ◌∙◌, ◌+◌, ◌<◌, ◌≤◌, ℕ, zero, suc, List, [], ◌∷◌, ◌++◌, ap, sym, subst, arith, Option, None, Some, Mut, Bor, Called, fold, filter_map, cons_option, size_of, index_at}
use Rattle.nd_elements.specs.ShapeAndElements.{Meaning, row_major_elements}
use Rattle.nd_elements.specs.elements.PairFolds.{FoldsPair, TakesPairsInTurn, FoldsPairsTo, FoldsPairsBy, FoldsPairsInOrder}
use Rattle.nd_elements.specs.elements.PairMaps.{paired_with}
use Rattle.nd_elements.proofs.CallsInFreeOrder.{listed}
use Rattle.nd_elements.proofs.elements_lemmas.FoldOrder.{indexes_listed}
use Rattle.nd_elements.proofs.NumberedCalls.{ran_then}

module _ {F T A B : Type 0} (g : Mut F (T × (Bor A × (Bor B × Unit {0}))) T) where
  -- pairs numbered from k on, after those below it
  module _ (found later : ℕ → Option (A × B)) (k count : ℕ) (goes_on : (j : ℕ) → j < count → later j ≡ found (k + j)) where
    pub folds_then : (first mid last : F × T) → FoldsPairsTo g found first k mid → FoldsPairsTo g later mid count last → FoldsPairsTo g found first (k + count) last
    folds_then first mid last run afterwards =
        ran_then (λ p j q. FoldsPair g (found j) p q) (λ p j q. FoldsPair g (later j) p q) first mid last k count (λ p j q below call. subst (λ o. FoldsPair g o p q) (goes_on j below) call) run afterwards

  pub folds_later : (found later : ℕ → Option (A × B)) (k count n : ℕ) → k + count ≤ n → ((j : ℕ) → j < count → later j ≡ found (k + j)) → (first mid : F × T) → FoldsPairsTo g found first k mid → TakesPairsInTurn g found first n → TakesPairsInTurn g later mid count
  folds_later found later k count n within goes_on first mid run may j now below afterwards x y is =
      may (k + j) now (omega (arith, below, within)) (folds_then found later k j (λ i under. goes_on i (omega (arith, under, below))) first mid now run afterwards) x y (sym (goes_on j below) ∙ is)

  -- the same of pairs that are found otherwise
  pub folds_alike : (found other : ℕ → Option (A × B)) (count : ℕ) → ((k : ℕ) → k < count → found k ≡ other k) → (first last : F × T) → FoldsPairsTo g found first count last → FoldsPairsTo g other first count last
  folds_alike found other zero same first last run = run
  folds_alike found other (suc k) same first last run =
      (run.0, folds_alike found other k (λ j below. same j (omega (arith, below))) first run.0 run.1, subst (λ o. FoldsPair g o run.0 last) (same k (omega arith)) run.2)

  pub turns_alike : (found other : ℕ → Option (A × B)) (count : ℕ) → ((k : ℕ) → k < count → found k ≡ other k) → (first : F × T) → TakesPairsInTurn g other first count → TakesPairsInTurn g found first count
  turns_alike found other count same first may k now below run x y is =
      may k now below (folds_alike found other k (λ j under. same j (omega (arith, under, below))) first now run) x y (sym (same k below) ∙ is)

  -- where the closure answers what h gives and stays as it is
  module _ (h : T → A → B → T) (f : F) (by : FoldsPairsBy g h f) (init : T) (at : List ℕ → Option (A × B)) (index : ℕ → List ℕ) where
    abbrev step : T → A × B → T
    step t p = h t p.0 p.1

    -- the total with the last index' pair too
    folded_one : (i : List ℕ) (p : A × B) → at i ≡ Some p → (xs : List (List ℕ)) (t : T) → fold step t (filter_map at (xs ++ i ∷ [])) ≡ step (fold step t (filter_map at xs)) p
    folded_one i p is [] t = ap (λ o. fold step t (cons_option o [])) is
    folded_one i p is (y ∷ ys) t = by_element (at y) (folded_one i p is ys)
      where
        by_element : (o : Option (A × B)) → ((u : T) → fold step u (filter_map at (ys ++ i ∷ [])) ≡ step (fold step u (filter_map at ys)) p) → fold step t (cons_option o (filter_map at (ys ++ i ∷ []))) ≡ step (fold step t (cons_option o (filter_map at ys))) p
        by_element None later = later t
        by_element (Some q) later = later (step t q)

    folded_to : (count : ℕ) (last : F × T) → FoldsPairsTo g (λ k. at (index k)) (f, init) count last → (last.0 ≡ f) × (last.1 ≡ fold step init (filter_map at (listed index count)))
    folded_to zero last run = (ap (λ s. s.0) run, ap (λ s. s.1) run)
    folded_to (suc k) last run =
        let before = folded_to k run.0 run.1 in
        let call = run.2 in
        let gives = by run.0.1 call.0 call.1 last.1 last.0 (subst (λ s. Called g s (run.0.1, (call.0, (call.1, tt))) last.1 last.0) before.0 call.3) in (
          gives.0,
          gives.1 ∙ (ap (λ t. h t call.0.now call.1.now) before.1 ∙ sym (folded_one (index k) (call.0.now, call.1.now) call.2 (listed index k) init)),
        )

  pub pairs_settled : (m : Meaning A) (other : List ℕ → Option B) (f : F) (init total : T) → FoldsPairsInOrder g m other f init total → (h : T → A → B → T) → FoldsPairsBy g h f → total ≡ fold (λ t p. h t p.0 p.1) init (row_major_elements (paired_with m other))
  pairs_settled m other f init total run h by =
      (folded_to h f by init (paired_with m other).at (index_at m.shape) (size_of m.shape) (run.0, total) run.1).1
      ∙ ap (λ is. fold (λ t p. h t p.0 p.1) init (filter_map (paired_with m other).at is)) (sym (indexes_listed m.shape))
