-- The calls of a fold over the places of a layout, as calls over the indexes of an array.
use Rattle.nd_elements.proofs.NamesFromOtherCrates.{◌≡◌, ℕ, ◌+◌, ◌<◌, List, [], ◌∷◌, refl, ap, sym, subst, ◌∙◌, arith, Option, ℤ, Mut, Called, Bor, fold, filter_map, FoldsTo, size_of, indexes_of, place_of, place_at_rank, IsRearranged}
use Rattle.nd_elements.specs.ShapeAndElements.{inside}
use Rattle.nd_elements.specs.StoragePlaces.{stored_at}
use Rattle.nd_elements.specs.elements.ElementFolds.{IsOrderFree, FoldsElement, FoldsPlaces, TakesPlaces, FoldsBy, FoldsAll, FoldableInAnyOrder}
use Rattle.nd_elements.proofs.CallsInFreeOrder.{IsNumbering, listed, listed_part, listed_all}
use Rattle.nd_elements.proofs.elements_lemmas.FoldOrder.{folded, fold_any_order}
use Rattle.nd_elements.proofs.NumberedCalls.{ran_weaker, ran_listed}

-- a rearranged layout numbers the indexes of the first
pub rearranged_numbers : (offset : ℕ) (ns : List ℕ) (ss : List ℤ) (to : ℕ) (ms : List ℕ) (ts : List ℤ) (by : IsRearranged offset ns ss to ms ts) → IsNumbering ns (size_of ms) by.index_of by.rank_of
rearranged_numbers offset ns ss to ms ts by = record { inside = by.within; rank_is = by.there; index_is = by.back; below = by.below }

module _ {F B A : Type 0} (g : Mut F (B × (Bor A × Unit {0})) B) (stored : ℕ → Option A) (offset : ℕ) (ns : List ℕ) (ss : List ℤ) (to : ℕ) (ms : List ℕ) (ts : List ℤ) (by : IsRearranged offset ns ss to ms ts) where
  abbrev at : List ℕ → Option A
  at i = inside ns i (stored_at stored (place_of offset ss i))

  -- what lies at the place of a rank is the element at its index
  pub found_there : (rank : ℕ) → rank < size_of ms → stored_at stored (place_at_rank to ms ts rank) ≡ at (by.index_of rank)
  found_there rank below = rw (by.within rank below) (ap (stored_at stored) (by.same rank below))

  folds_listed : (first last : F × B) (count : ℕ) → count < size_of ms + 1 → FoldsPlaces g stored (place_at_rank to ms ts) first count last → FoldsTo (λ p i q. FoldsElement g (at i) p q) first (listed by.index_of count) last
  folds_listed first last count within run =
      ran_listed (λ p i q. FoldsElement g (at i) p q) by.index_of first last count
      (ran_weaker (λ p k q. FoldsElement g (stored_at stored (place_at_rank to ms ts k)) p q) (λ p k q. FoldsElement g (at (by.index_of k)) p q) first last count
      (λ p k q below call. subst (λ o. FoldsElement g o p q) (found_there k (omega (arith, below, within))) call) run)

  -- where each element may be folded in any order, those at the places may
  pub places_foldable : (f : F) (init : B) → FoldableInAnyOrder g ns at f init → TakesPlaces g stored (place_at_rank to ms ts) (f, init) (size_of ms)
  places_foldable f init askable k now below run x is =
      let numbers = rearranged_numbers offset ns ss to ms ts by in
      askable (listed by.index_of k) now (by.index_of k) (by.within k below) (listed_part numbers k below) (folds_listed (f, init) now k (omega (arith, below)) run) x (sym (found_there k below) ∙ is)

  -- all places are all elements
  pub folds_all : (f last : F) (init total : B) → FoldsPlaces g stored (place_at_rank to ms ts) (f, init) (size_of ms) (last, total) → FoldsAll g ns at f init total
  folds_all f last init total run =
      (last, (listed by.index_of (size_of ms), listed_all (rearranged_numbers offset ns ss to ms ts by), folds_listed (f, init) (last, total) (size_of ms) (omega arith) run))

-- where the closure answers what h gives and stays as it is, the total is that of h over the elements
module _ {F B A : Type 0} (g : Mut F (B × (Bor A × Unit {0})) B) (shape : List ℕ) (at : List ℕ → Option A) (f : F) (h : B → A → B) (by : FoldsBy g h f) (free : IsOrderFree h) where
  abbrev step : B → List ℕ → B
  step c i = folded h free c (at i)

  folded_along : (listing : List (List ℕ)) (p q : F × B) → p.0 ≡ f → FoldsTo (λ p i q. FoldsElement g (at i) p q) p listing q → q.1 ≡ fold step p.1 listing
  folded_along [] p q same run = ap (λ s. s.1) (sym run)
  folded_along (i ∷ is) p q same run =
      let call = run.1 in
      let gives = by p.1 call.0 run.0.1 run.0.0 (subst (λ s. Called g s (p.1, (call.0, tt)) run.0.1 run.0.0) same call.2) in
      folded_along is run.0 q gives.0 run.2 ∙ ap (λ c. fold step c is) (gives.1 ∙ ap (folded h free p.1) (sym call.1))

  pub folds_settled : (init total : B) → FoldsAll g shape at f init total → total ≡ fold h init (filter_map at (indexes_of shape))
  folds_settled init total all =
      folded_along all.1.0 (f, init) (all.0, total) refl all.1.2 ∙ fold_any_order h free shape at all.1.0 all.1.1 init
