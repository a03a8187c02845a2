-- Indexes visited in some order: those that a map names, and those of two halves one after the other.
use Rattle.nd_elements.proofs.NamesFromOtherCrates.{◌≡◌, ℕ, ◌+◌, ◌<◌, ◌≤◌, true, false, List, [], ◌∷◌, ◌++◌, refl, ap, sym, subst, ◌∙◌, arith, cond, map, ⊎_elim, both_ways, FoldsTo, sum_by-append, in_box, AreHalved, Placement}
use Rattle.nd_elements.specs.WritesByIndex.{is_index}
use Rattle.nd_elements.specs.CallsInFreeOrder.{ListsBox, ListsPartOfBox, VisitedInSomeOrder, CallableInAnyOrder}
use Rattle.nd_elements.proofs.CallsInFreeOrder.{times, once_if, times_head}
use Rattle.nd_elements.proofs.WriteAtOneIndex.{is_index_same, is_index_refl}
use Rattle.nd_elements.proofs.BoolAndResultCases.{by_value}

-- what stands in a list is in the box
abbrev AreInside : List ℕ → List (List ℕ) → Type 0
AreInside shape xs = (i : List ℕ) → 0 < times i xs → in_box shape i ≡ true

part_inside : (shape : List ℕ) (xs : List (List ℕ)) → ListsPartOfBox shape xs → AreInside shape xs
part_inside shape xs part i some = by_value (λ b. b ≡ true) (in_box shape i) (λ h. refl) (λ h. let few = part i in let none = ap once_if h in absurd (omega (arith, few, none, some)))

box_is_part : (shape : List ℕ) (xs : List (List ℕ)) → ListsBox shape xs → ListsPartOfBox shape xs
box_is_part shape xs box i = let counted = box i in omega (arith, counted)

head_inside : (shape j : List ℕ) (js : List (List ℕ)) → AreInside shape (j ∷ js) → in_box shape j ≡ true
head_inside shape j js inside =
    let once : once_if (is_index j j) ≡ 1 = ap once_if (is_index_refl j) in
    inside j (omega (arith, (times_head j j js), once))

tail_inside : (shape j : List ℕ) (js : List (List ℕ)) → AreInside shape (j ∷ js) → AreInside shape js
tail_inside shape j js inside k more = let counted = times_head k j js in inside k (omega (arith, counted, more))

-- steps one after the other
folds_append : {P A : Type 0} (R : P → A → P → Type 0) (xs ys : List A) (p q r : P) → FoldsTo R p xs q → FoldsTo R q ys r → FoldsTo R p (xs ++ ys) r
folds_append R [] ys p q r run next = subst (λ s. FoldsTo R s ys r) (sym run) next
folds_append R (x ∷ xs) ys p q r run next = (run.0, run.1, folds_append R xs ys run.0 q r run.2 next)

folds_inside : {P : Type 0} (R S : P → List ℕ → P → Type 0) (shape : List ℕ) → ((p : P) (i : List ℕ) (q : P) → in_box shape i ≡ true → R p i q → S p i q) → (xs : List (List ℕ)) → AreInside shape xs → (p q : P) → FoldsTo R p xs q → FoldsTo S p xs q
folds_inside R S shape follows [] inside p q run = run
folds_inside R S shape follows (x ∷ xs) inside p q run =
    (run.0, follows p x run.0 (head_inside shape x xs inside) run.1, folds_inside R S shape follows xs (tail_inside shape x xs inside) run.0 q run.2)

-- a map that names each index of a box once
module _ (shape : List ℕ) (source : List ℕ → List ℕ) (once : (j k : List ℕ) → in_box shape j ≡ true → in_box shape k ≡ true → source j ≡ source k → j ≡ k) where
  folds_mapped : {P : Type 0} (R S : P → List ℕ → P → Type 0) → ((p : P) (j : List ℕ) (q : P) → in_box shape j ≡ true → R p j q → S p (source j) q) → (ys : List (List ℕ)) → AreInside shape ys → (p q : P) → FoldsTo R p ys q → FoldsTo S p (map source ys) q
  folds_mapped R S follows [] inside p q run = run
  folds_mapped R S follows (y ∷ ys) inside p q run =
      (run.0, follows p y run.0 (head_inside shape y ys inside) run.1, folds_mapped R S follows ys (tail_inside shape y ys inside) run.0 q run.2)

  same_test : (j y : List ℕ) → in_box shape j ≡ true → in_box shape y ≡ true → is_index (source j) (source y) ≡ is_index j y
  same_test j y h g =
      both_ways (is_index (source j) (source y)) (is_index j y)
      (λ f. ap (is_index j) (sym (once j y h g (is_index_same (source j) (source y) f))) ∙ is_index_refl j)
      (λ e. ap (λ l. is_index (source j) (source l)) (sym (is_index_same j y e)) ∙ is_index_refl (source j))

  times_mapped : (ys : List (List ℕ)) → AreInside shape ys → (j : List ℕ) → in_box shape j ≡ true → times (source j) (map source ys) ≡ times j ys
  times_mapped [] inside j h = refl
  times_mapped (y ∷ ys) inside j h =
      omega (arith, (times_mapped ys (tail_inside shape y ys inside) j h), (times_head (source j) (source y) (map source ys)), (times_head j y ys), (ap once_if (same_test j y h (head_inside shape y ys inside))))

  times_elsewhere : (i : List ℕ) → ((j : List ℕ) → in_box shape j ≡ true → source j ≡ i → ⊥) → (ys : List (List ℕ)) → AreInside shape ys → times i (map source ys) ≡ 0
  times_elsewhere i never [] inside = refl
  times_elsewhere i never (y ∷ ys) inside =
      by_value (λ _. times i (source y ∷ map source ys) ≡ 0) (is_index i (source y)) (λ e. absurd (never y (head_inside shape y ys inside) (sym (is_index_same i (source y) e)))) (λ e.
      let none : once_if (is_index i (source y)) ≡ 0 = ap once_if e in
      omega (arith, times_head i (source y) (map source ys), none, times_elsewhere i never ys (tail_inside shape y ys inside)))

-- every index of one shape is named once by those of another
module _ (one shape : List ℕ) (source back : List ℕ → List ℕ) (once : (j : List ℕ) → in_box shape j ≡ true → back (source j) ≡ j) (within : (j : List ℕ) → in_box shape j ≡ true → in_box one (source j) ≡ true) (inside : (i : List ℕ) → in_box one i ≡ true → in_box shape (back i) ≡ true) (found : (i : List ℕ) → in_box one i ≡ true → source (back i) ≡ i) where
  injective : (j k : List ℕ) → in_box shape j ≡ true → in_box shape k ≡ true → source j ≡ source k → j ≡ k
  injective j k h g e = sym (once j h) ∙ (ap back e ∙ once k g)

  count_named : (ys : List (List ℕ)) → AreInside shape ys → (i : List ℕ) → in_box one i ≡ true → times i (map source ys) ≡ times (back i) ys
  count_named ys in_shape i h = ap (λ k. times k (map source ys)) (sym (found i h)) ∙ times_mapped shape source injective ys in_shape (back i) (inside i h)

  count_unnamed : (ys : List (List ℕ)) → AreInside shape ys → (i : List ℕ) → in_box one i ≡ false → times i (map source ys) ≡ 0
  count_unnamed ys in_shape i out = times_elsewhere shape source injective i (λ j h e. let there : in_box one i ≡ true = ap (in_box one) (sym e) ∙ within j h in let bad = sym there ∙ out in absurd (cc)) ys in_shape

  named_part : (ys : List (List ℕ)) → ListsPartOfBox shape ys → ListsPartOfBox one (map source ys)
  named_part ys part i =
      by_value (λ b. times i (map source ys) ≤ once_if b) (in_box one i)
      (λ h. let few = part (back i) in let at = ap once_if (inside i h) in let counted = count_named ys (part_inside shape ys part) i h in omega (arith, few, at, counted))
      (λ h. let counted = count_unnamed ys (part_inside shape ys part) i h in omega (arith, counted))

  named_box : (ys : List (List ℕ)) → ListsBox shape ys → ListsBox one (map source ys)
  named_box ys box i =
      let in_shape = part_inside shape ys (box_is_part shape ys box) in
      by_value (λ b. times i (map source ys) ≡ once_if b) (in_box one i) (λ h. count_named ys in_shape i h ∙ (box (back i) ∙ ap once_if (inside i h))) (λ h. count_unnamed ys in_shape i h)

  module _ {P : Type 0} (call there : P → List ℕ → P → Type 0) (follows : (p : P) (j : List ℕ) (q : P) → in_box shape j ≡ true → there p j q → call p (source j) q) where
    pub named_callable : (takes takes_there : P → List ℕ → Type 0) → ((p : P) (j : List ℕ) → in_box shape j ≡ true → takes p (source j) → takes_there p j) → (f : P) → CallableInAnyOrder one call takes f → CallableInAnyOrder shape there takes_there f
    named_callable takes takes_there may f callable before now next h part run =
        may now next h (callable (map source before) now (source next) (within next h) (named_part (next ∷ before) part) (folds_mapped shape source injective there call follows before (tail_inside shape next before (part_inside shape (next ∷ before) part)) f now run))

    pub named_visited : (f last : P) → VisitedInSomeOrder shape there f last → VisitedInSomeOrder one call f last
    named_visited f last visited = (
      map source visited.0,
      named_box visited.0 visited.1,
      folds_mapped shape source injective there call follows visited.0 (part_inside shape visited.0 (box_is_part shape visited.0 visited.1)) f last visited.2,
    )

module _ {one two lower lower_two upper upper_two : Placement} (halved : AreHalved one two lower lower_two upper upper_two) where
  abbrev both : List (List ℕ) → List (List ℕ) → List (List ℕ)
  both xs ys = xs ++ map halved.source ys

  count_both : (i : List ℕ) (xs ys : List (List ℕ)) → times i (both xs ys) ≡ times i xs + times i (map halved.source ys)
  count_both i xs ys = sum_by-append (λ x. cond (is_index i x) 1 0) xs (map halved.source ys)

  module _ (xs ys : List (List ℕ)) (low : ListsPartOfBox lower.lengths xs) (high : ListsPartOfBox upper.lengths ys) where
    high_inside : AreInside upper.lengths ys
    high_inside = part_inside upper.lengths ys high

    none_low : (i : List ℕ) → (in_box lower.lengths i ≡ true → ⊥) → times i xs ≡ 0
    none_low i out =
        by_value (λ _. times i xs ≡ 0) (in_box lower.lengths i)
        (λ h. absurd (out h)) (λ h. let few = low i in let none = ap once_if h in omega (arith, few, none))

    counted_low : (i : List ℕ) → in_box lower.lengths i ≡ true → times i (both xs ys) ≡ times i xs
    counted_low i h = omega (arith, (times_elsewhere upper.lengths halved.source halved.once i (λ j g e. halved.apart i j h g e) ys high_inside), (count_both i xs ys))

    counted_high : (j : List ℕ) → in_box upper.lengths j ≡ true → times (halved.source j) (both xs ys) ≡ times j ys
    counted_high j g =
        omega (arith, (none_low (halved.source j) (λ h. halved.apart (halved.source j) j h g refl)), (times_mapped upper.lengths halved.source halved.once ys high_inside j g), (count_both (halved.source j) xs ys))

    counted_outside : (i : List ℕ) → in_box one.lengths i ≡ false → times i (both xs ys) ≡ 0
    counted_outside i out =
        let none = none_low i (λ h. let there = halved.low_first.within i h in let bad = sym there ∙ out in absurd (cc)) in
        let none_high = times_elsewhere upper.lengths halved.source halved.once i (λ j g e. let there : in_box one.lengths i ≡ true = ap (in_box one.lengths) (sym e) ∙ halved.high_first.within j g in let bad = sym there ∙ out in absurd (cc)) ys high_inside in
        omega (arith, none, none_high, (count_both i xs ys))

    -- in the box: as often as the half has it
    counted_each : (Q : ℕ → Type 0) → ((i : List ℕ) → in_box lower.lengths i ≡ true → Q (times i xs)) → ((j : List ℕ) → in_box upper.lengths j ≡ true → Q (times j ys)) → (i : List ℕ) → in_box one.lengths i ≡ true → Q (times i (both xs ys))
    counted_each Q of_low of_high i h =
        ⊎_elim
        (λ (there : in_box lower.lengths i ≡ true). subst Q (sym (counted_low i there)) (of_low i there))
        (λ (there : (j : List ℕ) × (in_box upper.lengths j ≡ true) × (halved.source j ≡ i)). subst (λ k. Q (times k (both xs ys))) there.2 (subst Q (sym (counted_high there.0 there.1)) (of_high there.0 there.1)))
        (halved.found i h)

    both_part : ListsPartOfBox one.lengths (both xs ys)
    both_part i =
        by_value (λ b. times i (both xs ys) ≤ once_if b) (in_box one.lengths i)
        (λ h. counted_each (λ n. n ≤ 1) (λ k g. let few = low k in let at = ap once_if g in omega (arith, few, at)) (λ k g. let few = high k in let at = ap once_if g in omega (arith, few, at)) i h)
        (λ h. let none = counted_outside i h in omega (arith, none))

  both_box : (xs ys : List (List ℕ)) → ListsBox lower.lengths xs → ListsBox upper.lengths ys → ListsBox one.lengths (both xs ys)
  both_box xs ys low high i =
      let low_part = box_is_part lower.lengths xs low in
      let high_part = box_is_part upper.lengths ys high in
      by_value (λ b. times i (both xs ys) ≡ once_if b) (in_box one.lengths i)
      (λ h. counted_each xs ys low_part high_part (λ n. n ≡ 1) (λ k g. low k ∙ ap once_if g) (λ k g. high k ∙ ap once_if g) i h)
      (λ h. counted_outside xs ys low_part high_part i h)

  low_part_of : (xs : List (List ℕ)) → ListsPartOfBox lower.lengths xs → ListsPartOfBox one.lengths xs
  low_part_of xs part i =
      by_value (λ _. times i xs ≤ once_if (in_box one.lengths i)) (in_box lower.lengths i)
      (λ h. let few = part i in let at = ap once_if h in let there = ap once_if (halved.low_first.within i h) in omega (arith, few, at, there))
      (λ h. let few = part i in let none = ap once_if h in omega (arith, few, none))

  module _ {P : Type 0} (call low_call high_call : P → List ℕ → P → Type 0) (takes low_takes high_takes : P → List ℕ → Type 0) where
    pub low_callable : ((p : P) (i : List ℕ) (q : P) → in_box lower.lengths i ≡ true → low_call p i q → call p i q) → ((p : P) (i : List ℕ) → in_box lower.lengths i ≡ true → takes p i → low_takes p i) → (f : P) → CallableInAnyOrder one.lengths call takes f → CallableInAnyOrder lower.lengths low_call low_takes f
    low_callable follows may f callable before now next h part run =
        may now next h (callable before now next (halved.low_first.within next h) (low_part_of (next ∷ before) part) (folds_inside low_call call lower.lengths follows before (tail_inside lower.lengths next before (part_inside lower.lengths (next ∷ before) part)) f now run))

    module _ (low_follows : (p : P) (i : List ℕ) (q : P) → in_box lower.lengths i ≡ true → low_call p i q → call p i q) (high_follows : (p : P) (j : List ℕ) (q : P) → in_box upper.lengths j ≡ true → high_call p j q → call p (halved.source j) q) (f mid : P) (low : VisitedInSomeOrder lower.lengths low_call f mid) where
      low_run : FoldsTo call f low.0 mid
      low_run = folds_inside low_call call lower.lengths low_follows low.0 (part_inside lower.lengths low.0 (box_is_part lower.lengths low.0 low.1)) f mid low.2

      pub high_callable : ((p : P) (j : List ℕ) → in_box upper.lengths j ≡ true → takes p (halved.source j) → high_takes p j) → CallableInAnyOrder one.lengths call takes f → CallableInAnyOrder upper.lengths high_call high_takes mid
      high_callable may callable before now next h part run =
          may now next h
          (callable (both low.0 before) now (halved.source next) (halved.high_first.within next h) next_part
          (folds_append call low.0 (map halved.source before) f mid now low_run (folds_mapped upper.lengths halved.source halved.once high_call call high_follows before (tail_inside upper.lengths next before (part_inside upper.lengths (next ∷ before) part)) mid now run)))
        where
          next_part : ListsPartOfBox one.lengths (halved.source next ∷ both low.0 before)
          next_part i =
              omega (arith, (both_part low.0 (next ∷ before) (box_is_part lower.lengths low.0 low.1) part i), (times_head i (halved.source next) (both low.0 before)), (count_both i low.0 before), (count_both i low.0 (next ∷ before)), (times_head i (halved.source next) (map halved.source before)))

      pub both_visited : (last : P) → VisitedInSomeOrder upper.lengths high_call mid last → VisitedInSomeOrder one.lengths call f last
      both_visited last high = (
        both low.0 high.0,
        both_box low.0 high.0 low.1 high.1,
        folds_append call low.0 (map halved.source high.0) f mid last low_run (folds_mapped upper.lengths halved.source halved.once high_call call high_follows high.0 (part_inside upper.lengths high.0 (box_is_part upper.lengths high.0 high.1)) mid last high.2),
      )
