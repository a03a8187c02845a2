-- Two images are equal at each index exactly where they have the same element at each row and column.
use Rattle.nd_array_core.proofs.NamesFromOtherCrates.{◌≡◌, ◌↔◌, ◌<◌, ℕ, Bool, true, false, List, [], ◌∷◌, refl, ap, sym, ◌∙◌, subst, Option, Some, None, ◌&&◌, nat_lt, slice_index, is_some, ltb-true, and_parts, in_box, in_two_axes, inside}
use Rattle.nd_array_core.specs.EqualityAndHashing.{EqualEverywhere, SameCells}

module _ {A : Type 0} (equal : A → A → Bool) (decides : (x y : A) → (equal x y ≡ true) ↔ (x ≡ y)) where
  same_element : (o p : Option A) → is_some o ≡ true → is_some p ≡ true → ((x y : A) → o ≡ Some x → p ≡ Some y → equal x y ≡ true) → o ≡ p
  same_element (Some x) (Some y) s t e = ap Some ((decides x y).0 (e x y refl refl))
  same_element (Some x) None s t e = absurd cc
  same_element None p s t e = absurd cc

  equal_element : (o p : Option A) (x y : A) → o ≡ p → o ≡ Some x → p ≡ Some y → equal x y ≡ true
  equal_element o p x y same ox py = let one : x ≡ y = cc in (decides x y).1 one

  module _ (rows columns : ℕ) (at to : List ℕ → Option A) where
    by_index : ((row column : ℕ) → row < rows → column < columns → at (row ∷ column ∷ []) ≡ to (row ∷ column ∷ [])) → (i : List ℕ) (x y : A) → in_box (rows ∷ columns ∷ []) i ≡ true → at i ≡ Some x → to i ≡ Some y → equal x y ≡ true
    by_index same [] x y h ox py = absurd cc
    by_index same (i ∷ []) x y h ox py = let never = (and_parts (nat_lt i rows) false h).1 in absurd cc
    by_index same (i ∷ j ∷ []) x y h ox py =
        let two = and_parts (nat_lt i rows) (nat_lt j columns && true) h in
        let last = and_parts (nat_lt j columns) true two.1 in
        equal_element (at (i ∷ j ∷ [])) (to (i ∷ j ∷ [])) x y (same i j (ltb-true i rows two.0) (ltb-true j columns last.0)) ox py
    by_index same (i ∷ j ∷ k ∷ is) x y h ox py = let never = (and_parts (nat_lt j columns) false (and_parts (nat_lt i rows) (nat_lt j columns && false) h).1).1 in absurd cc

  -- elements that are there exactly inside the shapes
  module _ (ns ms : List ℕ) (at to : List ℕ → Option A) (has : (i : List ℕ) → in_box ns i ≡ true → is_some (at i) ≡ true) (holds : (i : List ℕ) → in_box ms i ≡ true → is_some (to i) ≡ true)
      (rows columns : ℕ) (two : ns ≡ rows ∷ columns ∷ []) where
    pub cells_of_equal : EqualEverywhere equal (record { shape = ns; at = λ i. inside ns i (at i) }) (record { shape = ms; at = λ i. inside ms i (to i) }) → SameCells (record { shape = ns; at = λ i. inside ns i (at i) }) (record { shape = ms; at = λ i. inside ms i (to i) })
    cells_of_equal (same, each) = (
      same,
      λ row column r c.
          let within : in_box ns (row ∷ column ∷ []) ≡ true = ap (λ ls. in_box ls (row ∷ column ∷ [])) two ∙ in_two_axes rows columns row column (subst (λ ls. row < slice_index ls 0) two r) (subst (λ ls. column < slice_index ls 1) two c) in
          let there : in_box ms (row ∷ column ∷ []) ≡ true = ap (λ ls. in_box ls (row ∷ column ∷ [])) (sym same) ∙ within in
          let here : inside ns (row ∷ column ∷ []) (at (row ∷ column ∷ [])) ≡ at (row ∷ column ∷ []) = rw within refl in
          let other_inside : inside ms (row ∷ column ∷ []) (to (row ∷ column ∷ [])) ≡ to (row ∷ column ∷ []) = rw there refl in
          here ∙ same_element (at (row ∷ column ∷ [])) (to (row ∷ column ∷ [])) (has (row ∷ column ∷ []) within) (holds (row ∷ column ∷ []) there) (λ x y ox py. each (row ∷ column ∷ []) x y (here ∙ ox) (other_inside ∙ py)) ∙ sym other_inside,
    )

    within_of : (i : List ℕ) (x : A) (b : Bool) → in_box ns i ≡ b → inside ns i (at i) ≡ Some x → in_box ns i ≡ true
    within_of i x true h e = h
    within_of i x false h e = let none : inside ns i (at i) ≡ None = rw h refl in absurd cc

    pub equal_of_cells : SameCells (record { shape = ns; at = λ i. inside ns i (at i) }) (record { shape = ms; at = λ i. inside ms i (to i) }) → EqualEverywhere equal (record { shape = ns; at = λ i. inside ns i (at i) }) (record { shape = ms; at = λ i. inside ms i (to i) })
    equal_of_cells (same, cells) = (
      same,
      λ i x y mx ny.
          by_index rows columns (λ j. inside ns j (at j)) (λ j. inside ms j (to j)) (λ row column r c. cells row column (subst (λ ls. row < slice_index ls 0) (sym two) r) (subst (λ ls. column < slice_index ls 1) (sym two) c)) i x y
          (ap (λ ls. in_box ls i) (sym two) ∙ within_of i x (in_box ns i) refl mx) mx ny,
    )
