-- A row of an image, seen as a view of one axis: where its elements lie, and which they are.
use Rattle.std.proofs.Common.{◌≡◌, ◌↔◌, ℕ, ◌<◌, true, List, [], ◌∷◌, refl, ap, sym, subst, ◌∙◌, arith}
use Rattle.std.specs.Prelude.{Option, slice_index}
use Rattle.std.specs.List.{remove, insert}
use Rattle.std.proofs.lemmas.Bool.Decides.{nat_tests}
use Rattle.nd_array_core.specs.ShapesAndIndexOrders.{in_box}
use Rattle.nd_array_core.specs.ArrayMeaning.{inside}
use Rattle.nd_array_core.specs.reshape.ElementsAsSlice.{LiesByRank}

lies_alike : (ns : List ℕ) (f g : List ℕ → Option ℕ) → ((i : List ℕ) → in_box ns i ≡ true → f i ≡ g i) → LiesByRank ns f → LiesByRank ns g
lies_alike ns f g same lies i j p q h k at_p at_q = lies i j p q h k (same i h ∙ at_p) (same j k ∙ at_q)

-- equal shapes and equal places lie alike
pub same_lie : (ns ms : List ℕ) (f g : List ℕ → Option ℕ) → ns ≡ ms → ((i : List ℕ) → f i ≡ g i) → LiesByRank ns f → LiesByRank ms g
same_lie ns ms f g is same lies = subst (λ ks. LiesByRank ks g) is (lies_alike ns f g (λ i h. same i) lies)

-- what an index inside shows
shown : {A : Type 0} (ns : List ℕ) (i : List ℕ) (x : Option A) → in_box ns i ≡ true → inside ns i x ≡ x
shown ns i x h = rw h refl

column_inside : (column columns : ℕ) → column < columns → in_box (columns ∷ []) (column ∷ []) ≡ true
column_inside column columns h = grind (arith, nat_tests)

module _ (ns : List ℕ) (two : ns ≡ slice_index ns 0 ∷ slice_index ns 1 ∷ []) (row : ℕ) where
  one_left : remove ns 0 ≡ slice_index ns 1 ∷ []
  one_left = ap (λ ms. remove ms 0) two

  pub row_lies : (vs : List ℕ) (f g : List ℕ → Option ℕ) → vs ≡ remove ns 0 → ((i : List ℕ) → f i ≡ inside (remove ns 0) i (g (insert i 0 row))) → LiesByRank vs f ↔ LiesByRank (slice_index ns 1 ∷ []) (λ i. g (row ∷ i))
  row_lies vs f g is each =
      let e : vs ≡ slice_index ns 1 ∷ [] = is ∙ one_left in
      let same : (i : List ℕ) → in_box vs i ≡ true → f i ≡ g (row ∷ i) = λ i h. each i ∙ shown (remove ns 0) i (g (row ∷ i)) (subst (λ ms. in_box ms i ≡ true) is h) in (
        (λ lies. subst (λ ms. LiesByRank ms (λ i. g (row ∷ i))) e (lies_alike vs f (λ i. g (row ∷ i)) same lies)),
        (λ lies. lies_alike vs (λ i. g (row ∷ i)) f (λ i h. sym (same i h)) (subst (λ ms. LiesByRank ms (λ i. g (row ∷ i))) (sym e) lies)),
      )

  pub row_shows : {A : Type 0} (x y : List ℕ → Option A) (column : ℕ) → ((i : List ℕ) → x i ≡ inside (remove ns 0) i (y (insert i 0 row))) → column < slice_index ns 1 → x (column ∷ []) ≡ y (row ∷ column ∷ [])
  row_shows x y column each below = each (column ∷ []) ∙ shown (remove ns 0) (column ∷ []) (y (row ∷ column ∷ [])) (subst (λ ms. in_box ms (column ∷ []) ≡ true) (sym one_left) (column_inside column (slice_index ns 1) below))

  pub row_inside : (vs : List ℕ) (column : ℕ) → vs ≡ remove ns 0 → column < slice_index ns 1 → in_box vs (column ∷ []) ≡ true
  row_inside vs column is below = subst (λ ms. in_box ms (column ∷ []) ≡ true) (sym (is ∙ one_left)) (column_inside column (slice_index ns 1) below)
