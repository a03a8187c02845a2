-- Two places of a region: what one call is shown at the first and leaves at the second.
use Rattle.nd_elements.proofs.NamesFromOtherCrates.{◌≡◌, ℕ, true, List, [], set, ap, sym, ◌∙◌, Some, not, is_some, Bor, MutBor, Mut, length-set, set-get_or, get_or-set_other, Region, stored_in, merged_rows, names, names_not, region_stored, with_items, with_element, rejoined_region, IsPartWhere, part_holds, stored_at, names_itself, names_no_other, merged_only}
use Rattle.nd_elements.specs.along.AccumulateAlongAxis.{TakesAfter, ChangedBetween, ChangedInside}

module _ {A : Type 0} (d x y : Region A) (p q : ℕ) (apart : p ≡ q → ⊥) (first : IsPartWhere (names p [] []) d x) (second : IsPartWhere (names_not p [] []) d y) where
  pub first_has : region_stored x p ≡ region_stored d p
  first_has = (λ i. stored_in (first.0 i) (first.1 i) p) ∙ part_holds (names p [] []) d.items d.held p (names_itself p)

  pub second_has : region_stored y q ≡ region_stored d q
  second_has = (λ i. stored_in (second.0 i) (second.1 i) q) ∙ part_holds (names_not p [] []) d.items d.held q (ap not (names_no_other p q apart))

  -- the second place written, the parts are the region with that element
  pub pair_back : (a z : A) → region_stored d p ≡ Some a → rejoined_region d x x (with_element y q z) ≡ with_element d q z
  pair_back a z at =
      let xs : List A = d.items in
      let from = stored_at xs d.held p a a at in
      let whole : merged_rows x.held x.items (set y.items q z) ≡ set xs q z =
      (λ i. merged_rows (first.1 i) (first.0 i) (set (second.0 i) q z))
      ∙ merged_only (names p [] []) xs d.held p a (set xs q z) (length-set xs q z) (ap is_some at) (names_itself p) (λ k no. names_no_other p k (λ same. no (sym same)))
      ∙ ap (set (set xs q z) p) (sym (get_or-set_other xs q p z a apart))
      ∙ set-get_or (set xs q z) p a in
      ap (with_items d) whole

module _ {F A : Type 0} (g : Mut F (Bor A × (MutBor A × Unit {0})) (Unit {0} × (MutBor A × Unit {0}))) (d : Region A) (p q : ℕ) (apart : p ≡ q → ⊥) (f : F) where
  pub pair_asks : is_some (region_stored d p) ≡ true → is_some (region_stored d q) ≡ true → TakesAfter g (region_stored d p) (region_stored d q) f → (x y : Region A) → IsPartWhere (names p [] []) d x → IsPartWhere (names_not p [] []) d y
      → (is_some (region_stored x p) ≡ true) × (is_some (region_stored y q) ≡ true) × TakesAfter g (region_stored x p) (region_stored y q) f
  pair_asks at_p at_q takes x y first second =
      let one = first_has d x y p q apart first second in
      let two = second_has d x y p q apart first second in
      (ap is_some one ∙ at_p, ap is_some two ∙ at_q, λ v w shows gives. takes v w (sym one ∙ shows) (sym two ∙ gives))

  pub pair_done : (x y s t : Region A) (f' : F) (new : Region A) → IsPartWhere (names p [] []) d x → IsPartWhere (names_not p [] []) d y → ChangedBetween g x p y q f (s, t, f') → new ≡ rejoined_region d x s t → ChangedInside g d p q f (new, f')
  pair_done x y s t f' new first second done is =
      let a = done.0 in
      let at_p : region_stored d p ≡ Some a = sym (first_has d x y p q apart first second) ∙ done.3 in (
        a,
        done.1,
        done.2,
        at_p,
        sym (second_has d x y p q apart first second) ∙ done.4,
        is ∙ (λ i. rejoined_region d x (done.5 i) (done.6 i)) ∙ pair_back d x y p q apart first second a done.2 at_p,
        done.7,
      )
