-- Two neighbours of a lane, lent as a part of a storage: what one call is shown at the first and leaves at the second.
use Rattle.nd_elements.proofs.NamesFromOtherCrates.{◌≡◌, ℕ, zero, suc, ◌+◌, ◌<◌, Bool, true, List, [], ◌∷◌, ℤ, pos, ◌+ℤ◌, ◌*ℤ◌, refl, ap, sym, subst, ◌∙◌, arith, Option, None, is_some, nat_lt, if◌then◌else◌, Bor, MutBor, Mut, and_parts, nat_tests, suc-eq-add-one, in_box, place_of, sums, suc-mul, zero-mul, one-mul, Region, names, region_stored, named_at, written_same, written_other}
use Rattle.nd_elements.specs.StoragePlaces.{stored_at, names_place, HoldsAll}
use Rattle.nd_elements.specs.elements.ElementChanges.{AreDistinct}
use Rattle.nd_elements.specs.ScopedStorageCalls.{with_named, IsNamedPart}
use Rattle.nd_elements.specs.along.AccumulateAlongAxis.{ChangesAfter, TakesAfter, ChangedInside}
use Rattle.nd_elements.proofs.BoolAndResultCases.{by_bool}

module _ (place nth count from to : ℕ) (s t : ℤ) (strides : t ≡ s) (within : nth + 1 < count) (at_from : pos from ≡ pos place +ℤ (pos nth *ℤ s)) (at_to : pos to ≡ pos place +ℤ (pos (nth + 1) *ℤ s)) where
  -- the two places, by the two indexes of a part of length 2
  first_place : place_of from (t ∷ []) (0 ∷ []) ≡ pos from
  first_place = let none = zero-mul t in omega (arith, sums, none)

  second_place : place_of from (t ∷ []) (1 ∷ []) ≡ pos to
  second_place =
      omega (arith, sums, one-mul t, strides, at_from, at_to, subst (λ m. pos m *ℤ s ≡ (pos nth *ℤ s) +ℤ s) (suc-eq-add-one nth) (suc-mul nth s))

  pub names_first : names from (2 ∷ []) (t ∷ []) from ≡ true
  names_first = named_at from (2 ∷ []) (t ∷ []) from (0 ∷ []) refl first_place

  pub names_second : names from (2 ∷ []) (t ∷ []) to ≡ true
  names_second = named_at from (2 ∷ []) (t ∷ []) to (1 ∷ []) refl second_place

  pub neighbours_apart : AreDistinct (λ k. pos place +ℤ (pos k *ℤ s)) count → from ≡ to → ⊥
  neighbours_apart apart same = let one = apart nth (nth + 1) (omega (arith, within)) within (sym at_from ∙ (ap pos same ∙ at_to)) in absurd (omega (arith, one))

  -- what is true of the numbers of the lane is true of each index' place
  pub neighbours_pass : (test : ℤ → Bool) → ((k : ℕ) → k < count → test (pos place +ℤ (pos k *ℤ s)) ≡ true) → (i : List ℕ) → in_box (2 ∷ []) i ≡ true → test (place_of from (t ∷ []) i) ≡ true
  neighbours_pass test passes [] h = cc
  neighbours_pass test passes (zero ∷ []) h = ap test (first_place ∙ at_from) ∙ passes nth (omega (arith, within))
  neighbours_pass test passes (suc zero ∷ []) h = ap test (second_place ∙ at_to) ∙ passes (nth + 1) within
  neighbours_pass test passes (suc (suc k) ∷ []) h = let off : nat_lt (suc (suc k)) 2 ≡ true = (and_parts (nat_lt (suc (suc k)) 2) true h).0 in absurd (grind (arith, nat_tests, off))
  neighbours_pass test passes (k ∷ j ∷ js) h = let rest = (and_parts (nat_lt k 2) (in_box [] (j ∷ js)) h).1 in cc

  module _ {A : Type 0} (old : ℕ → Option A) where
    pub neighbours_held : ((k : ℕ) → k < count → names_place old (pos place +ℤ (pos k *ℤ s)) ≡ true) → HoldsAll old from (2 ∷ []) (t ∷ [])
    neighbours_held holds = neighbours_pass (names_place old) holds

    module _ (x : Region A) (part : IsNamedPart old from (2 ∷ []) (t ∷ []) x) where
      pub first_is : region_stored x from ≡ stored_at old (pos place +ℤ (pos nth *ℤ s))
      first_is = part from ∙ (ap (λ (b : Bool). if b then old from else None) names_first ∙ ap (stored_at old) at_from)

      pub second_is : region_stored x to ≡ stored_at old (pos place +ℤ (pos (nth + 1) *ℤ s))
      second_is = part to ∙ (ap (λ (b : Bool). if b then old to else None) names_second ∙ ap (stored_at old) at_to)

  module _ {F A : Type 0} (g : Mut F (Bor A × (MutBor A × Unit {0})) (Unit {0} × (MutBor A × Unit {0}))) (old : ℕ → Option A) (f : F) where
    pub neighbours_ask : AreDistinct (λ k. pos place +ℤ (pos k *ℤ s)) count → ((k : ℕ) → k < count → names_place old (pos place +ℤ (pos k *ℤ s)) ≡ true)
        → TakesAfter g (stored_at old (pos place +ℤ (pos nth *ℤ s))) (stored_at old (pos place +ℤ (pos (nth + 1) *ℤ s))) f
        → (x : Region A) → IsNamedPart old from (2 ∷ []) (t ∷ []) x
        → (from ≡ to → ⊥) × ((is_some (region_stored x from) ≡ true) × (is_some (region_stored x to) ≡ true)) × TakesAfter g (region_stored x from) (region_stored x to) f
    neighbours_ask apart holds takes x part =
        let one = first_is old x part in
        let two = second_is old x part in
        (neighbours_apart apart, (ap is_some one ∙ holds nth (omega (arith, within)), ap is_some two ∙ holds (nth + 1) within), λ v w shows gives. takes v w (sym one ∙ shows) (sym two ∙ gives))

    module _ (new : ℕ → Option A) (x r : Region A) (f' : F) (part : IsNamedPart old from (2 ∷ []) (t ∷ []) x) (done : ChangedInside g x from to f (r, f')) (back : (p : ℕ) → new p ≡ with_named old from (2 ∷ []) (t ∷ []) (region_stored r) p) where
      pub neighbour_changed : ChangesAfter g (stored_at old (pos place +ℤ (pos nth *ℤ s))) (stored_at old (pos place +ℤ (pos (nth + 1) *ℤ s))) (stored_at new (pos place +ℤ (pos (nth + 1) *ℤ s))) f f'
      neighbour_changed = (
        done.0,
        done.1,
        done.2,
        sym (first_is old x part) ∙ done.3,
        sym (second_is old x part) ∙ done.4,
        ap (stored_at new) (sym at_to)
            ∙ (back to ∙ (ap (λ (b : Bool). if b then region_stored r to else old to) names_second
            ∙ (ap (λ w. region_stored w to) done.5 ∙ written_same x.items x.held to done.2 (ap is_some done.4)))),
        done.6,
      )

      pub neighbours_left : (p : ℕ) → (pos p ≡ pos place +ℤ (pos (nth + 1) *ℤ s) → ⊥) → new p ≡ old p
      neighbours_left p other = back p ∙ by_bool (names from (2 ∷ []) (t ∷ []) p)
          (λ e. rw e (ap (λ w. region_stored w p) done.5 ∙ (written_other x.items x.held to p done.2 not_to ∙ (part p ∙ ap (λ (b : Bool). if b then old p else None) e))))
          (λ e. rw e refl)
        where
          not_to : p ≡ to → ⊥
          not_to same = other (ap pos same ∙ at_to)
