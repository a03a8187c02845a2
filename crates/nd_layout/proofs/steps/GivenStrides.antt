-- Strides of the caller's: what the tests say, and that the places lie between 0 and the span.
use Rattle.nd_layout.proofs.NamesFromOtherCrates.{◌≡◌, ℕ, zero, suc, ◌+◌, ◌*◌, ◌<◌, ◌≤◌, ⊎_elim, Bool, true, false, ltb, leb, eqb, cond, ◌&&◌, ◌||◌, List, [], ◌∷◌, length, drop, get_or, ℤ, pos, negsuc, refl, ap, ◌∙◌, arith, None, Some, lt-ltb, ltb-true, le-leb, leb-true, cases_lt, or_cases, or_left, or_right, nat_tests, drop_more, get_or_past, size_of, HasCheckedSize, span_of, span_within, magnitude_at, IsSeparated, range_pass, pass_range}
use Rattle.nd_layout.specs.StridesAfterLayoutCalls.{reach_down}
use Rattle.nd_layout.proofs.PlacesWithinSpan.{span_of-reaches, place-in_box}
use Rattle.nd_layout.specs.ValidMemoryPlaces.{is_place}
use Rattle.nd_layout.specs.ConstructorRefusals.{stands_apart, is_separated, elements_asked}
use Rattle.nd_layout.specs.ValidLayoutsAndSteps.{IsValid}

-- ---- the test of separation
module _ (ns : List ℕ) (ss : List ℤ) where
  pub separated_by_test : is_separated ns ss ≡ true → IsSeparated ns ss
  separated_by_test h k long =
      let on : k < length ns = ⊎_elim (λ below. below) (λ past. absurd (let e = get_or_past ns k 0 past in omega (arith, e, long))) (cases_lt k (length ns)) in
      let here = range_pass (stands_apart ns ss) 0 (length ns) k h (omega arith) (omega (arith, on)) in
      ⊎_elim
      (λ short. absurd (let le = leb-true (get_or ns k 0) 1 short in omega (arith, le, long)))
      (λ apart. ltb-true (span_within (magnitude_at ss k) ns ss) (get_or ns k 0 * magnitude_at ss k) apart)
      (or_cases (leb (get_or ns k 0) 1) (ltb (span_within (magnitude_at ss k) ns ss) (get_or ns k 0 * magnitude_at ss k)) here)

  pub test_of_separated : IsSeparated ns ss → is_separated ns ss ≡ true
  test_of_separated apart = pass_range (stands_apart ns ss) 0 (length ns) (λ k _ _. each k)
    where
      each : (k : ℕ) → stands_apart ns ss k ≡ true
      each k =
          ⊎_elim
          (λ long. or_right (leb (get_or ns k 0) 1) (ltb (span_within (magnitude_at ss k) ns ss) (get_or ns k 0 * magnitude_at ss k)) (lt-ltb (span_within (magnitude_at ss k) ns ss) (get_or ns k 0 * magnitude_at ss k) (apart k long)))
          (λ short. or_left (leb (get_or ns k 0) 1) (ltb (span_within (magnitude_at ss k) ns ss) (get_or ns k 0 * magnitude_at ss k)) (le-leb (get_or ns k 0) 1 (omega (arith, short))))
          (cases_lt 1 (get_or ns k 0))

-- ---- the offset, axis by axis
pub reach_down-le-span : (ns : List ℕ) (ss : List ℤ) → reach_down ns ss ≤ span_of ns ss
reach_down-le-span ns ss = let e = span_of-reaches ns ss in omega (arith, e)

pub reach_down-cons : (n : ℕ) (s : ℤ) (ns : List ℕ) (ss : List ℤ) → reach_down (n ∷ ns) (s ∷ ss) ≡ reach_down (n ∷ []) (s ∷ []) + reach_down ns ss
reach_down-cons n (pos s) ns ss = omega arith
reach_down-cons n (negsuc s) ns ss = omega arith

pub reach_down-drop : (ns : List ℕ) (ss : List ℤ) (k : ℕ) → length ss ≡ length ns → k < length ns → reach_down (drop k ns) (drop k ss) ≡ reach_down (get_or ns k 0 ∷ []) (get_or ss k (pos 0) ∷ []) + reach_down (drop (k + 1) ns) (drop (k + 1) ss)
reach_down-drop ns ss k e h =
    let q : k < length ss = omega arith in
    rw (drop_more ns k 0 h, drop_more ss k (pos 0) q) (reach_down-cons (get_or ns k 0) (get_or ss k (pos 0)) (drop (k + 1) ns) (drop (k + 1) ss))

-- ---- what an accepted shape is
fits_slice : {E : Type 0} (x y : E) (a b c : Bool) → cond (a && b) (cond c (Some x) None) (Some y) ≡ None → (a ≡ true) × (b ≡ true) × (c ≡ false)
fits_slice x y true true true h = cc
fits_slice x y true true false h = (refl, refl, refl)
fits_slice x y true false c h = cc
fits_slice x y false b c h = cc

taken : {E : Type 0} (x y z : E) (a b c d : Bool) → cond (a && b) (cond c (Some x) None) (Some y) ≡ None → cond (a && b) (cond c (Some x) (cond d None (Some z))) (Some y) ≡ cond d None (Some z)
taken x y z true true true d h = cc
taken x y z true true false d h = refl
taken x y z true false c d h = cc
taken x y z false b c d h = cc

pub apart_by_test : (ns : List ℕ) (ss : List ℤ) → (eqb (size_of ns) 0 || is_separated ns ss) ≡ true → 0 < size_of ns → IsSeparated ns ss
apart_by_test ns ss h some =
    ⊎_elim
    (λ none. let e : size_of ns ≡ 0 = grind (arith, nat_tests) in absurd (omega (arith, e, some)))
    (λ test. separated_by_test ns ss test)
    (or_cases (eqb (size_of ns) 0) (is_separated ns ss) h)

-- ---- places from the lowest one on
pub asked_of_some : (ns : List ℕ) (ss : List ℤ) → 0 < size_of ns → elements_asked ns ss ≡ span_of ns ss + 1
asked_of_some ns ss some = at (size_of ns) some
  where
    at : (n : ℕ) → 0 < n → cond (eqb n 0) (span_of ns ss) (span_of ns ss + 1) ≡ span_of ns ss + 1
    at zero h = absurd (omega arith)
    at (suc n) h = grind (arith, nat_tests)

pub given_is_valid : (ns : List ℕ) (ss : List ℤ) → length ss ≡ length ns → HasCheckedSize ns → span_of ns ss < 9223372036854775808 → IsValid (reach_down ns ss) ns ss
given_is_valid ns ss many checked spread = record {
  as_many = many;
  spread = spread;
  checked = checked;
  reach = λ i h.
      let at = place-in_box (reach_down ns ss) ns ss i h (omega arith) in
      let both = span_of-reaches ns ss in
      let small : at.0 < 9223372036854775808 = let le = at.2 in omega (arith, le, both, spread) in
      ap is_place at.1 ∙ grind (arith, nat_tests, small);
}
