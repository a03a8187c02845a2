-- The two parts of an array that is split along an axis: each index lies in one of them.
use Rattle.std.proofs.Common.{◌≡◌, ℕ, zero, suc, ◌+◌, ◌-◌, ◌<◌, ◌≤◌, Bool, true, false, ltb, List, [], ◌∷◌, get_or, set, Option, None, Some, refl, sym, ap, ◌∙◌, arith, if◌then◌else◌}
use Rattle.std.specs.Prelude.{is_some}
use Rattle.std.proofs.lemmas.Bool.{and_parts, and_from, lt-ltb, ltb-true, ltb-false}
use Rattle.nd_shape_and_slice.specs.ShapesAndIndexOrders.{in_box}
use Rattle.nd_shape_and_slice.specs.LayoutIndexMaps.{lower_shape, upper_shape, upper_index}
use Rattle.nd_array_core.specs.ArrayMeaning.{Meaning, inside}
use Rattle.nd_array_core.specs.LayoutLaws.{NothingOutside}
use Rattle.nd_steps.specs.declared.refusal_causes.Cause.{Cause}
use Rattle.nd_read.specs.ScriptCalls.{Acting}
use Rattle.nd_steps.specs.WritesThroughViewsAndSplits.{joined_elements, lower_meaning, upper_meaning, parts_tests, parts_refusal, point_tests, point_refusal, split_refusal, split_written}
use Rattle.nd_steps.specs.WriteResults.{unless_refused, acted_elements_unless}
use Rattle.nd_steps.proofs.StepEquations.{tests_pass, tests_fail, same_meaning}

-- an index whose coordinate is below the split lies in the first part
pub in_lower : (ns i : List ℕ) (a k : ℕ) → in_box ns i ≡ true → get_or i a 0 < k → in_box (lower_shape ns a k) i ≡ true
in_lower [] [] a k h lt = refl
in_lower [] (i ∷ is) a k h lt = absurd cc
in_lower (n ∷ ns) [] a k h lt = absurd cc
in_lower (n ∷ ns) (i ∷ is) zero k h lt = and_from (ltb i k) (in_box ns is) (lt-ltb i k lt) (and_parts (ltb i n) (in_box ns is) h).1
in_lower (n ∷ ns) (i ∷ is) (suc a) k h lt = let p = and_parts (ltb i n) (in_box ns is) h in and_from (ltb i n) (in_box (set ns a k) is) p.0 (in_lower ns is a k p.1 lt)

-- any other lies in the second, its coordinate less by the split
pub in_upper : (ns i : List ℕ) (a k : ℕ) → in_box ns i ≡ true → k ≤ get_or i a 0 → in_box (upper_shape ns a k) (set i a (get_or i a 0 - k)) ≡ true
in_upper [] [] a k h le = refl
in_upper [] (i ∷ is) a k h le = absurd cc
in_upper (n ∷ ns) [] a k h le = absurd cc
in_upper (n ∷ ns) (i ∷ is) zero k h le =
    let p = and_parts (ltb i n) (in_box ns is) h in
    and_from (ltb (i - k) (n - k)) (in_box ns is) (lt-ltb (i - k) (n - k) (omega (arith, le, ltb-true i n p.0))) p.1
in_upper (n ∷ ns) (i ∷ is) (suc a) k h le = let p = and_parts (ltb i n) (in_box ns is) h in and_from (ltb i n) (in_box (upper_shape ns a k) (set is a (get_or is a 0 - k))) p.0 (in_upper ns is a k p.1 le)

pub upper_again : (i : List ℕ) (a k : ℕ) → k ≤ get_or i a 0 → upper_index a k (set i a (get_or i a 0 - k)) ≡ i
upper_again [] a k le = refl
upper_again (i ∷ is) zero k le = let same : i - k + k ≡ i = omega (arith, le) in ap (λ x. x ∷ is) same
upper_again (i ∷ is) (suc a) k le = ap (λ t. i ∷ t) (upper_again is a k le)

module _ {A : Type 0} where
  -- an array whose elements in either part are these has them end to end
  pub joined_is : (ns : List ℕ) (a k : ℕ) (at lower upper : List ℕ → Option A) → ((i : List ℕ) → in_box ns i ≡ false → at i ≡ None)
      → ((i : List ℕ) → in_box (lower_shape ns a k) i ≡ true → at i ≡ lower i) → ((i : List ℕ) → in_box (upper_shape ns a k) i ≡ true → at (upper_index a k i) ≡ upper i)
      → (i : List ℕ) → at i ≡ inside ns i (joined_elements a k lower upper i)
  joined_is ns a k at lower upper outside low high i = by_box (in_box ns i) (ltb (get_or i a 0) k) refl refl
    where
      by_box : (b t : Bool) → in_box ns i ≡ b → ltb (get_or i a 0) k ≡ t → at i ≡ inside ns i (joined_elements a k lower upper i)
      by_box false t h e = rw h (outside i h)
      by_box true true h e = rw (h, e) (low i (in_lower ns i a k h (ltb-true (get_or i a 0) k e)))
      by_box true false h e =
          let le : k ≤ get_or i a 0 = ltb-false (get_or i a 0) k e in
          rw (h, e) (ap at (sym (upper_again i a k le)) ∙ high (set i a (get_or i a 0 - k)) (in_upper ns i a k h le))

-- ---- what is seen of a part

module _ {A : Type 0} where
  -- is what the array has at the part's indexes
  pub part_at : (shape' shape i : List ℕ) (x y : Option A) → shape' ≡ shape → in_box shape i ≡ true → inside shape' i x ≡ y → x ≡ y
  part_at shape' shape i x y e h is = let here : inside shape' i x ≡ x = ap (λ b. if b then x else None) (ap (λ ns. in_box ns i) e ∙ h) in sym here ∙ is

-- ---- a split, and an act on each part

module _ {A : Type 0} (axis index : ℕ) (first second : Acting A) where
  -- the parts' refusal is the call's, where the array can be split so
  pub parts_decide : (ns : List ℕ) → point_refusal axis index ns ≡ None → split_refusal axis index first second ns ≡ parts_refusal first second (lower_shape ns axis index) (upper_shape ns axis index)
  parts_decide ns h = tests_pass (point_tests axis index ns) (parts_tests first second (lower_shape ns axis index) (upper_shape ns axis index)) h

  pub point_decides : (r : Option Cause) (ns : List ℕ) → is_some r ≡ true → r ≡ point_refusal axis index ns → r ≡ split_refusal axis index first second ns
  point_decides None ns some e = absurd cc
  point_decides (Some cause) ns some e = sym (tests_fail (point_tests axis index ns) (parts_tests first second (lower_shape ns axis index) (upper_shape ns axis index)) cause (sym e))

  -- an array is its parts end to end
  rejoined : (m : Meaning A) → NothingOutside m → (i : List ℕ) → m.at i ≡ inside m.shape i (joined_elements axis index (lower_meaning axis index m).at (upper_meaning axis index m).at i)
  rejoined m outside = joined_is m.shape axis index m.at (lower_meaning axis index m).at (upper_meaning axis index m).at outside (λ i h. rw h refl) (λ i h. rw h refl)

  -- what the acts leave in each part is what the call leaves of the array
  pub split_is : (r : Option Cause) (old new : Meaning A) → NothingOutside old → NothingOutside new → new.shape ≡ old.shape
      → ((i : List ℕ) → in_box (lower_shape old.shape axis index) i ≡ true → new.at i ≡ acted_elements_unless r first (lower_meaning axis index old) i)
      → ((i : List ℕ) → in_box (upper_shape old.shape axis index) i ≡ true → new.at (upper_index axis index i) ≡ acted_elements_unless r second (upper_meaning axis index old) i) → new ≡ unless_refused r (split_written axis index first second old) old
  split_is r old new outside outside' shape low high = by_refusal r joined_so
    where
      joined_so : (i : List ℕ) → new.at i ≡ inside old.shape i (joined_elements axis index (acted_elements_unless r first (lower_meaning axis index old)) (acted_elements_unless r second (upper_meaning axis index old)) i)
      joined_so = joined_is old.shape axis index new.at (acted_elements_unless r first (lower_meaning axis index old)) (acted_elements_unless r second (upper_meaning axis index old)) (λ i h. outside' i (ap (λ ns. in_box ns i) shape ∙ h)) low high

      by_refusal : (r : Option Cause) → ((i : List ℕ) → new.at i ≡ inside old.shape i (joined_elements axis index (acted_elements_unless r first (lower_meaning axis index old)) (acted_elements_unless r second (upper_meaning axis index old)) i)) → new ≡ unless_refused r (split_written axis index first second old) old
      by_refusal None so = same_meaning (split_written axis index first second old) new shape so
      by_refusal (Some cause) so = same_meaning old new shape (λ i. so i ∙ sym (rejoined old outside i))
