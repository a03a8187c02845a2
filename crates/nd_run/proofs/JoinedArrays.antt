-- Arrays joined with others: what passes the tests has no cause against it, and views of a list show it.
use Rattle.std.proofs.Common.{◌≡◌, ℕ, ◌+◌, ◌<◌, ◌≤◌, ◌^◌, Bool, true, false, cond, List, [], ◌∷◌, ◌++◌, length, get_or, set, take, map, Option, None, Some, Result, Ok, Err, refl, ap, sym, subst, ◌∙◌, arith}
use Rattle.std.specs.Prelude.{nat_eq, nat_le, nat_lt, ◌&&◌, OnOk, OnErr, is_ok}
use Rattle.std.specs.List.{insert, list_all}
use Rattle.std.specs.Cmp.{unsigned_Decides}
use Rattle.std.specs.Cmp.Lexicographic.{pointwise}
use Rattle.std.proofs.lemmas.Bool.{le-leb, lt-ltb, ltb-true}
use Rattle.std.proofs.lemmas.List.{map-append, set-get_or, take_more}
use Rattle.std.proofs.lemmas.List.Sums.{sum_by-cons}
use Rattle.std.proofs.lemmas.Slice.Eq.{slice_eq-Decides}
use Rattle.nd_shape_and_slice.specs.ShapesAndIndexOrders.{nonzero_product, HasCheckedSize}
use Rattle.nd_shape_and_slice.specs.declared.errors.ErrorKind.{ErrorKind}
use Rattle.nd_array_core.specs.ArrayMeaning.{Meaning}
use Rattle.nd_array_core.specs.growth.AppendEach.{lengths_along, ClonesOfEachAreEqual}
use Rattle.nd_stacking.specs.ConcatenateAndStack.{concatenation_refusal, concatenation_shape, is_checked_size, is_alike_but, stack_refusal, MayHaveAnotherAxis}
use Rattle.nd_stacking.proofs.ConcatenationShapeChecks.{cause, false_from_not}
use Rattle.nd_stacking.proofs.StackedAsConcatenated.{same_passes}
use Rattle.nd_steps.specs.declared.refusal_causes.Cause.{Cause}
use Rattle.nd_steps.specs.declared.refusal_causes.Cause.TheVariants as causes
use Rattle.nd_steps.specs.StepTestsAndShapes.{first_failed}
use Rattle.nd_run.specs.OutcomesOfCalls.{concatenate_tests, stack_tests}
use Rattle.nd_steps.proofs.StepChecks.{all_passed}

module _ {A : Type 0} (axis : ℕ) (m : Meaning A) (others : List (Meaning A)) where
  -- nothing is against the concatenation of an array and others that pass the tests
  pub concatenate_allowed : first_failed (concatenate_tests axis others m.shape) ≡ None → concatenation_refusal axis (m ∷ others) ≡ None
  concatenate_allowed e =
      let together = get_or m.shape axis 0 + lengths_along axis others in
      let on = all_passed (nat_lt axis (length m.shape)) causes.Axis _ e in
      let alike = all_passed (list_all (λ n. is_alike_but axis m.shape n.shape) others) causes.Shape _ on.1 in
      let size = all_passed (nat_lt (nonzero_product (set m.shape axis together)) (2 ^ 63)) causes.Overflow None alike.1 in
      let first : is_alike_but axis m.shape m.shape ≡ true = same_passes (set m.shape axis (get_or m.shape axis 0)) m.shape (set-get_or m.shape axis 0) in
      let all : list_all (λ n. is_alike_but axis m.shape n.shape) (m ∷ others) ≡ true = ap (λ b. b && list_all (λ n. is_alike_but axis m.shape n.shape) others) first ∙ alike.0 in
      let fits : is_checked_size (concatenation_shape axis (m ∷ others)) ≡ true = ap (λ n. is_checked_size (set m.shape axis n)) (sum_by-cons (λ n. get_or n.shape axis 0) m others) ∙ size.0 in
      ap (λ t. cause t (list_all (λ n. is_alike_but axis m.shape n.shape) (m ∷ others)) (is_checked_size (concatenation_shape axis (m ∷ others)))) on.0
      ∙ (ap (λ t. cause true t (is_checked_size (concatenation_shape axis (m ∷ others)))) all ∙ ap (cause true true) fits)

  -- nothing is against their stack, and there is room for an axis
  pub stack_allowed : first_failed (stack_tests axis others m.shape) ≡ None → (stack_refusal axis (m ∷ others) ≡ None) × (length m.shape < 32)
  stack_allowed e =
      let place = all_passed (nat_le axis (length m.shape)) causes.Axis _ e in
      let room = all_passed (nat_lt (length m.shape) 32) causes.TooManyAxes _ place.1 in
      let equal = all_passed (list_all (λ n. pointwise nat_eq n.shape m.shape) others) causes.Shape _ room.1 in
      let size = all_passed (nat_lt (nonzero_product (insert m.shape axis (length others + 1))) (2 ^ 63)) causes.Overflow None equal.1 in
      let first : pointwise nat_eq m.shape m.shape ≡ true = same_passes m.shape m.shape refl in
      let all : list_all (λ n. pointwise nat_eq n.shape m.shape) (m ∷ others) ≡ true = ap (λ b. b && list_all (λ n. pointwise nat_eq n.shape m.shape) others) first ∙ equal.0 in
      let count : length (m ∷ others) ≡ length others + 1 = omega arith in
      let fits : is_checked_size (insert m.shape axis (length (m ∷ others))) ≡ true = ap (λ n. is_checked_size (insert m.shape axis n)) count ∙ size.0 in (
        ap (λ t. cause t (list_all (λ n. pointwise nat_eq n.shape m.shape) (m ∷ others)) (is_checked_size (insert m.shape axis (length (m ∷ others))))) place.0
            ∙ (ap (λ t. cause true t (is_checked_size (insert m.shape axis (length (m ∷ others))))) all ∙ ap (cause true true) fits),
        ltb-true (length m.shape) 32 room.0,
      )

-- each clone of any element is that element, so it is in a list of arrays
pub clones_of_each : {A : Type 0} (is_clone : A → A → Type 0) (ms : List (Meaning A)) → ((x y : A) → is_clone x y → y ≡ x) → ClonesOfEachAreEqual is_clone ms
clones_of_each is_clone ms clones nth m at i x there y made = clones x y made

-- a cause where there is none
pub not_refused : (cause : Option ErrorKind) (kind : ErrorKind) → cause ≡ None → cause ≡ Some kind → ⊥
not_refused cause kind none some = differ kind (sym none ∙ some)
  where
    differ : (kind : ErrorKind) → ◌≡◌ {A = Option ErrorKind} None (Some kind) → ⊥
    differ kind e = cc

-- one more view after those of an array and of the others so far
pub viewed_more : {X Y Z : Type 0} (f : X → Y) (g : Z → Y) (vs : List X) (v : X) (m : Y) (zs : List Z) (n : ℕ) (z : Z) → n < length zs → z ≡ get_or zs n z → map f vs ≡ m ∷ map g (take n zs) → f v ≡ g z → map f (vs ++ v ∷ []) ≡ m ∷ map g (take (n + 1) zs)
viewed_more f g vs v m zs n z lt at before is =
    map-append f vs (v ∷ [])
    ∙ (ap (λ l. l ++ f v ∷ []) before
    ∙ (ap (λ y. m ∷ (map g (take n zs) ++ y ∷ [])) (is ∙ ap g at)
    ∙ ap (λ l. m ∷ l) (sym (map-append g (take n zs) (get_or zs n z ∷ [])) ∙ ap (map g) (sym (take_more zs n z lt)))))

-- where an array has few axes, there is room for one more
pub may_have_another_axis : {A : Type 0} (m : Meaning A) (others : List (Meaning A)) → length m.shape < 32 → MayHaveAnotherAxis (λ n. nat_le n 32) (m ∷ others)
may_have_another_axis {A} m others few k at = let e : m ≡ k = cc in le-leb (length k.shape + 1) 32 (subst (λ (n : Meaning A). length n.shape + 1 ≤ 32) e (omega (arith, few)))

-- whether lengths have a checked size, by the answer of who computes it
pub size_tested : {E : Type 0} (r : Result ℕ E) (ns : List ℕ) → OnOk r (HasCheckedSize ns) → OnErr r (HasCheckedSize ns → ⊥) → is_ok r ≡ nat_lt (nonzero_product ns) (2 ^ 63)
size_tested (Ok size) ns fits large = sym (lt-ltb (nonzero_product ns) (2 ^ 63) fits)
size_tested (Err error) ns fits large = sym (false_from_not (nonzero_product ns) (2 ^ 63) large)
