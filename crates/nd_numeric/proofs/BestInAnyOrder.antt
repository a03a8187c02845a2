-- Where the order of two elements tells whether they are the same, the better of two is kept in any order of a list.
use Rattle.std.proofs.Common.{◌≡◌, ◌∙◌, refl, sym, ap, Bool, true, false, if◌then◌else◌, true≢false}
use Rattle.std.specs.Cmp.{IsTotalOrder}
use Rattle.std.specs.FinMap.{IsAntisymmetric}
use Rattle.std.specs.Ordering.{is_lt, is_gt, ordering_reverse}
use Rattle.std.specs.declared.cmp.Ordering.{Ordering}
use Rattle.std.specs.declared.cmp.Ordering.TheVariants.{Less, Equal, Greater}
use Rattle.nd_array_core.specs.elements.ElementFolds.{IsOrderFree}
use Rattle.nd_numeric.specs.LeastAndGreatest.{lesser_by, greater_by}
use Rattle.nd_numeric.specs.IndexOfLeastAndGreatest.{better_by}
use Rattle.nd_numeric.proofs.FoldKeepingTheBest.{IsStrict, less_strict, greater_strict, greater_is}

module _ {A : Type 0} (beats : A → A → Bool) (strict : IsStrict beats) (same : (x y : A) → beats x y ≡ false → beats y x ≡ false → x ≡ y) where
  -- the first isn't beaten by the second
  abbrev Stands : A → A → Type 0
  Stands r x = beats x r ≡ false

  stands_on : (r m x : A) → Stands r m → Stands m x → Stands r x
  stands_on r m x h k = by_test (beats x r) refl
    where
      by_test : (t : Bool) → beats x r ≡ t → beats x r ≡ false
      by_test false e = e
      by_test true e = absurd (true≢false (sym (strict.onward x r m e h) ∙ k))

  over_first : (b x : A) → Stands (better_by beats b x) b
  over_first b x = by_test (beats x b) refl
    where
      by_test : (t : Bool) → beats x b ≡ t → beats b (if t then x else b) ≡ false
      by_test true e = strict.one_way x b e
      by_test false e = strict.never b

  over_second : (b x : A) → Stands (better_by beats b x) x
  over_second b x = by_test (beats x b) refl
    where
      by_test : (t : Bool) → beats x b ≡ t → beats x (if t then x else b) ≡ false
      by_test true e = strict.never x
      by_test false e = e

  either : (P : A → Type 0) (b x : A) → P b → P x → P (better_by beats b x)
  either P b x first second = by_test (beats x b)
    where
      by_test : (t : Bool) → P (if t then x else b)
      by_test true = second
      by_test false = first

  -- the best of three, the first with the second and then with the third
  abbrev best : A → A → A → A
  best b x y = better_by beats (better_by beats b x) y

  over_each : (b x y : A) → Stands (best b x y) (better_by beats (better_by beats b y) x)
  over_each b x y =
      let first = over_first (better_by beats b x) y in
      let onto_b = stands_on (best b x y) (better_by beats b x) b first (over_first b x) in
      let onto_x = stands_on (best b x y) (better_by beats b x) x first (over_second b x) in
      either (Stands (best b x y)) (better_by beats b y) x (either (Stands (best b x y)) b y onto_b (over_second (better_by beats b x) y)) onto_x

  pub better_is_free : IsOrderFree (better_by beats)
  better_is_free b x y = same (best b x y) (best b y x) (over_each b y x) (over_each b x y)

module _ {A : Type 0} (order : A → A → Ordering) (total : IsTotalOrder order) (distinct : IsAntisymmetric order) where
  neither_less : (x y : A) → is_lt (order x y) ≡ false → is_lt (order y x) ≡ false → x ≡ y
  neither_less x y h k = by_order (order x y) refl h
    where
      by_order : (r : Ordering) → order x y ≡ r → is_lt r ≡ false → x ≡ y
      by_order Less e less = absurd (true≢false less)
      by_order Equal e less = distinct x y e
      by_order Greater e less = absurd (true≢false (sym (ap is_lt (total.antisymm y x ∙ ap ordering_reverse e)) ∙ k))

  pub least_is_free : IsOrderFree (lesser_by order)
  least_is_free = better_is_free (λ x y. is_lt (order x y)) (less_strict order total) neither_less

  pub greatest_is_free : IsOrderFree (greater_by order)
  greatest_is_free = better_is_free (λ x y. is_gt (order x y)) (greater_strict order total)
      (λ x y h k. neither_less x y (sym (greater_is order total y x) ∙ k) (sym (greater_is order total x y) ∙ h))
