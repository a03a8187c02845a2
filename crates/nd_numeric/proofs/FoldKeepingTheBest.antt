-- What a fold that keeps the better of two leaves: the first of the best.
use Rattle.std.proofs.Common.{◌≡◌, ◌∙◌, refl, sym, ap, subst, ℕ, zero, suc, ◌<◌, ◌⊎◌, inl, inr, Bool, true, false, List, [], ◌∷◌, Option, Some, None, IfSome, ◌+◌, slice_get, if◌then◌else◌, arith, true≢false}
use Rattle.std.specs.List.{fold}
use Rattle.std.specs.Cmp.{IsTotalOrder, tied_itself}
use Rattle.std.specs.Ordering.{is_lt, is_gt, ordering_reverse}
use Rattle.std.specs.declared.cmp.Ordering.{Ordering}
use Rattle.std.specs.declared.cmp.Ordering.TheVariants.{Less, Equal, Greater}
use Rattle.nd_numeric.specs.IndexOfLeastAndGreatest.{beaten_before, beats_by, better_by, IsFirstBestOf}

-- a test of two that orders elements, but for equal ones
pub record IsStrict {A : Type 0} (beats : A → A → Bool) : Type 0 where
  pub never : (x : A) → beats x x ≡ false
  pub one_way : (x y : A) → beats x y ≡ true → beats y x ≡ false
  pub onward : (x y z : A) → beats x y ≡ true → beats z y ≡ false → beats x z ≡ true

module _ {A : Type 0} (order : A → A → Ordering) (total : IsTotalOrder order) where
  less_back : (x y : A) (r : Ordering) → order y x ≡ r → is_lt (order x y) ≡ true → r ≡ Greater
  less_back x y Less e h = absurd (true≢false (sym h ∙ ap is_lt (total.antisymm x y ∙ ap ordering_reverse e)))
  less_back x y Equal e h = absurd (true≢false (sym h ∙ ap is_lt (total.antisymm x y ∙ ap ordering_reverse e)))
  less_back x y Greater e h = refl

  is_less : (r : Ordering) → is_lt r ≡ true → r ≡ Less
  is_less Less h = refl
  is_less Equal h = absurd (true≢false (sym h))
  is_less Greater h = absurd (true≢false (sym h))

  onward_by : (x y z : A) (r : Ordering) → order z y ≡ r → is_lt (order x y) ≡ true → is_lt r ≡ false → is_lt (order x z) ≡ true
  onward_by x y z Less e h k = absurd (true≢false k)
  onward_by x y z Equal e h k =
      let back : order z x ≡ Greater = total.congr z y x e ∙ less_back x y (order y x) refl h in
      ap is_lt (total.antisymm x z ∙ ap ordering_reverse back)
  onward_by x y z Greater e h k =
      let next : order y z ≡ Less = total.antisymm y z ∙ ap ordering_reverse e in
      ap is_lt (total.trans x y z (is_less (order x y) h) next)

  pub less_strict : IsStrict (λ x y. is_lt (order x y))
  less_strict = record {
    never = λ x. ap is_lt (tied_itself total x);
    one_way = λ x y h. ap is_lt (less_back x y (order y x) refl h);
    onward = λ x y z h k. onward_by x y z (order z y) refl h k;
  }

module _ {A : Type 0} (order : A → A → Ordering) (total : IsTotalOrder order) where
  turned : (r : Ordering) → is_gt r ≡ is_lt (ordering_reverse r)
  turned Less = refl
  turned Equal = refl
  turned Greater = refl

  pub greater_is : (x y : A) → is_gt (order x y) ≡ is_lt (order y x)
  greater_is x y = turned (order x y) ∙ sym (ap is_lt (total.antisymm y x))

  pub greater_strict : IsStrict (λ x y. is_gt (order x y))
  greater_strict = record {
    never = λ x. ap is_gt (tied_itself total x);
    one_way = λ x y h. greater_is y x ∙ less_last x y (sym (greater_is x y) ∙ h);
    onward = λ x y z h k. greater_is x z ∙ last_onward x y z (sym (greater_is x y) ∙ h) (sym (greater_is z y) ∙ k);
  }
    where
      less_last : (x y : A) → is_lt (order y x) ≡ true → is_lt (order x y) ≡ false
      less_last x y h = (less_strict order total).one_way y x h

      last_onward : (x y z : A) → is_lt (order y x) ≡ true → is_lt (order y z) ≡ false → is_lt (order z x) ≡ true
      last_onward x y z h k = by_case (is_lt (order z x)) refl
        where
          by_case : (b : Bool) → is_lt (order z x) ≡ b → is_lt (order z x) ≡ true
          by_case true e = e
          by_case false e = absurd (true≢false (sym ((less_strict order total).onward y x z h e) ∙ k))

pub beats_strict : {A : Type 0} (order : A → A → Ordering) → IsTotalOrder order → (greatest : Bool) → IsStrict (beats_by order greatest)
beats_strict order total true = greater_strict order total
beats_strict order total false = less_strict order total

module _ {A : Type 0} (beats : A → A → Bool) (strict : IsStrict beats) where
  -- a better one than the element before the list is its first best one
  abbrev Found : List A → A → A → Type 0
  Found xs b r = (k : ℕ) × IsFirstBestOf beats xs r k × (beats r b ≡ true)

  -- the element before the list is left
  abbrev Stays : List A → A → A → Type 0
  Stays xs b r = (r ≡ b) × ((p : ℕ) → IfSome (slice_get xs p) (λ y. beats y b ≡ false))

  abbrev Left : List A → A → A → Type 0
  Left xs b r = Stays xs b r ⊎ Found xs b r

  none_more : (y : A) (ys : List A) (r : A) → beats y r ≡ false → ((p : ℕ) → IfSome (slice_get ys p) (λ x. beats x r ≡ false)) → (p : ℕ) → IfSome (slice_get (y ∷ ys) p) (λ x. beats x r ≡ false)
  none_more y ys r less none zero = less
  none_more y ys r less none (suc p) = none p

  before_more : (y : A) (ys : List A) (r : A) (k : ℕ) → beats r y ≡ true → ((p : ℕ) → p < k → IfSome (slice_get ys p) (λ x. beats r x ≡ true)) → (p : ℕ) → p < suc k → IfSome (slice_get (y ∷ ys) p) (λ x. beats r x ≡ true)
  before_more y ys r k more before zero h = more
  before_more y ys r k more before (suc p) h = before p (omega (arith, h))

  further : (y : A) (ys : List A) (r : A) (k : ℕ) → beats r y ≡ true → IsFirstBestOf beats ys r k → IsFirstBestOf beats (y ∷ ys) r (suc k)
  further y ys r k more found = record {
    stands = found.stands;
    best = none_more y ys r (strict.one_way r y more) found.best;
    beats_earlier = before_more y ys r k more found.beats_earlier;
  }

  at_once : (y : A) (ys : List A) (r : A) → Stays ys y r → IsFirstBestOf beats (y ∷ ys) r 0
  at_once y ys r stays = record {
    stands = ap Some (sym stays.0);
    best = subst (λ q. (p : ℕ) → IfSome (slice_get (y ∷ ys) p) (λ x. beats x q ≡ false)) (sym stays.0) (none_more y ys y (strict.never y) stays.1);
    beats_earlier = λ p h. absurd (omega (arith, h));
  }

  by_test : (y b : A) (ys : List A) (t : Bool) → beats y b ≡ t → Left ys y (fold (better_by beats) y ys) → Left ys b (fold (better_by beats) b ys) → Left (y ∷ ys) b (fold (better_by beats) (if t then y else b) ys)
  by_test y b ys true e (inl stays) other =
      inr (0, at_once y ys _ stays, subst (λ r. beats r b ≡ true) (sym stays.0) e)
  by_test y b ys true e (inr found) other =
      inr (suc found.0, further y ys _ found.0 found.2 found.1, strict.onward _ _ _ found.2 (strict.one_way _ _ e))
  by_test y b ys false e other (inl stays) = inl (stays.0, none_more y ys b e stays.1)
  by_test y b ys false e other (inr found) =
      inr (suc found.0, further y ys _ found.0 (strict.onward _ _ _ found.2 e) found.1, found.2)

  left : (xs : List A) (b : A) → Left xs b (fold (better_by beats) b xs)
  left [] b = inl (refl, λ p. tt)
  left (y ∷ ys) b = by_test y b ys (beats y b) refl (left ys y) (left ys b)

  -- a fold that keeps the better of two leaves the first best one
  pub fold_finds : (x : A) (xs : List A) → (k : ℕ) × IsFirstBestOf beats (x ∷ xs) (fold (better_by beats) x xs) k
  fold_finds x xs = found (left xs x)
    where
      found : Left xs x (fold (better_by beats) x xs) → (k : ℕ) × IsFirstBestOf beats (x ∷ xs) (fold (better_by beats) x xs) k
      found (inl stays) = (0, at_once x xs _ stays)
      found (inr more) = (suc more.0, further x xs _ more.0 more.2 more.1)

  -- the first item that the first best one doesn't beat is itself
  pub beaten_all_before : (xs : List A) (r : A) (k : ℕ) → IsFirstBestOf beats xs r k → beaten_before beats r xs ≡ k
  beaten_all_before xs r k found = walk xs k found.stands found.beats_earlier
    where
      walk : (ys : List A) (j : ℕ) → slice_get ys j ≡ Some r → ((p : ℕ) → p < j → IfSome (slice_get ys p) (λ y. beats r y ≡ true)) → beaten_before beats r ys ≡ j
      walk [] j here before = absurd cc
      walk (y ∷ ys) zero here before =
          let same : y ≡ r = ap (λ (o : Option A). elim o [ None ↦ r | Some z ↦ z ]) here in
          let not : beats r y ≡ false = ap (beats r) same ∙ strict.never r in
          rw not refl
      walk (y ∷ ys) (suc j) here before =
          let more : beats r y ≡ true = before 0 (omega arith) in
          let rest = walk ys j here (λ p below. before (suc p) (omega (arith, below))) in
          let next : beaten_before beats r ys + 1 ≡ suc j = omega (arith, rest) in
          rw more next
