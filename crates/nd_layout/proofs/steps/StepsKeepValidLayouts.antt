-- What every layout step gives: places, a valid layout, separation; and one step after another.
use Rattle.nd_layout.proofs.NamesFromOtherCrates.{◌≡◌, ℕ, zero, suc, ◌<◌, true, List, [], ◌∷◌, length, get_or, replicate, ℤ, refl, ap, ◌∙◌, subst, arith, nat_tests, in_box, size_of, place_of, IsSeparated, row_rank_below, positive-cons}
use Rattle.nd_layout.specs.ValidMemoryPlaces.{is_place, ReachesPlaces}
use Rattle.nd_layout.specs.ValidLayoutsAndSteps.{IsStep, IsViewStep, IsValid}

-- a shape with elements has the index of zeros
pub origin_in_box : (ns : List ℕ) → 0 < size_of ns → in_box ns (replicate (length ns) 0) ≡ true
origin_in_box [] some = refl
origin_in_box (n ∷ ns) some =
    let parts = positive-cons n ns some in
    grind (arith, nat_tests, parts.0, origin_in_box ns parts.1)

-- whose coordinates are all 0
pub zero_at : (n a : ℕ) → ◌≡◌ {A = ℕ} (get_or (replicate n 0) a 0) 0
zero_at zero a = refl
zero_at (suc n) zero = refl
zero_at (suc n) (suc a) = zero_at n a

module _ {offset : ℕ} {ns : List ℕ} {ss : List ℤ} {offset' : ℕ} {ns' : List ℕ} {ss' : List ℤ} {source : List ℕ → List ℕ} where
  pub step_seen : IsStep offset ns ss offset' ns' ss' source → IsViewStep offset ns ss offset' ns' ss' source
  step_seen step = record { within = step.within; same = step.same }

  pub seen_reaches : IsViewStep offset ns ss offset' ns' ss' source → ReachesPlaces offset ns ss → ReachesPlaces offset' ns' ss'
  seen_reaches seen reach i h = ap is_place (seen.same i h) ∙ reach (source i) (seen.within i h)

  pub step_reaches : IsStep offset ns ss offset' ns' ss' source → ReachesPlaces offset ns ss → ReachesPlaces offset' ns' ss'
  step_reaches step = seen_reaches (step_seen step)

  -- a new shape with elements comes from one with elements
  pub step_some : IsStep offset ns ss offset' ns' ss' source → 0 < size_of ns' → 0 < size_of ns
  step_some step some =
      let below = row_rank_below ns (source (replicate (length ns') 0)) (step.within (replicate (length ns') 0) (origin_in_box ns' some)) in
      omega (arith, below)

  pub step_none : IsStep offset ns ss offset' ns' ss' source → size_of ns ≡ 0 → size_of ns' ≡ 0
  step_none step none = at (size_of ns') refl
    where
      at : (n : ℕ) → size_of ns' ≡ n → n ≡ 0
      at zero e = refl
      at (suc n) e = let some = step_some step (omega (arith, e)) in absurd (omega (arith, none, some))

  -- separation is kept where it is asked for
  pub step_separated : {E : Type 0} → IsStep offset ns ss offset' ns' ss' source → (E → 0 < size_of ns → IsSeparated ns ss) → E → 0 < size_of ns' → IsSeparated ns' ss'
  step_separated step old e some = step.separated (old e (step_some step some))

  pub step_valid : IsStep offset ns ss offset' ns' ss' source → IsValid offset ns ss → IsValid offset' ns' ss'
  step_valid step valid = record {
    as_many = step.as_many;
    spread = let less = step.spread in omega (arith, less, valid.spread);
    checked = step.checked valid.checked;
    reach = step_reaches step valid.reach;
  }

  -- one step after another is a step, whose map is that of the second and then that of the first
  pub step_then : {offset'' : ℕ} {ns'' : List ℕ} {ss'' : List ℤ} {source' : List ℕ → List ℕ} → IsStep offset ns ss offset' ns' ss' source → IsStep offset' ns' ss' offset'' ns'' ss'' source' → IsStep offset ns ss offset'' ns'' ss'' (λ i. source (source' i))
  step_then {source' = source'} step next = record {
    within = λ i h. step.within (source' i) (next.within i h);
    same = λ i h. next.same i h ∙ step.same (source' i) (next.within i h);
    as_many = next.as_many;
    spread = let less = step.spread in let lesser = next.spread in omega (arith, less, lesser);
    checked = λ few. next.checked (step.checked few);
    separated = λ apart. next.separated (step.separated apart);
  }

  -- a map that agrees on the new box serves as well
  pub step_by : (source' : List ℕ → List ℕ) → ((i : List ℕ) → in_box ns' i ≡ true → source i ≡ source' i) → IsStep offset ns ss offset' ns' ss' source → IsStep offset ns ss offset' ns' ss' source'
  step_by source' agree step = record {
    within = λ i h. subst (λ j. in_box ns j ≡ true) (agree i h) (step.within i h);
    same = λ i h. step.same i h ∙ ap (place_of offset ss) (agree i h);
    as_many = step.as_many;
    spread = step.spread;
    checked = step.checked;
    separated = step.separated;
  }

-- a step from what is known to be the same layout
pub step_from : {offset offset' : ℕ} {ns ns' : List ℕ} {ss ss' : List ℤ} {f : ℕ} {n : List ℕ} {s : List ℤ} {source : List ℕ → List ℕ} → offset ≡ offset' → ns ≡ ns' → ss ≡ ss' → IsStep offset ns ss f n s source → IsStep offset' ns' ss' f n s source
step_from {f = f} {n = n} {s = s} {source = source} a b c step = subst (λ (z : ℕ × List ℕ × List ℤ). IsStep z.0 z.1 z.2 f n s source) (λ i. (a i, b i, c i)) step
