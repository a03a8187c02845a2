-- Two axes merged into one: a layout step.
use Rattle.nd_layout.proofs.NamesFromOtherCrates.{◌≡◌, ℕ, zero, suc, ◌+◌, ◌-◌, ◌*◌, ◌/◌, ◌%◌, ◌<◌, ◌≤◌, max, min, Bool, true, false, List, length, get_or, set, ltb, leb, cond, ℤ, pos, ◌+ℤ◌, ◌*ℤ◌, nat_abs, refl, ap, sym, ◌∙◌, subst, arith, ⊎_elim, ◌⊎◌, inl, inr, remove, mul_comm, mul_assoc, eq_of_mul-eq-mul_left, mul-le-mul_left, mul-le-mul_right, div-lt_iff_lt-mul, div-eq_of_lt, mod-eq_of_lt, mod-lt, div-add-mod, div-one, cases_lt, cases_eq, lt-ltb, le-ltb, le-leb, lt-leb, length-set, get_or-set_same, get_or-set_other, set-get_or, set-set, set_comm, swap_is, length-swap, in_box, nonzero_product, HasCheckedSize, displacement_of, span_of, span_within, magnitude_at, IsSeparated, row_rank_below, length-in_box, coordinate_below, in_box-set}
use Rattle.std.proofs.Common.{swap}
use Rattle.nd_layout.proofs.AxisChange.{span_of-at, span_within-at, counted_cases, others_below, separated_by_others, on_axis, le-mul}
use Rattle.nd_layout.proofs.reshape_lemmas.SeparationOfJoinedAxes.{joined_reach, le_reach}
use Rattle.nd_layout.proofs.Integers.{sums, abs-mul, mul-mul, add-mul, zero-mul}
use Rattle.nd_layout.proofs.DisplacementChanges.{displacement_of-set}
use Rattle.nd_layout.proofs.SizesOfChangedAxes.{nonzero_product-set, size_of-set, length-le-product}
use Rattle.nd_layout.proofs.reshape_lemmas.RegroupedAxes.{both_positive}
use Rattle.nd_layout.specs.MergedAxes.{CanMerge, ShortTaken, ShortInto, GoesOn, merged_shape, merged_strides, merged_index}
use Rattle.nd_layout.specs.LayoutStepsOfCalls.{Placement, IsStepOf}
use Rattle.nd_layout.specs.ValidLayoutsAndSteps.{IsStep}
use Rattle.nd_layout.proofs.steps.AxisCollapseSplitInvert.{IsAxisChange, axis_is_step}
use Rattle.nd_layout.proofs.steps.SwappedOrReversedAxes.{swap_is_step}
use Rattle.nd_layout.proofs.steps.StepsKeepValidLayouts.{step_then, step_by}
use Rattle.nd_layout.proofs.ReachSumLoops.{mul-pred}

-- ---- what the counts of two axes and of all others make of one another
-- the axis that both become is counted as both were, unless the magnitude lies between theirs
merged_count : (n m x g rest : ℕ) → 1 < n → 1 < m → (x ≤ g → g < n * x → ⊥) → cond (leb x g) ((n * m - 1) * x) 0 + rest ≡ cond (leb x g) ((n - 1) * x) 0 + (cond (leb (n * x) g) ((m - 1) * (n * x)) 0 + rest)
merged_count n m x g rest long long' between =
    let reach = joined_reach n m x (omega arith) (omega arith) in
    let more = le-mul x n (omega arith) in
    ⊎_elim
    (λ near. ⊎_elim
    (λ far. omega (arith, near.1, far.1, reach, (counted_at x g ((n - 1) * x) near.0)))
    (λ beyond. absurd (between near.0 beyond.0))
    (counted_cases (n * x) g ((m - 1) * (n * x))))
    (λ out. ⊎_elim
    (λ far. absurd (omega (arith, far.0, out.0, more)))
    (λ beyond. omega (arith, out.1, beyond.1, (counted_past x g ((n - 1) * x) out.0)))
    (counted_cases (n * x) g ((m - 1) * (n * x))))
    (counted_cases x g ((n * m - 1) * x))
  where
    counted_at : (x g r : ℕ) → x ≤ g → cond (leb x g) r 0 ≡ r
    counted_at x g r under = ap (λ b. cond b r 0) (le-leb x g under)

    counted_past : (x g r : ℕ) → g < x → cond (leb x g) r 0 ≡ 0
    counted_past x g r over = ap (λ b. cond b r 0) (lt-leb x g over)

-- of a number of b's steps: how many whole lengths of b, and the rest
whole_and_rest : (k n : ℕ) (z : ℤ) → pos k *ℤ z ≡ (pos (k / n) *ℤ (pos n *ℤ z)) +ℤ (pos (k % n) *ℤ z)
whole_and_rest k n z =
    let parts : k ≡ (k / n) * n + k % n = let e = div-add-mod k n in let c = mul_comm n (k / n) in omega (arith, e, c) in
    ap (λ j. pos j *ℤ z) parts ∙ add-mul ((k / n) * n) (k % n) z ∙ ap (λ w. w +ℤ (pos (k % n) *ℤ z)) (sym (mul-mul (k / n) n z))

nothing_times : (k : ℕ) (z : ℤ) → k ≡ 0 → pos k *ℤ z ≡ pos 0
nothing_times k z e = ap (λ j. pos j *ℤ z) e ∙ zero-mul z

-- ---- both axes are longer than 1, and the one steps where the other's steps end
module _ (offset : ℕ) (ns : List ℕ) (ss : List ℤ) (a b : ℕ) (many : length ss ≡ length ns) (on_a : a < length ns) (on_b : b < length ns) (two : a ≡ b → ⊥) (long : 1 < get_or ns b 0) (long' : 1 < get_or ns a 0) (goes : get_or ss a (pos 0) ≡ pos (get_or ns b 0) *ℤ get_or ss b (pos 0)) where
  other : b ≡ a → ⊥
  other e = two (sym e)

  abbrev both : ℕ
  both = get_or ns b 0 * get_or ns a 0

  abbrev grown : List ℕ
  grown = set ns b both

  abbrev merged : List ℕ
  merged = set grown a 1

  as_long : length merged ≡ length ns
  as_long = length-set grown a 1 ∙ length-set ns b both

  on_grown : a < length grown
  on_grown = subst (λ l. a < l) (sym (length-set ns b both)) on_a

  on_merged : b < length merged
  on_merged = subst (λ l. b < l) (sym as_long) on_b

  -- b's length, and a's
  length_of_b : get_or merged b 0 ≡ both
  length_of_b = get_or-set_other grown a b 1 0 other ∙ get_or-set_same ns b both 0 on_b

  length_of_a : get_or merged a 0 ≡ 1
  length_of_a = get_or-set_same grown a 1 0 on_grown

  rests_of_a : get_or (set ns b 1) a 0 ≡ get_or ns a 0
  rests_of_a = get_or-set_other ns b a 1 0 two

  back : set (set merged a (get_or ns a 0)) b (get_or ns b 0) ≡ ns
  back =
      ap (λ l. set l b (get_or ns b 0)) (set-set grown a 1 (get_or ns a 0))
      ∙ set_comm grown a b (get_or ns a 0) (get_or ns b 0) two
      ∙ ap (λ l. set l a (get_or ns a 0)) (set-set ns b both (get_or ns b 0) ∙ set-get_or ns b 0)
      ∙ set-get_or ns a 0

  merged_within : (i : List ℕ) → in_box merged i ≡ true → in_box ns (merged_index ns a b i) ≡ true
  merged_within i h =
      let n = get_or ns b 0 in
      let k = get_or i b 0 in
      let below : k < both = subst (λ l. k < l) length_of_b (coordinate_below merged i b h on_merged) in
      let whole : k / n < get_or ns a 0 = (div-lt_iff_lt-mul {k = n} {x = k} {y = get_or ns a 0} (omega (arith, long))).1 (omega (arith, below, mul_comm n (get_or ns a 0))) in
      let first = in_box-set merged i a (get_or ns a 0) (k / n) h whole in
      let second = in_box-set (set merged a (get_or ns a 0)) (set i a (k / n)) b n (k % n) first (mod-lt k (omega (arith, long))) in
      subst (λ l. in_box l (merged_index ns a b i) ≡ true) back second

  merged_displacement : (i : List ℕ) → in_box merged i ≡ true → displacement_of ss i ≡ displacement_of ss (merged_index ns a b i)
  merged_displacement i h =
      let n = get_or ns b 0 in
      let s = get_or ss b (pos 0) in
      let k = get_or i b 0 in
      let j = set i a (k / n) in
      let as_many : length i ≡ length ss = (length-in_box merged i h ∙ as_long) ∙ sym many in
      let as_many' : length j ≡ length ss = length-set i a (k / n) ∙ as_many in
      let none : get_or i a 0 ≡ 0 = let below = subst (λ l. get_or i a 0 < l) length_of_a (coordinate_below merged i a h (subst (λ l. a < l) (sym as_long) on_a)) in omega (arith, below) in
      let first : displacement_of ss j +ℤ (pos (get_or i a 0) *ℤ get_or ss a (pos 0)) ≡ displacement_of ss i +ℤ (pos (k / n) *ℤ get_or ss a (pos 0)) =
      subst (λ ts. displacement_of ts j +ℤ (pos (get_or i a 0) *ℤ get_or ss a (pos 0)) ≡ displacement_of ss i +ℤ (pos (k / n) *ℤ get_or ss a (pos 0))) (set-get_or ss a (pos 0)) (displacement_of-set ss i a (get_or ss a (pos 0)) (k / n) as_many (subst (λ l. a < l) (sym many) on_a)) in
      let second : displacement_of ss (set j b (k % n)) +ℤ (pos (get_or j b 0) *ℤ s) ≡ displacement_of ss j +ℤ (pos (k % n) *ℤ s) =
      subst (λ ts. displacement_of ts (set j b (k % n)) +ℤ (pos (get_or j b 0) *ℤ s) ≡ displacement_of ss j +ℤ (pos (k % n) *ℤ s)) (set-get_or ss b (pos 0)) (displacement_of-set ss j b s (k % n) as_many' (subst (λ l. b < l) (sym many) on_b)) in
      let still : pos (get_or j b 0) *ℤ s ≡ pos k *ℤ s = ap (λ c. pos c *ℤ s) (get_or-set_other i a b (k / n) 0 other) in
      let nothing = nothing_times (get_or i a 0) (get_or ss a (pos 0)) none in
      let parts = whole_and_rest k n s in
      let steps : pos (k / n) *ℤ get_or ss a (pos 0) ≡ pos (k / n) *ℤ (pos n *ℤ s) = ap (λ z. pos (k / n) *ℤ z) goes in
      omega (arith, sums, first, second, still, nothing, parts, steps)

  -- ---- the reach of all others
  abbrev rest : List ℕ
  rest = set (set ns b 1) a 1

  without_b : set merged b 1 ≡ rest
  without_b = set_comm grown a b 1 1 two ∙ ap (λ l. set l a 1) (set-set ns b both 1)

  merged_span : span_of merged ss ≡ span_of ns ss
  merged_span =
      let x = nat_abs (get_or ss b (pos 0)) in
      let n = get_or ns b 0 in
      let new : span_of merged ss ≡ (both - 1) * x + span_of rest ss =
      subst (λ l. span_of merged ss ≡ (both - 1) * x + span_of l ss) without_b (subst (λ l. span_of merged ss ≡ (l - 1) * x + span_of (set merged b 1) ss) length_of_b (span_of-at merged ss b (many ∙ sym as_long) on_merged)) in
      let old = span_of-at ns ss b many on_b in
      let old' : span_of (set ns b 1) ss ≡ (get_or ns a 0 - 1) * nat_abs (get_or ss a (pos 0)) + span_of rest ss =
      subst (λ l. span_of (set ns b 1) ss ≡ (l - 1) * nat_abs (get_or ss a (pos 0)) + span_of rest ss) rests_of_a (span_of-at (set ns b 1) ss a (many ∙ sym (length-set ns b 1)) (subst (λ l. a < l) (sym (length-set ns b 1)) on_a)) in
      let steps : nat_abs (get_or ss a (pos 0)) ≡ n * x = ap nat_abs goes ∙ abs-mul n (get_or ss b (pos 0)) in
      let far : (get_or ns a 0 - 1) * nat_abs (get_or ss a (pos 0)) ≡ (get_or ns a 0 - 1) * (n * x) = ap (λ v. (get_or ns a 0 - 1) * v) steps in
      let reach = joined_reach n (get_or ns a 0) x (omega (arith, long)) (omega (arith, long')) in
      omega (arith, new, old, old', far, reach)

  merged_checked : HasCheckedSize ns → HasCheckedSize merged
  merged_checked few =
      let n = get_or ns b 0 in
      let m = get_or ns a 0 in
      let at_b = nonzero_product-set ns b both on_b in
      let at_b' = subst (λ l. nonzero_product l ≡ max 1 n * nonzero_product (remove ns b)) (set-get_or ns b 0) (nonzero_product-set ns b n on_b) in
      let at_a = nonzero_product-set grown a 1 on_grown in
      let at_a' = subst (λ l. nonzero_product l ≡ max 1 m * nonzero_product (remove grown a)) (grown_a) (nonzero_product-set grown a m on_grown) in
      cancelled n m (nonzero_product (remove ns b)) (nonzero_product (remove grown a)) (nonzero_product ns) (nonzero_product merged) (nonzero_product grown) long long' at_b at_b' at_a at_a' few
    where
      grown_a : set grown a (get_or ns a 0) ≡ grown
      grown_a = ap (λ v. set grown a v) (sym (get_or-set_other ns b a both 0 two)) ∙ set-get_or grown a 0

      least : (n : ℕ) → 1 < n → max 1 n ≡ n
      least n h = omega (arith, h)

      cancelled : (n m r q old new mid : ℕ) → 1 < n → 1 < m → mid ≡ max 1 (n * m) * r → old ≡ max 1 n * r → new ≡ max 1 1 * q → mid ≡ max 1 m * q → old < 9223372036854775808 → new < 9223372036854775808
      cancelled n m r q old new mid hn hm e1 e2 e3 e4 few =
          let wide : n * m ≡ m * n = mul_comm n m in
          let some = le-mul n m (omega (arith, hm)) in
          let both = least (n * m) (omega (arith, some, hn, wide)) ∙ wide in
          let is : m * q ≡ m * (n * r) = ap (λ v. v * q) (sym (least m hm)) ∙ sym e4 ∙ e1 ∙ ap (λ v. v * r) both ∙ mul_assoc m n r in
          let same : q ≡ n * r = eq_of_mul-eq-mul_left m (omega (arith, hm)) q (n * r) is in
          let before = e2 ∙ ap (λ v. v * r) (least n hn) in
          omega (arith, e3, same, before, few)

  -- b still steps further than the others reach
  apart_at_b : IsSeparated ns ss → span_within (magnitude_at ss b) (set merged b 1) ss < magnitude_at ss b
  apart_at_b apart =
      let below = others_below ns ss many apart b long in
      let parts = span_within-at (magnitude_at ss b) (set ns b 1) ss a (many ∙ sym (length-set ns b 1)) (subst (λ l. a < l) (sym (length-set ns b 1)) on_a) in
      subst (λ l. span_within (magnitude_at ss b) l ss < magnitude_at ss b) (sym without_b) (omega (arith, below, parts))

  module _ (k : ℕ) (not_a : k ≡ a → ⊥) (not_b : k ≡ b → ⊥) (wide : 1 < get_or ns k 0) (apart : IsSeparated ns ss) where
    abbrev without_k : List ℕ
    without_k = set ns k 1

    abbrev others_rest : List ℕ
    others_rest = set (set without_k b 1) a 1

    on_others : (c : ℕ) → c < length ns → c < length without_k
    on_others c on = subst (λ l. c < l) (sym (length-set ns k 1)) on

    still_b : get_or without_k b 0 ≡ get_or ns b 0
    still_b = get_or-set_other ns k b 1 0 (λ e. not_b (sym e))

    still_a : get_or (set without_k b 1) a 0 ≡ get_or ns a 0
    still_a = get_or-set_other without_k b a 1 0 two ∙ get_or-set_other ns k a 1 0 (λ e. not_a (sym e))

    -- no magnitude lies between
    none_between : nat_abs (get_or ss b (pos 0)) ≤ magnitude_at ss k → magnitude_at ss k < get_or ns b 0 * nat_abs (get_or ss b (pos 0)) → ⊥
    none_between near before =
        let x = nat_abs (get_or ss b (pos 0)) in
        let n = get_or ns b 0 in
        let y = nat_abs (get_or ss a (pos 0)) in
        let steps : y ≡ n * x = ap nat_abs goes ∙ abs-mul n (get_or ss b (pos 0)) in
        let below = others_below ns ss many apart a long' in
        let at_b = span_within-at y (set ns a 1) ss b (many ∙ sym (length-set ns a 1)) (subst (λ l. b < l) (sym (length-set ns a 1)) on_b) in
        let at_k = span_within-at y (set (set ns a 1) b 1) ss k (many ∙ sym (length-set (set ns a 1) b 1 ∙ length-set ns a 1)) (subst (λ l. k < l) (sym (length-set (set ns a 1) b 1 ∙ length-set ns a 1)) (on_axis ns k wide)) in
        let length_b : get_or (set ns a 1) b 0 ≡ n = get_or-set_other ns a b 1 0 other in
        let length_k : get_or (set (set ns a 1) b 1) k 0 ≡ get_or ns k 0 = get_or-set_other (set ns a 1) b k 1 0 not_b ∙ get_or-set_other ns a k 1 0 not_a in
        let more = le-mul x n (omega (arith, long)) in
        let counted_b : cond (leb x y) ((get_or (set ns a 1) b 0 - 1) * x) 0 ≡ (n - 1) * x = ap (λ t. cond t ((get_or (set ns a 1) b 0 - 1) * x) 0) (le-leb x y (omega (arith, steps, more))) ∙ ap (λ v. (v - 1) * x) length_b in
        let counted_k : cond (leb (magnitude_at ss k) y) ((get_or (set (set ns a 1) b 1) k 0 - 1) * magnitude_at ss k) 0 ≡ (get_or ns k 0 - 1) * magnitude_at ss k = ap (λ t. cond t ((get_or (set (set ns a 1) b 1) k 0 - 1) * magnitude_at ss k) 0) (le-leb (magnitude_at ss k) y (omega (arith, steps, before))) ∙ ap (λ v. (v - 1) * magnitude_at ss k) length_k in
        let own = le_reach (get_or ns k 0) (magnitude_at ss k) wide in
        let all = mul-pred n x (omega (arith, long)) in
        omega (arith, below, at_b, at_k, counted_b, counted_k, own, all, steps, near)

    apart_from_others : span_within (magnitude_at ss k) (set merged k 1) ss < magnitude_at ss k
    apart_from_others =
        let g = magnitude_at ss k in
        let x = nat_abs (get_or ss b (pos 0)) in
        let n = get_or ns b 0 in
        let m = get_or ns a 0 in
        let y = nat_abs (get_or ss a (pos 0)) in
        let steps : y ≡ n * x = ap nat_abs goes ∙ abs-mul n (get_or ss b (pos 0)) in
        let moved : set merged k 1 ≡ set (set without_k b both) a 1 = set_comm grown a k 1 1 (λ e. not_a (sym e)) ∙ ap (λ l. set l a 1) (set_comm ns b k both 1 (λ e. not_b (sym e))) in
        let mixed = set (set without_k b both) a 1 in
        let mixed_long : length mixed ≡ length ns = length-set (set without_k b both) a 1 ∙ (length-set without_k b both ∙ length-set ns k 1) in
        let mixed_b : get_or mixed b 0 ≡ both = get_or-set_other (set without_k b both) a b 1 0 other ∙ get_or-set_same without_k b both 0 (on_others b on_b) in
        let mixed_rest : set mixed b 1 ≡ others_rest = set_comm (set without_k b both) a b 1 1 two ∙ ap (λ l. set l a 1) (set-set without_k b both 1) in
        let new : span_within g mixed ss ≡ cond (leb x g) ((both - 1) * x) 0 + span_within g others_rest ss =
        subst (λ l. span_within g mixed ss ≡ cond (leb x g) ((both - 1) * x) 0 + span_within g l ss) mixed_rest (subst (λ l. span_within g mixed ss ≡ cond (leb x g) ((l - 1) * x) 0 + span_within g (set mixed b 1) ss) mixed_b (span_within-at g mixed ss b (many ∙ sym mixed_long) (subst (λ l. b < l) (sym mixed_long) on_b))) in
        let below = others_below ns ss many apart k wide in
        let old : span_within g without_k ss ≡ cond (leb x g) ((n - 1) * x) 0 + span_within g (set without_k b 1) ss =
        subst (λ l. span_within g without_k ss ≡ cond (leb x g) ((l - 1) * x) 0 + span_within g (set without_k b 1) ss) still_b (span_within-at g without_k ss b (many ∙ sym (length-set ns k 1)) (on_others b on_b)) in
        let others_long : length (set without_k b 1) ≡ length ns = length-set without_k b 1 ∙ length-set ns k 1 in
        let old' : span_within g (set without_k b 1) ss ≡ cond (leb (n * x) g) ((m - 1) * (n * x)) 0 + span_within g others_rest ss =
        subst (λ v. span_within g (set without_k b 1) ss ≡ cond (leb v g) ((m - 1) * v) 0 + span_within g others_rest ss) steps
        (subst (λ l. span_within g (set without_k b 1) ss ≡ cond (leb y g) ((l - 1) * y) 0 + span_within g others_rest ss) still_a (span_within-at g (set without_k b 1) ss a (many ∙ sym others_long) (subst (λ l. a < l) (sym others_long) on_a))) in
        let count = merged_count n m x g (span_within g others_rest ss) long long' none_between in
        subst (λ l. span_within g l ss < g) (sym moved) (omega (arith, new, below, old, old', count))

  merged_apart : IsSeparated ns ss → IsSeparated merged ss
  merged_apart apart =
      separated_by_others merged ss (many ∙ sym as_long)
      (λ k wide. ⊎_elim
      (λ (is_a : k ≡ a). absurd (let one = subst (λ j. 1 < get_or merged j 0) is_a wide in omega (arith, one, length_of_a)))
      (λ (not_a : k ≡ a → ⊥). ⊎_elim
      (λ (is_b : k ≡ b). subst (λ j. span_within (magnitude_at ss j) (set merged j 1) ss < magnitude_at ss j) (sym is_b) (apart_at_b apart))
      (λ (not_b : k ≡ b → ⊥).
      let same : get_or merged k 0 ≡ get_or ns k 0 = get_or-set_other grown a k 1 0 not_a ∙ get_or-set_other ns b k both 0 not_b in
      apart_from_others k not_a not_b (subst (λ l. 1 < l) same wide) apart)
      (cases_eq k b))
      (cases_eq k a))

  pub long_merge_is_step : IsStep offset ns ss offset merged ss (merged_index ns a b)
  long_merge_is_step = record {
    within = merged_within;
    same = λ i h. ap (λ z. pos offset +ℤ z) (merged_displacement i h);
    as_many = many ∙ sym as_long;
    spread = omega (arith, merged_span);
    checked = merged_checked;
    separated = merged_apart;
  }

-- ---- one of the axes has length 1 at most
module _ (offset : ℕ) (ns : List ℕ) (ss : List ℤ) (a b : ℕ) (many : length ss ≡ length ns) (on_a : a < length ns) (on_b : b < length ns) where
  -- nothing is left: both get length 0, and any strides
  module _ (none : get_or ns b 0 * get_or ns a 0 ≡ 0) (t u : ℤ) where
    emptied : (n : ℕ) (s v : ℤ) → IsAxisChange n s 0 v (λ c. c)
    emptied n s v = record {
      below = λ c below. absurd (omega (arith, below));
      moves = λ c below. absurd (omega (arith, below));
      few = omega arith;
      steps = λ long. absurd (omega (arith, long));
    }

    no_index : {X : Type 0} → (ms : List ℕ) (c : ℕ) → c < length ms → (i : List ℕ) → in_box (set ms c 0) i ≡ true → X
    no_index ms c on i h = let below = row_rank_below (set ms c 0) i h in let z = size_of-set ms c 0 on in absurd (omega (arith, below, z))

    pub none_left_is_step : IsStep offset ns ss offset (merged_shape ns a b) (set (set ss b u) a t) (merged_index ns a b)
    none_left_is_step =
        let first = axis_is_step ns ss b many on_b 0 u (λ c. c) (emptied (get_or ns b 0) (get_or ss b (pos 0)) u) offset offset (λ some. absurd (let z = size_of-set ns b 0 on_b in omega (arith, some, z))) in
        let on_a' = subst (λ l. a < l) (sym (length-set ns b 0)) on_a in
        let many' = length-set ss b u ∙ (many ∙ sym (length-set ns b 0)) in
        let second = axis_is_step (set ns b 0) (set ss b u) a many' on_a' 0 t (λ c. c) (emptied (get_or (set ns b 0) a 0) (get_or (set ss b u) a (pos 0)) t) offset offset (λ some. absurd (let z = size_of-set (set ns b 0) a 0 on_a' in omega (arith, some, z))) in
        let shape : set (set ns b 0) a 0 ≡ merged_shape ns a b = sym (ap (λ (p : ℕ). set (set ns b p) a (min 1 p)) none) in
        subst (λ ms. IsStep offset ns ss offset ms (set (set ss b u) a t) (merged_index ns a b)) shape
        (step_by (merged_index ns a b) (λ i h. no_index (set ns b 0) a on_a' i h) (step_then first second))

  -- the second axis takes the place of the first
  module _ (one : get_or ns b 0 ≡ 1) (some : 1 ≤ get_or ns a 0) (two : a ≡ b → ⊥) where
    exchanged_shape : swap ns a b ≡ merged_shape ns a b
    exchanged_shape =
        sym (swap_is ns a b 0 on_a on_b)
        ∙ set_comm ns a b (get_or ns b 0) (get_or ns a 0) two
        ∙ shaped (get_or ns b 0) (get_or ns a 0) one some
      where
        shaped : (n m : ℕ) → n ≡ 1 → 1 ≤ m → set (set ns b m) a n ≡ set (set ns b (n * m)) a (min 1 (n * m))
        shaped n m e more =
            let p : n * m ≡ m = ap (λ v. v * m) e ∙ omega arith in
            let q : min 1 m ≡ n = omega (arith, e, more) in
            sym (ap (λ (v : ℕ). set (set ns b v) a (min 1 v)) p ∙ ap (λ v. set (set ns b m) a v) q)

    exchanged_index : (i : List ℕ) → in_box (swap ns a b) i ≡ true → swap i a b ≡ merged_index ns a b i
    exchanged_index i h =
        let k = get_or i b 0 in
        let n = get_or ns b 0 in
        let long : length (swap ns a b) ≡ length ns = length-swap ns a b in
        let as_many : length i ≡ length ns = length-in_box (swap ns a b) i h ∙ long in
        let at_a : get_or (swap ns a b) a 0 ≡ n = ap (λ l. get_or l a 0) (sym (swap_is ns a b 0 on_a on_b)) ∙ (get_or-set_other (set ns a n) b a (get_or ns a 0) 0 two ∙ get_or-set_same ns a n 0 on_a) in
        let below = coordinate_below (swap ns a b) i a h (omega (arith, long, on_a)) in
        let none : get_or i a 0 ≡ 0 = omega (arith, below, at_a, one) in
        let whole : k / n ≡ k = ap (λ v. k / v) one ∙ div-one k in
        let less = mod-lt k {m = n} (omega (arith, one)) in
        let rest : k % n ≡ get_or i a 0 = omega (arith, less, one, none) in
        sym (ap (λ v. set (set i a v) b (k % n)) whole ∙ ap (λ v. set (set i a k) b v) rest ∙ swap_is i a b 0 (omega (arith, as_many, on_a)) (omega (arith, as_many, on_b)))

    pub exchange_is_step : IsStep offset ns ss offset (merged_shape ns a b) (swap ss a b) (merged_index ns a b)
    exchange_is_step =
        subst (λ ms. IsStep offset ns ss offset ms (swap ss a b) (merged_index ns a b)) exchanged_shape
        (step_by (merged_index ns a b) exchanged_index (swap_is_step offset ns ss a b many on_a on_b))

  -- all stays
  module _ (one : get_or ns a 0 ≡ 1) (some : 1 ≤ get_or ns b 0) where
    kept_shape : ns ≡ merged_shape ns a b
    kept_shape = sym (shaped (get_or ns b 0) (get_or ns a 0) one some ∙ ap (λ l. set l a (get_or ns a 0)) (set-get_or ns b 0) ∙ set-get_or ns a 0)
      where
        shaped : (n m : ℕ) → m ≡ 1 → 1 ≤ n → set (set ns b (n * m)) a (min 1 (n * m)) ≡ set (set ns b n) a m
        shaped n m e more =
            let p : n * m ≡ n = ap (λ v. n * v) e ∙ omega arith in
            let q : min 1 n ≡ m = omega (arith, e, more) in
            ap (λ (v : ℕ). set (set ns b v) a (min 1 v)) p ∙ ap (λ v. set (set ns b n) a v) q

    kept_index : (i : List ℕ) → in_box ns i ≡ true → i ≡ merged_index ns a b i
    kept_index i h =
        let k = get_or i b 0 in
        let n = get_or ns b 0 in
        let none : get_or i a 0 ≡ 0 = let below = coordinate_below ns i a h on_a in omega (arith, below, one) in
        let less = coordinate_below ns i b h on_b in
        let whole : k / n ≡ get_or i a 0 = div-eq_of_lt less ∙ sym none in
        sym (ap (λ v. set (set i a v) b (k % n)) whole ∙ ap (λ v. set (set i a (get_or i a 0)) b v) (mod-eq_of_lt less) ∙ ap (λ l. set l b k) (set-get_or i a 0) ∙ set-get_or i b 0)

    pub kept_is_step : IsStep offset ns ss offset (merged_shape ns a b) ss (merged_index ns a b)
    kept_is_step =
        subst (λ ms. IsStep offset ns ss offset ms ss (merged_index ns a b)) kept_shape
        (step_by (merged_index ns a b) kept_index (record { within = λ i h. h; same = λ i h. refl; as_many = many; spread = omega arith; checked = λ few. few; separated = λ apart. apart }))

  -- ---- with the strides of the merge
  abbrev IsMerge : List ℤ → Type 0
  IsMerge ts = IsStep offset ns ss offset (merged_shape ns a b) ts (merged_index ns a b)

  strides_same : (n m : ℕ) (ts us : List ℤ) → m ≤ 1 → ts ≡ cond (ltb 1 n) ts (cond (ltb 1 m) us ts)
  strides_same n m ts us h = at (ltb 1 n) ∙ ap (λ t. cond (ltb 1 n) ts (cond t us ts)) (sym (le-ltb 1 m h))
    where
      at : (t : Bool) → ts ≡ cond t ts ts
      at true = refl
      at false = refl

  strides_swapped : (n m : ℕ) (ts us : List ℤ) → n ≤ 1 → 1 < m → us ≡ cond (ltb 1 n) ts (cond (ltb 1 m) us ts)
  strides_swapped n m ts us h long = λ k. cond (sym (le-ltb 1 n h) k) ts (cond (sym (lt-ltb 1 m long) k) us ts)

  strides_long : (n m : ℕ) (ts us : List ℤ) → 1 < n → ts ≡ cond (ltb 1 n) ts (cond (ltb 1 m) us ts)
  strides_long n m ts us long = sym (ap (λ t. cond t ts (cond (ltb 1 m) us ts)) (lt-ltb 1 n long))

  as_before : set (set ss b (get_or ss b (pos 0))) a (get_or ss a (pos 0)) ≡ ss
  as_before = ap (λ l. set l a (get_or ss a (pos 0))) (set-get_or ss b (pos 0)) ∙ set-get_or ss a (pos 0)

  no_product : (n m : ℕ) → (n ≡ 0) ⊎ (m ≡ 0) → n * m ≡ 0
  no_product n m (inl e) = ap (λ v. v * m) e ∙ omega arith
  no_product n m (inr e) = ap (λ v. n * v) e ∙ omega arith

  short_taken : get_or ns a 0 ≤ 1 → IsMerge (merged_strides ns ss a b)
  short_taken short =
      subst IsMerge (strides_same (get_or ns b 0) (get_or ns a 0) ss (swap ss a b) short)
      (⊎_elim
      (λ (some : 0 < get_or ns b 0 * get_or ns a 0).
      let parts = both_positive (get_or ns b 0) (get_or ns a 0) some in
      kept_is_step (omega (arith, short, parts.1)) (omega (arith, parts.0)))
      (λ none. subst IsMerge as_before (none_left_is_step (omega (arith, none)) (get_or ss a (pos 0)) (get_or ss b (pos 0))))
      (cases_lt 0 (get_or ns b 0 * get_or ns a 0)))

  two_axes : get_or ns b 0 ≤ 1 → 1 < get_or ns a 0 → a ≡ b → ⊥
  two_axes short long same = let long' = subst (λ c. 1 < get_or ns c 0) same long in absurd (omega (arith, short, long'))

  short_into : get_or ns b 0 ≤ 1 → 1 < get_or ns a 0 → IsMerge (merged_strides ns ss a b)
  short_into short long =
      subst IsMerge (strides_swapped (get_or ns b 0) (get_or ns a 0) ss (swap ss a b) short long)
      (⊎_elim
      (λ (some : 0 < get_or ns b 0). exchange_is_step (omega (arith, short, some)) (omega (arith, long)) (two_axes short long))
      (λ none.
      let swapped : set (set ss b (get_or ss a (pos 0))) a (get_or ss b (pos 0)) ≡ swap ss a b = sym (set_comm ss a b (get_or ss b (pos 0)) (get_or ss a (pos 0)) (two_axes short long)) ∙ swap_is ss a b (pos 0) (omega (arith, many, on_a)) (omega (arith, many, on_b)) in
      subst IsMerge swapped (none_left_is_step (no_product (get_or ns b 0) (get_or ns a 0) (inl (omega (arith, none)))) (get_or ss b (pos 0)) (get_or ss a (pos 0))))
      (cases_lt 0 (get_or ns b 0)))

  both_long : 1 < get_or ns b 0 → 1 < get_or ns a 0 → (a ≡ b → ⊥) → get_or ss a (pos 0) ≡ pos (get_or ns b 0) *ℤ get_or ss b (pos 0) → IsMerge (merged_strides ns ss a b)
  both_long long long' two goes =
      let n = get_or ns b 0 in
      let m = get_or ns a 0 in
      let more = le-mul m n (omega (arith, long)) in
      let one : 1 ≡ min 1 (n * m) = omega (arith, more, long') in
      subst IsMerge (strides_long n m ss (swap ss a b) long)
      (subst (λ l. IsStep offset ns ss offset (set (set ns b (n * m)) a l) ss (merged_index ns a b)) one (long_merge_is_step offset ns ss a b many on_a on_b two long long' goes))

  -- every merge
  pub merge_is_step : CanMerge ns ss a b → IsMerge (merged_strides ns ss a b)
  merge_is_step (ShortTaken short) = short_taken short
  merge_is_step (ShortInto short) = ⊎_elim (short_into short) short_taken (cases_lt 1 (get_or ns a 0))
  merge_is_step (GoesOn two goes) =
      ⊎_elim
      (λ long'. ⊎_elim (λ long. both_long long long' two goes) (λ short. short_into short long') (cases_lt 1 (get_or ns b 0)))
      short_taken
      (cases_lt 1 (get_or ns a 0))

-- the product of the two lengths is small
short_product : (x y z : ℕ) → y ≤ 1 → x < z → x * y < z
short_product x zero z h less = omega (arith, less)
short_product x (suc zero) z h less = omega (arith, less)
short_product x (suc (suc y)) z h less = absurd (omega (arith, h))

pub merged_fits : (ns : List ℕ) (ss : List ℤ) (a b : ℕ) → a < length ns → b < length ns → HasCheckedSize ns → CanMerge ns ss a b → get_or ns b 0 * get_or ns a 0 < 9223372036854775808
merged_fits ns ss a b on_a on_b few (ShortTaken short) = let whole = length-le-product ns b on_b in short_product (get_or ns b 0) (get_or ns a 0) 9223372036854775808 short (omega (arith, whole, few))
merged_fits ns ss a b on_a on_b few (ShortInto short) =
    let whole = length-le-product ns a on_a in
    let less = short_product (get_or ns a 0) (get_or ns b 0) 9223372036854775808 short (omega (arith, whole, few)) in
    let c = mul_comm (get_or ns a 0) (get_or ns b 0) in
    omega (arith, less, c)
merged_fits ns ss a b on_a on_b few (GoesOn two goes) =
    let n = get_or ns b 0 in
    let all = subst (λ l. nonzero_product l ≡ max 1 n * nonzero_product (remove ns b)) (set-get_or ns b 0) (nonzero_product-set ns b n on_b) in
    let others = nonzero_product-set ns b 1 on_b in
    let within = length-le-product (set ns b 1) a (subst (λ l. a < l) (sym (length-set ns b 1)) on_a) in
    let same = get_or-set_other ns b a 1 0 two in
    product (get_or ns b 0) (get_or ns a 0) (nonzero_product (remove ns b)) (omega (arith, others, within, same)) (omega (arith, all, few))
  where
    product : (n m r : ℕ) → m ≤ r → max 1 n * r < 9223372036854775808 → n * m < 9223372036854775808
    product n m r below small =
        let first = mul-le-mul_left {m = m} {n = r} n below in
        let second = mul-le-mul_right {m = n} {n = max 1 n} r (omega arith) in
        omega (arith, first, second, small)

-- two strides written one after the other
pub strides_exchanged : (xs mid new : List ℤ) (a b : ℕ) (x y x' y' : ℤ) → a < length xs → b < length xs → x ≡ get_or xs a (pos 0) → y ≡ get_or xs b (pos 0) → x' ≡ x → y' ≡ y → mid ≡ set xs a y' → new ≡ set mid b x' → new ≡ swap xs a b
strides_exchanged xs mid new a b x y x' y' on_a on_b is_x is_y same_x same_y first second =
    second ∙ ap (λ l. set l b x') (first ∙ ap (λ z. set xs a z) (same_y ∙ is_y)) ∙ ap (λ z. set (set xs a (get_or xs b (pos 0))) b z) (same_x ∙ is_x) ∙ swap_is xs a b (pos 0) on_a on_b

-- a layout that may have been merged, and else is as it was, has come by a step
pub merged_or_kept : {old new : Placement} {source : List ℕ → List ℕ} (merges : Bool) → length old.strides ≡ length old.lengths → (merges ≡ true → IsStepOf old new source) → (merges ≡ false → new ≡ old) → (back : List ℕ → List ℕ) × IsStepOf old new back
merged_or_kept {source = source} true many step kept = (source, step refl)
merged_or_kept {old = old} false many step kept = (λ i. i, subst (λ p. IsStepOf old p (λ i. i)) (sym (kept refl)) (record { within = λ i h. h; same = λ i h. refl; as_many = many; spread = omega arith; checked = λ few. few; separated = λ apart. apart }))
