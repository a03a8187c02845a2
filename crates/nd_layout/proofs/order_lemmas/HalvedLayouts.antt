-- Two layouts of one shape cut at one coordinate of an axis: each index is in one half.
use Rattle.nd_layout.proofs.NamesFromOtherCrates.{◌≡◌, ℕ, ◌+◌, ◌-◌, ◌<◌, ◌≤◌, ◌⊎◌, inl, inr, true, List, length, get_or, set, ap, sym, ◌∙◌, subst, arith, ⊎_elim, sum, cases_lt, get_or-set_same, length-set, set-get_or, set-set, sum_by-set, in_box, lower_shape, upper_shape, upper_index, length-in_box, coordinate_below, in_box-set, upper_index-lowered}
use Rattle.nd_layout.specs.LayoutStepsOfCalls.{Placement, IsStepOf}
use Rattle.nd_layout.specs.HalvedLayouts.{AreHalved}

-- and the other way round
back_again : (j : List ℕ) (a k : ℕ) → a < length j → set (upper_index a k j) a (get_or (upper_index a k j) a 0 - k) ≡ j
back_again j a k on =
    let c = get_or j a 0 in
    ap (λ d. set (set j a (c + k)) a (d - k)) (get_or-set_same j a (c + k) 0 on)
    ∙ (set-set j a (c + k) (c + k - k)
    ∙ (ap (set j a) (omega arith) ∙ set-get_or j a 0))

module _ (ns : List ℕ) (a k : ℕ) (on : a < length ns) (some : 0 < k) (within : k < get_or ns a 0) where
  in_one_half : (i : List ℕ) → in_box ns i ≡ true → (in_box (lower_shape ns a k) i ≡ true) ⊎ ((j : List ℕ) × (in_box (upper_shape ns a k) j ≡ true) × (upper_index a k j ≡ i))
  in_one_half i h =
      let c = get_or i a 0 in
      let n = get_or ns a 0 in
      let below = coordinate_below ns i a h on in
      let wide : a < length i = omega (arith, length-in_box ns i h, on) in
      ⊎_elim
      (λ (low : c < k). inl (subst (λ j. in_box (set ns a k) j ≡ true) (set-get_or i a 0) (in_box-set ns i a k c h low)))
      (λ (high : k ≤ c). inr (set i a (c - k), in_box-set ns i a (n - k) (c - k) h (omega (arith, below, high)), upper_index-lowered i a k wide high))
      (cases_lt c k)

  as_wide : (m : ℕ) (j : List ℕ) → in_box (set ns a m) j ≡ true → a < length j
  as_wide m j h = omega (arith, length-in_box (set ns a m) j h, length-set ns a m, on)

  in_no_other : (i j : List ℕ) → in_box (lower_shape ns a k) i ≡ true → in_box (upper_shape ns a k) j ≡ true → upper_index a k j ≡ i → ⊥
  in_no_other i j h g e =
      let long : a < length (lower_shape ns a k) = omega (arith, length-set ns a k, on) in
      let below = coordinate_below (lower_shape ns a k) i a h long in
      let at_k = get_or-set_same ns a k 0 on in
      let shifted = sym (ap (λ l. get_or l a 0) e) ∙ get_or-set_same j a (get_or j a 0 + k) 0 (as_wide (get_or ns a 0 - k) j g) in
      omega (arith, below, at_k, shifted)

  once_each : (j l : List ℕ) → in_box (upper_shape ns a k) j ≡ true → in_box (upper_shape ns a k) l ≡ true → upper_index a k j ≡ upper_index a k l → j ≡ l
  once_each j l h g e =
      sym (back_again j a k (as_wide (get_or ns a 0 - k) j h))
      ∙ (ap (λ i. set i a (get_or i a 0 - k)) e ∙ back_again l a k (as_wide (get_or ns a 0 - k) l g))

  smaller : (m : ℕ) → m < get_or ns a 0 → sum (set ns a m) < sum ns
  smaller m less = let e = sum_by-set (λ x. x) ns a m 0 on in omega (arith, e, less)

  pub cut_in_halves : (one two lower lower_two upper upper_two : Placement) → one.lengths ≡ ns → two.lengths ≡ ns → lower.lengths ≡ lower_shape ns a k → lower_two.lengths ≡ lower_shape ns a k → upper.lengths ≡ upper_shape ns a k → upper_two.lengths ≡ upper_shape ns a k
      → IsStepOf one lower (λ i. i) → IsStepOf two lower_two (λ i. i) → IsStepOf one upper (upper_index a k) → IsStepOf two upper_two (upper_index a k) → AreHalved one two lower lower_two upper upper_two
  cut_in_halves one two lower lower_two upper upper_two is_one is_two is_lower is_lower_two is_upper is_upper_two low low_two high high_two = record {
    source = upper_index a k;
    low_first = low;
    low_second = low_two;
    high_first = high;
    high_second = high_two;
    low_alike = is_lower_two ∙ sym is_lower;
    high_alike = is_upper_two ∙ sym is_upper;
    found = λ i h. ⊎_elim
        (λ (there : in_box (lower_shape ns a k) i ≡ true). inl (ap (λ ms. in_box ms i) is_lower ∙ there))
        (λ (there : (j : List ℕ) × (in_box (upper_shape ns a k) j ≡ true) × (upper_index a k j ≡ i)). inr (there.0, ap (λ ms. in_box ms there.0) is_upper ∙ there.1, there.2))
        (in_one_half i (ap (λ ms. in_box ms i) (sym is_one) ∙ h));
    apart = λ i j h g. in_no_other i j (ap (λ ms. in_box ms i) (sym is_lower) ∙ h) (ap (λ ms. in_box ms j) (sym is_upper) ∙ g);
    once = λ j l h g. once_each j l (ap (λ ms. in_box ms j) (sym is_upper) ∙ h) (ap (λ ms. in_box ms l) (sym is_upper) ∙ g);
    low_smaller = let less = smaller k within in let e = ap sum is_lower in let f = ap sum is_one in omega (arith, less, e, f);
    high_smaller = let less = smaller (get_or ns a 0 - k) (omega (arith, some, within)) in let e = ap sum is_upper in let f = ap sum is_one in omega (arith, less, e, f);
  }
