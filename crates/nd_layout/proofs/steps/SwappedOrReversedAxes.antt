-- Exchanging two axes, and putting all in the opposite order, are layout steps: each is a permutation that is its own
-- way back.
use Rattle.nd_layout.proofs.NamesFromOtherCrates.{◌≡◌, ℕ, zero, suc, ◌+◌, ◌-◌, ◌<◌, ◌≤◌, true, List, length, get_or, set, map, eqb, cond, reverse, ℤ, pos, refl, ap, sym, ◌∙◌, subst, arith, ⊎_elim, swap, range_with_len, IsPermutation, cases_eq, eq-eqb, ne_eqb, ext_get_or, length-map, get_or-map, map-set, length-reverse, get_or-reverse, reverse-reverse, swap_is, length-swap, swapped_from_swap, length-range_with_len, get_or-range_with_len, IsPermutation-swap, IsPermutation-reverse, sum_by-IsPermutation, zero-add, in_box, place_of, HasEachAxis, permuted_list, unpermuted_list, length-in_box}
use Rattle.nd_layout.specs.StridesAfterLayoutCalls.{permuted_strides}
use Rattle.nd_layout.proofs.SumsInAnyAxisOrder.{times, times_is, times-range_below}
use Rattle.nd_layout.proofs.PermutedAxes.{permuted-unpermuted, length-unpermuted, length-permuted}
use Rattle.nd_layout.specs.ValidLayoutsAndSteps.{IsStep}
use Rattle.nd_layout.proofs.steps.PermuteStep.{permute_is_step}

-- each axis stands once in the axes' own order, and so in every rearrangement of it
pub once_in_range : (a low n : ℕ) → low ≤ a → a < low + n → times a (range_with_len low n) ≡ 1
once_in_range a low zero h q = absurd (omega arith)
once_in_range a low (suc n) h q =
    ⊎_elim
    (λ (is : low ≡ a). rw (eq-eqb low a is) (let none = times-range_below a (low + 1) n (omega arith) in omega (arith, none)))
    (λ (other : low ≡ a → ⊥). rw (ne_eqb low a other) (let one = once_in_range a (low + 1) n (omega arith) (omega arith) in omega (arith, one)))
    (cases_eq low a)

pub each_axis : (n : ℕ) (p : List ℕ) → length p ≡ n → IsPermutation (range_with_len 0 n) p → HasEachAxis p n
each_axis n p e moved = (
  e,
  λ a h.
      sum_by-IsPermutation (λ b. cond (eqb b a) 1 0) (range_with_len 0 n) p moved
      ∙ times_is a (range_with_len 0 n)
      ∙ once_in_range a 0 n (omega arith) (omega arith),
)

-- a permutation that is its own way back
module _ (offset : ℕ) (ns : List ℕ) (ss : List ℤ) (p : List ℕ) (back : List ℕ → List ℕ) (many : length ss ≡ length ns) (each : HasEachAxis p (length ns)) (does : (xs : List ℕ) → length xs ≡ length ns → permuted_list p xs ≡ back xs) (undoes : (xs : List ℕ) → length xs ≡ length ns → back (back xs) ≡ xs) where
  way_back : (i : List ℕ) → length i ≡ length ns → unpermuted_list p i ≡ back i
  way_back i e =
      let as_many : length (unpermuted_list p i) ≡ length ns = length-unpermuted p i ∙ each.0 in
      sym (undoes (unpermuted_list p i) as_many) ∙ ap back (sym (does (unpermuted_list p i) as_many) ∙ permuted-unpermuted p i (length ns) each e)

  pub involution_is_step : (ts : List ℤ) → permuted_strides p ss ≡ ts → IsStep offset ns ss offset (back ns) ts back
  involution_is_step ts same =
      let step = subst (λ ms. IsStep offset ns ss offset ms ts (unpermuted_list p)) (does ns refl) (subst (λ us. IsStep offset ns ss offset (permuted_list p ns) us (unpermuted_list p)) same (permute_is_step offset ns ss p many each)) in
      let counted : (i : List ℕ) → in_box (back ns) i ≡ true → length i ≡ length ns = λ i h. length-in_box (back ns) i h ∙ (sym (ap length (does ns refl)) ∙ (length-permuted p ns ∙ each.0)) in
      record {
        within = λ i h. subst (λ j. in_box ns j ≡ true) (way_back i (counted i h)) (step.within i h);
        same = λ i h. step.same i h ∙ ap (place_of offset ss) (way_back i (counted i h));
        as_many = step.as_many;
        spread = step.spread;
        checked = step.checked;
        separated = step.separated;
      }

-- ---- two axes exchanged
module _ {A : Type 0} (d : A) (xs : List A) where
  pub in_own_order : map (λ a. get_or xs a d) (range_with_len 0 (length xs)) ≡ xs
  in_own_order =
      ext_get_or d (map (λ a. get_or xs a d) (range_with_len 0 (length xs))) xs (length-map (range_with_len 0 (length xs)) (λ a. get_or xs a d) ∙ length-range_with_len 0 (length xs))
      (λ i h.
      let below : i < length xs = subst (λ n. i < n) (length-map (range_with_len 0 (length xs)) (λ a. get_or xs a d) ∙ length-range_with_len 0 (length xs)) h in
      let here : i < length (range_with_len 0 (length xs)) = omega (arith, below, length-range_with_len 0 (length xs)) in
      let zero_plus : 0 + i ≡ i = omega arith in
      get_or-map (λ a. get_or xs a d) (range_with_len 0 (length xs)) i 0 d here ∙ ap (λ k. get_or xs k d) (get_or-range_with_len 0 (length xs) i 0 below ∙ zero_plus))

  pub exchanged : (n a b : ℕ) → n ≡ length xs → a < length xs → b < length xs → map (λ k. get_or xs k d) (swap (range_with_len 0 n) a b) ≡ swap xs a b
  exchanged n a b e on_a on_b =
      let f : ℕ → A = λ k. get_or xs k d in
      let axes = range_with_len 0 n in
      let long : length axes ≡ length xs = length-range_with_len 0 n ∙ e in
      let at : (k : ℕ) → k < length xs → get_or axes k 0 ≡ k = λ k h. get_or-range_with_len 0 n k 0 (omega (arith, e, h)) ∙ zero-add k in
      let own : map f axes ≡ xs = subst (λ m. map f (range_with_len 0 m) ≡ xs) (sym e) in_own_order in
      ap (map f) (sym (swap_is axes a b 0 (omega (arith, long, on_a)) (omega (arith, long, on_b))))
      ∙ map-set f (set axes a (get_or axes b 0)) b (get_or axes a 0)
      ∙ ap (λ l. set l b (f (get_or axes a 0))) (map-set f axes a (get_or axes b 0))
      ∙ rw (at a on_a, at b on_b, own) (swap_is xs a b d on_a on_b)

pub swap_back : (xs : List ℕ) (a b : ℕ) → a < length xs → b < length xs → swap (swap xs a b) a b ≡ xs
swap_back xs a b on_a on_b =
    let ys = swap xs a b in
    let zs = swap ys a b in
    let long = length-swap xs a b in
    let once = swapped_from_swap xs ys a b 0 on_a on_b refl in
    let twice = swapped_from_swap ys zs a b 0 (omega (arith, long, on_a)) (omega (arith, long, on_b)) refl in
    ext_get_or 0 zs xs (length-swap ys a b ∙ long)
    (λ k h. ⊎_elim
    (λ (at_a : k ≡ a). rw at_a (twice.0 ∙ once.1))
    (λ (not_a : k ≡ a → ⊥). ⊎_elim
    (λ (at_b : k ≡ b). rw at_b (twice.1 ∙ once.0))
    (λ (not_b : k ≡ b → ⊥). twice.2 k not_a not_b ∙ once.2 k not_a not_b)
    (cases_eq k b))
    (cases_eq k a))

pub swap_is_step : (offset : ℕ) (ns : List ℕ) (ss : List ℤ) (a b : ℕ) → length ss ≡ length ns → a < length ns → b < length ns → IsStep offset ns ss offset (swap ns a b) (swap ss a b) (λ i. swap i a b)
swap_is_step offset ns ss a b many on_a on_b =
    let n = length ns in
    let axes = range_with_len 0 n in
    let long = length-range_with_len 0 n in
    let each = each_axis n (swap axes a b) (length-swap axes a b ∙ long) (IsPermutation-swap axes (swap axes a b) a b (omega (arith, long, on_a)) (omega (arith, long, on_b)) refl) in
    involution_is_step offset ns ss (swap axes a b) (λ i. swap i a b) many each
    (λ xs e. exchanged 0 xs n a b (sym e) (omega (arith, e, on_a)) (omega (arith, e, on_b)))
    (λ xs e. swap_back xs a b (omega (arith, e, on_a)) (omega (arith, e, on_b)))
    (swap ss a b) (exchanged (pos 0) ss n a b (sym many) (omega (arith, many, on_a)) (omega (arith, many, on_b)))

-- ---- all axes in the opposite order
pub turned : {A : Type 0} (d : A) (xs : List A) (n : ℕ) → n ≡ length xs → map (λ k. get_or xs k d) (reverse (range_with_len 0 n)) ≡ reverse xs
turned {A} d xs n e =
    let f : ℕ → A = λ k. get_or xs k d in
    let axes = range_with_len 0 n in
    let long = length-range_with_len 0 n in
    let turned_long = length-reverse axes in
    let image = length-map (reverse axes) f in
    ext_get_or d (map f (reverse axes)) (reverse xs) (image ∙ (turned_long ∙ (long ∙ (e ∙ sym (length-reverse xs)))))
    (λ k h.
    let below : k < n = omega (arith, h, image, turned_long, long) in
    let same : length axes - 1 - k ≡ length xs - 1 - k = omega (arith, long, e) in
    let plus : 0 + (length xs - 1 - k) ≡ length xs - 1 - k = omega arith in
    let here : get_or (reverse axes) k 0 ≡ length xs - 1 - k =
    get_or-reverse axes k 0 (omega (arith, below, long)) ∙ (ap (λ j. get_or axes j 0) same ∙ (get_or-range_with_len 0 n (length xs - 1 - k) 0 (omega (arith, below, e)) ∙ plus)) in
    get_or-map f (reverse axes) k 0 d (omega (arith, below, turned_long, long)) ∙ (ap f here ∙ sym (get_or-reverse xs k d (omega (arith, below, e)))))

pub reverse_is_step : (offset : ℕ) (ns : List ℕ) (ss : List ℤ) → length ss ≡ length ns → IsStep offset ns ss offset (reverse ns) (reverse ss) reverse
reverse_is_step offset ns ss many =
    let n = length ns in
    let axes = range_with_len 0 n in
    let each = each_axis n (reverse axes) (length-reverse axes ∙ length-range_with_len 0 n) (IsPermutation-reverse axes) in
    involution_is_step offset ns ss (reverse axes) reverse many each
    (λ xs e. turned 0 xs n (sym e))
    (λ xs e. reverse-reverse xs)
    (reverse ss) (turned (pos 0) ss n (sym many))
