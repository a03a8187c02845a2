-- What folds of numbers come to: sums that wrap, in whatever order, and the elements of a lane or of a whole array by their coordinates.
use Rattle.nd_array_core.proofs.NamesFromOtherCrates.{◌≡◌, ℕ, zero, suc, ◌+◌, ◌%◌, ◌^◌, ◌<◌, ◌≤◌, max, min, List, [], ◌∷◌, ◌++◌, map, refl, ap, sym, ◌∙◌, arith, Bool, true, false, ℤ, pos, Option, None, Some, fold, cons_option, filter_map, flat_map, range_with_len, filter_map-append, fold-append, append-nil, indexes_of, collected, nat_eq, if◌then◌else◌, sum_by, unwrap_or, bits, Width, w8, w16, w32, w64, w128, cast_unsigned, cast_signed, int_wrapping_add, flat_map-append, sum_by-append, sum_by-cons, of_z-to_z, pow_pos, mod-add-mod, mod-lt, mod-eq_of_lt}
use Rattle.nd_array_core.specs.SumsCountsAndExtrema.{sum_below, max_below, min_below, count_below, sum_over, value_or_0, is_value, bits_or_0}

-- ---- sums that wrap at each step wrap once at the end
nothing_left : (m : ℕ) → 0 ≡ 0 % m
nothing_left zero = refl
nothing_left (suc m) = omega arith

pub wrapped_sum : (m : ℕ) (xs : List ℕ) → fold (λ s x. (s + x) % m) 0 xs ≡ sum_by (λ x. x) xs % m
wrapped_sum m xs = ap (λ s. fold (λ s x. (s + x) % m) s xs) (nothing_left m) ∙ (along 0 xs ∙ ap (λ t. t % m) (omega arith))
  where
    along : (s : ℕ) (xs : List ℕ) → fold (λ s x. (s + x) % m) (s % m) xs ≡ (s + sum_by (λ x. x) xs) % m
    along s [] = ap (λ t. t % m) (omega arith)
    along s (x ∷ xs) =
        let more = sum_by-cons (λ x. x) x xs in
        ap (λ s. fold (λ s x. (s + x) % m) s xs) (mod-add-mod s m x) ∙ (along (s + x) xs ∙ ap (λ t. t % m) (omega (arith, more)))

module _ (w : Width) where
  -- bits added to bits
  step_signed : (s : ℕ) (x : ℤ) → int_wrapping_add w (cast_signed w (s % 2 ^ bits w)) x ≡ cast_signed w ((s + cast_unsigned w x) % 2 ^ bits w)
  step_signed s x = ap (λ b. cast_signed w ((b + cast_unsigned w x) % 2 ^ bits w)) (of_z-to_z w (s % 2 ^ bits w) (mod-lt s (pow_pos (bits w)))) ∙ ap (cast_signed w) (mod-add-mod s (2 ^ bits w) (cast_unsigned w x))

  pub wrapped_signed : (xs : List ℤ) → fold (int_wrapping_add w) (pos 0) xs ≡ cast_signed w (sum_by (cast_unsigned w) xs % 2 ^ bits w)
  wrapped_signed xs = ap (λ s. fold (int_wrapping_add w) s xs) (begins w) ∙ (along 0 xs ∙ ap (λ t. cast_signed w (t % 2 ^ bits w)) (omega arith))
    where
      begins : (w : Width) → pos 0 ≡ cast_signed w (0 % 2 ^ bits w)
      begins w8 = refl
      begins w16 = refl
      begins w32 = refl
      begins w64 = refl
      begins w128 = refl

      along : (s : ℕ) (xs : List ℤ) → fold (int_wrapping_add w) (cast_signed w (s % 2 ^ bits w)) xs ≡ cast_signed w ((s + sum_by (cast_unsigned w) xs) % 2 ^ bits w)
      along s [] = ap (λ t. cast_signed w (t % 2 ^ bits w)) (omega arith)
      along s (x ∷ xs) =
          let more = sum_by-cons (cast_unsigned w) x xs in
          ap (λ s. fold (int_wrapping_add w) s xs) (step_signed s x) ∙ (along (s + cast_unsigned w x) xs ∙ ap (λ t. cast_signed w (t % 2 ^ bits w)) (omega (arith, more)))

  -- the order of two elements of such a sum doesn't matter
  pub signed_order_free : (b x y : ℤ) → int_wrapping_add w (int_wrapping_add w b x) y ≡ int_wrapping_add w (int_wrapping_add w b y) x
  signed_order_free b x y = step_signed (cast_unsigned w b + cast_unsigned w x) y ∙ (ap (λ s. cast_signed w (s % 2 ^ bits w)) (omega arith) ∙ sym (step_signed (cast_unsigned w b + cast_unsigned w y) x))

-- ---- the elements of a lane, by their coordinates

-- a fold over what is there below n is one over the numbers, where nothing leaves the total as it is
module _ {A B : Type 0} (h : B → A → B) (first : B) (at : ℕ → Option A) (total : ℕ → B) where
  pub folded_below : total 0 ≡ first → ((k : ℕ) → at k ≡ None → total (suc k) ≡ total k) → ((k : ℕ) (x : A) → at k ≡ Some x → total (suc k) ≡ h (total k) x) → (n : ℕ) → fold h first (collected at n) ≡ total n
  folded_below begins passes takes zero = sym begins
  folded_below begins passes takes (suc n) = fold-append h first (collected at n) (cons_option (at n) []) ∙ by (at n) refl (folded_below begins passes takes n)
    where
      by : (o : Option A) → at n ≡ o → fold h first (collected at n) ≡ total n → fold h (fold h first (collected at n)) (cons_option o []) ≡ total (suc n)
      by None e so_far = so_far ∙ sym (passes n e)
      by (Some x) e so_far = ap (λ t. h t x) so_far ∙ sym (takes n x e)

module _ {A : Type 0} (f : A → ℕ) (value : Option A → ℕ) (none : value None ≡ 0) (some : (x : A) → value (Some x) ≡ f x) where
  one : (o : Option A) → sum_by f (cons_option o []) ≡ value o
  one None = sym none
  one (Some x) = omega arith ∙ sym (some x)

  pub summed_below : (at : ℕ → Option A) (n : ℕ) → sum_by f (collected at n) ≡ sum_below (λ k. value (at k)) n
  summed_below at zero = refl
  summed_below at (suc n) = sum_by-append f (collected at n) (cons_option (at n) []) ∙ (λ t. summed_below at n t + one (at n) t)

  -- the elements of a shape, in row-major order
  pub summed_over : (ns : List ℕ) (at : List ℕ → Option A) → sum_by f (filter_map at (indexes_of ns)) ≡ sum_over ns (λ i. value (at i))
  summed_over [] at = one (at [])
  summed_over (n ∷ ns) at = along n (λ i. summed_over ns (λ is. at (i ∷ is)))
    where
      row : ℕ → List (List ℕ)
      row i = map (λ is. i ∷ is) (indexes_of ns)

      range_more : (a n : ℕ) → range_with_len a (suc n) ≡ range_with_len a n ++ (a + n) ∷ []
      range_more a zero = ap (λ k. k ∷ []) (omega arith)
      range_more a (suc n) = ap (λ ks. a ∷ ks) (range_more (a + 1) n ∙ ap (λ k. range_with_len (a + 1) n ++ k ∷ []) (omega arith))

      filtered_map : {X Y Z : Type 0} (h : Y → Option Z) (v : X → Y) (xs : List X) → filter_map h (map v xs) ≡ filter_map (λ x. h (v x)) xs
      filtered_map h v [] = refl
      filtered_map h v (x ∷ xs) = ap (cons_option (h (v x))) (filtered_map h v xs)

      along : (n : ℕ) → ((i : ℕ) → sum_by f (filter_map (λ is. at (i ∷ is)) (indexes_of ns)) ≡ sum_over ns (λ is. value (at (i ∷ is))))
          → sum_by f (filter_map at (flat_map row (range_with_len 0 n))) ≡ sum_below (λ i. sum_over ns (λ is. value (at (i ∷ is)))) n
      along zero rows = refl
      along (suc n) rows =
          ap (λ ks. sum_by f (filter_map at (flat_map row ks))) (range_more 0 n)
          ∙ (ap (λ is. sum_by f (filter_map at is)) (flat_map-append row (range_with_len 0 n) ((0 + n) ∷ []))
          ∙ (ap (sum_by f) (filter_map-append at (flat_map row (range_with_len 0 n)) (flat_map row ((0 + n) ∷ [])))
          ∙ (sum_by-append f (filter_map at (flat_map row (range_with_len 0 n))) (filter_map at (flat_map row ((0 + n) ∷ [])))
          ∙ (λ t. along n rows t + last t))))
        where
          last : sum_by f (filter_map at (flat_map row ((0 + n) ∷ []))) ≡ sum_over ns (λ is. value (at (n ∷ is)))
          last =
              let same : 0 + n ≡ n = omega arith in
              ap (λ k. sum_by f (filter_map at (map (λ is. k ∷ is) (indexes_of ns) ++ []))) same
              ∙ (ap (λ is. sum_by f (filter_map at is)) (append-nil (map (λ is. n ∷ is) (indexes_of ns)))
              ∙ (ap (sum_by f) (filtered_map at (λ is. n ∷ is) (indexes_of ns)) ∙ rows n))

-- sums of them
pub added_below : (at : ℕ → Option ℕ) (n : ℕ) → fold (λ s x. s + x) 0 (collected at n) ≡ sum_below (λ k. value_or_0 (at k)) n
added_below at n = summed_below (λ x. x) value_or_0 refl (λ x. refl) at n

pub wrapped_below : (at : ℕ → Option ℕ) (m n : ℕ) → fold (λ s x. (s + x) % m) 0 (collected at n) ≡ sum_below (λ k. value_or_0 (at k)) n % m
wrapped_below at m n = wrapped_sum m (collected at n) ∙ ap (λ t. t % m) (added_below at n)

pub signed_below : (w : Width) (at : ℕ → Option ℤ) (n : ℕ) → fold (int_wrapping_add w) (pos 0) (collected at n) ≡ cast_signed w (sum_below (λ k. bits_or_0 w (at k)) n % 2 ^ bits w)
signed_below w at n = wrapped_signed w (collected at n) ∙ ap (λ t. cast_signed w (t % 2 ^ bits w)) (summed_below (cast_unsigned w) (bits_or_0 w) refl (λ x. refl) at n)

pub added_over : (shape : List ℕ) (at : List ℕ → Option ℕ) → fold (λ s x. s + x) 0 (filter_map at (indexes_of shape)) ≡ sum_over shape (λ i. value_or_0 (at i))
added_over shape at = summed_over (λ x. x) value_or_0 refl (λ x. refl) shape at

pub wrapped_over : (m : ℕ) (shape : List ℕ) (at : List ℕ → Option ℕ) → fold (λ s x. (s + x) % m) 0 (filter_map at (indexes_of shape)) ≡ sum_over shape (λ i. value_or_0 (at i)) % m
wrapped_over m shape at = wrapped_sum m (filter_map at (indexes_of shape)) ∙ ap (λ t. t % m) (added_over shape at)

pub signed_over : (w : Width) (shape : List ℕ) (at : List ℕ → Option ℤ) → fold (int_wrapping_add w) (pos 0) (filter_map at (indexes_of shape)) ≡ cast_signed w (sum_over shape (λ i. bits_or_0 w (at i)) % 2 ^ bits w)
signed_over w shape at = wrapped_signed w (filter_map at (indexes_of shape)) ∙ ap (λ t. cast_signed w (t % 2 ^ bits w)) (summed_over (cast_unsigned w) (bits_or_0 w) refl (λ x. refl) shape at)

-- ---- the greatest and the least of a lane

-- a choice that lets the first be, once it was made
module _ (choose : ℕ → ℕ → ℕ) (first : ℕ) (stays : (x y : ℕ) → choose x first ≡ x → choose (choose x y) first ≡ choose x y) (itself : choose first first ≡ first) (at : ℕ → Option ℕ) (total : ℕ → ℕ) where
  chosen_below : total 0 ≡ first → ((k : ℕ) → total (suc k) ≡ choose (total k) (unwrap_or (at k) first)) → (n : ℕ) → fold choose first (collected at n) ≡ total n
  chosen_below begins goes = folded_below choose first at total begins
      (λ k e. goes k ∙ (ap (λ o. choose (total k) (unwrap_or o first)) e ∙ settled k))
      (λ k x e. goes k ∙ ap (λ o. choose (total k) (unwrap_or o first)) e)
    where
      settled : (k : ℕ) → choose (total k) first ≡ total k
      settled zero = ap (λ t. choose t first) begins ∙ (itself ∙ sym begins)
      settled (suc k) = ap (λ t. choose t first) (goes k) ∙ (stays (total k) (unwrap_or (at k) first) (settled k) ∙ sym (goes k))

pub greatest_below : (first : ℕ) (at : ℕ → Option ℕ) (n : ℕ) → fold max first (collected at n) ≡ max_below first (λ k. unwrap_or (at k) first) n
greatest_below first at = chosen_below max first (λ x y e. omega (arith, e)) (omega arith) at (max_below first (λ k. unwrap_or (at k) first)) refl (λ k. refl)

pub least_below : (first : ℕ) (at : ℕ → Option ℕ) (n : ℕ) → fold min first (collected at n) ≡ min_below first (λ k. unwrap_or (at k) first) n
least_below first at = chosen_below min first (λ x y e. omega (arith, e)) (omega arith) at (min_below first (λ k. unwrap_or (at k) first)) refl (λ k. refl)

-- ---- counts that can't wrap
module _ (at : ℕ → Option ℕ) (value m : ℕ) where
  pub counted_below : (n : ℕ) → n < m → fold (λ c x. if nat_eq x value then (c + 1) % m else c) 0 (collected at n) ≡ count_below (λ k. is_value value (at k)) n
  counted_below zero low = refl
  counted_below (suc n) low =
      fold-append (λ c x. if nat_eq x value then (c + 1) % m else c) 0 (collected at n) (cons_option (at n) [])
      ∙ one_more (at n) (fold (λ c x. if nat_eq x value then (c + 1) % m else c) 0 (collected at n)) (count_below (λ k. is_value value (at k)) n) (counted_below n (omega (arith, low))) (counts n)
    where
      counts : (n : ℕ) → count_below (λ k. is_value value (at k)) n ≤ n
      counts zero = omega arith
      counts (suc n) = let p = counts n in one (is_value value (at n)) (count_below (λ k. is_value value (at k)) n) n p
        where
          one : (b : Bool) (c n : ℕ) → c ≤ n → c + (if b then 1 else 0) ≤ suc n
          one true c n p = omega (arith, p)
          one false c n p = omega (arith, p)

      one_more : (o : Option ℕ) (t c : ℕ) → t ≡ c → c ≤ n → fold (λ c x. if nat_eq x value then (c + 1) % m else c) t (cons_option o []) ≡ c + (if is_value value o then 1 else 0)
      one_more None t c e le = e ∙ omega arith
      one_more (Some x) t c e le = two (nat_eq x value)
        where
          two : (b : Bool) → (if b then (t + 1) % m else t) ≡ c + (if b then 1 else 0)
          two true = mod-eq_of_lt (omega (arith, low, e, le)) ∙ omega (arith, e)
          two false = e ∙ omega arith

-- ---- what callers name: a search finds no modulus below a λ, so each has its lemmas
pub lane_of_u8 : (at : ℕ → Option ℕ) (n : ℕ) → fold (λ s x. (s + x) % 2 ^ 8) 0 (collected at n) ≡ sum_below (λ k. value_or_0 (at k)) n % 2 ^ 8
lane_of_u8 at n = wrapped_below at (2 ^ 8) n

pub all_of_u8 : (shape : List ℕ) (at : List ℕ → Option ℕ) → fold (λ s x. (s + x) % 2 ^ 8) 0 (filter_map at (indexes_of shape)) ≡ sum_over shape (λ i. value_or_0 (at i)) % 2 ^ 8
all_of_u8 shape at = wrapped_over (2 ^ 8) shape at

pub lane_of_u16 : (at : ℕ → Option ℕ) (n : ℕ) → fold (λ s x. (s + x) % 2 ^ 16) 0 (collected at n) ≡ sum_below (λ k. value_or_0 (at k)) n % 2 ^ 16
lane_of_u16 at n = wrapped_below at (2 ^ 16) n

pub all_of_u16 : (shape : List ℕ) (at : List ℕ → Option ℕ) → fold (λ s x. (s + x) % 2 ^ 16) 0 (filter_map at (indexes_of shape)) ≡ sum_over shape (λ i. value_or_0 (at i)) % 2 ^ 16
all_of_u16 shape at = wrapped_over (2 ^ 16) shape at

pub lane_of_u32 : (at : ℕ → Option ℕ) (n : ℕ) → fold (λ s x. (s + x) % 2 ^ 32) 0 (collected at n) ≡ sum_below (λ k. value_or_0 (at k)) n % 2 ^ 32
lane_of_u32 at n = wrapped_below at (2 ^ 32) n

pub all_of_u32 : (shape : List ℕ) (at : List ℕ → Option ℕ) → fold (λ s x. (s + x) % 2 ^ 32) 0 (filter_map at (indexes_of shape)) ≡ sum_over shape (λ i. value_or_0 (at i)) % 2 ^ 32
all_of_u32 shape at = wrapped_over (2 ^ 32) shape at

pub lane_of_u64 : (at : ℕ → Option ℕ) (n : ℕ) → fold (λ s x. (s + x) % 2 ^ 64) 0 (collected at n) ≡ sum_below (λ k. value_or_0 (at k)) n % 2 ^ 64
lane_of_u64 at n = wrapped_below at (2 ^ 64) n

pub all_of_u64 : (shape : List ℕ) (at : List ℕ → Option ℕ) → fold (λ s x. (s + x) % 2 ^ 64) 0 (filter_map at (indexes_of shape)) ≡ sum_over shape (λ i. value_or_0 (at i)) % 2 ^ 64
all_of_u64 shape at = wrapped_over (2 ^ 64) shape at

pub lane_of_u128 : (at : ℕ → Option ℕ) (n : ℕ) → fold (λ s x. (s + x) % 2 ^ 128) 0 (collected at n) ≡ sum_below (λ k. value_or_0 (at k)) n % 2 ^ 128
lane_of_u128 at n = wrapped_below at (2 ^ 128) n

pub all_of_u128 : (shape : List ℕ) (at : List ℕ → Option ℕ) → fold (λ s x. (s + x) % 2 ^ 128) 0 (filter_map at (indexes_of shape)) ≡ sum_over shape (λ i. value_or_0 (at i)) % 2 ^ 128
all_of_u128 shape at = wrapped_over (2 ^ 128) shape at

pub ruleset known_sums = (lane_of_u8, all_of_u8, lane_of_u16, all_of_u16, lane_of_u32, all_of_u32, lane_of_u64, all_of_u64, lane_of_u128, all_of_u128, signed_below, signed_over, signed_order_free, greatest_below, least_below)
