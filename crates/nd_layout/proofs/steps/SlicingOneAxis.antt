-- The slice of one axis is a layout step.
use Rattle.nd_layout.proofs.NamesFromOtherCrates.{◌≡◌, ℕ, zero, suc, ◌-◌, ◌*◌, ◌<◌, ◌≤◌, Bool, true, false, cond, leb, eqb, not, ◌&&◌, max, List, [], ◌∷◌, length, get_or, set, ℤ, pos, negsuc, ◌+ℤ◌, ◌*ℤ◌, nat_abs, refl, ap, sym, ◌∙◌, subst, arith, Option, None, Some, is_some, unwrap_or, remove, ◌⊎◌, inl, inr, ⊎_elim, mul-le-mul_left, mul-le-mul_right, mul_comm, unsigned_abs-mul, length-set, get_or-set_same, set-get_or, set-set, ints, nat_tests, Slice, in_box, size_of, displacement_of, span_of, IsSeparated, bound_on, end_on, fits_axis, low_of, high_of, quotient_up, sliced_length, stepped_from, sliced_from, sliced_shape, sliced_index, row_rank_below, length-in_box, coordinate_below, in_box-set}
use Rattle.nd_layout.specs.StridesAfterLayoutCalls.{stepped_start, stepped_stride}
use Rattle.nd_layout.proofs.AxisChange.{span_of-at, span_of-changed, IsSeparated-changed}
use Rattle.nd_layout.proofs.SizesOfChangedAxes.{HasCheckedSize-set, size_of-set}
use Rattle.nd_layout.proofs.AxisRemovedOrInserted.{size_of-removed}
use Rattle.nd_layout.proofs.SlicedAxis.{steps_below, last_step_below, stepped_from-within, displacement_of-sliced, span_of-sliced, IsSeparated-sliced}
use Rattle.nd_layout.specs.ValidLayoutsAndSteps.{IsStep}
use Rattle.nd_layout.proofs.Integers.{zero-mul}

-- a bound lies on the axis
bound_within : (n : ℕ) (z : ℤ) → unwrap_or (bound_on n z) 0 ≤ n
bound_within n (pos k) = at (leb k n) refl
  where
    at : (b : Bool) → leb k n ≡ b → unwrap_or (bound_on n (pos k)) 0 ≤ n
    at true e = rw e (grind (arith, nat_tests, e))
    at false e = rw e (omega arith)
bound_within n (negsuc k) = grind (arith, nat_tests)

end_within : (n : ℕ) (e : Option ℤ) → unwrap_or (end_on n e) 0 ≤ n
end_within n None = omega arith
end_within n (Some z) = bound_within n z

pub high_within : (n : ℕ) (s : Slice) → high_of n s ≤ n
high_within n s =
    let low = bound_within n s.start in
    let end = end_within n s.end in
    omega (arith, low, end)

pub step_moves : (n : ℕ) (s : Slice) → fits_axis n s ≡ true → 0 < nat_abs s.step
step_moves n s fits = moves (nat_abs s.step) (is_some (bound_on n s.start) && is_some (end_on n s.end)) fits
  where
    moves : (m : ℕ) (b : Bool) → not (eqb m 0) && b ≡ true → 0 < m
    moves zero b h = cc
    moves (suc m) b h = omega arith

quotient_up-le : (r b m : ℕ) → 0 < b → quotient_up r b ≡ m → m ≤ r
quotient_up-le r b zero some e = omega arith
quotient_up-le r b (suc m) some e =
    let below = steps_below r b m some (subst (λ q. m < q) (sym e) (omega arith)) in
    let one : 1 ≤ b = some in
    let more : m * 1 ≤ m * b = mul-le-mul_left m one in
    omega (arith, below, more)

-- the new length is at most the old
pub sliced_length-le : (n : ℕ) (s : Slice) → fits_axis n s ≡ true → sliced_length n s ≤ n
sliced_length-le n s fits =
    let le = quotient_up-le (high_of n s - low_of n s) (nat_abs s.step) (sliced_length n s) (step_moves n s fits) refl in
    let high = high_within n s in
    omega (arith, le, high)

-- the coordinate that the new coordinate 0 names
pub sliced_from-zero : (n : ℕ) (s : Slice) → sliced_from n s 0 ≡ stepped_start (low_of n s) (high_of n s) s.step
sliced_from-zero n s = at s.step
  where
    at : (z : ℤ) → stepped_from (low_of n s) (high_of n s) z 0 ≡ stepped_start (low_of n s) (high_of n s) z
    at (pos k) = omega arith
    at (negsuc k) = omega arith

-- a coordinate of 0 lies at the offset of its axis whatever the stride
pub displacement_of-unmoved : (ss : List ℤ) (i : List ℕ) (a : ℕ) (t u : ℤ) → get_or i a 0 ≡ 0 → displacement_of (set ss a t) i ≡ displacement_of (set ss a u) i
displacement_of-unmoved [] i a t u h = refl
displacement_of-unmoved (s ∷ ss) [] zero t u h = refl
displacement_of-unmoved (s ∷ ss) [] (suc a) t u h = refl
displacement_of-unmoved (s ∷ ss) (i ∷ is) zero t u h = rw h (ap (λ z. z +ℤ displacement_of ss is) (zero-mul t ∙ sym (zero-mul u)))
displacement_of-unmoved (s ∷ ss) (i ∷ is) (suc a) t u h = ap (λ z. (pos i *ℤ s) +ℤ z) (displacement_of-unmoved ss is a t u h)

-- the new stride is 0 where one index is left at most, and else the old times the step
module _ (m : ℕ) (stride step : ℤ) where
  pub by_stride : (P : ℤ → Type 0) → (m ≤ 1 → P (pos 0)) → (1 < m → P (stride *ℤ step)) → P (stepped_stride m stride step)
  by_stride P short long = at (leb m 1) refl
    where
      at : (b : Bool) → leb m 1 ≡ b → P (cond b (pos 0) (stride *ℤ step))
      at true e = short (grind (arith, nat_tests, e))
      at false e = long (grind (arith, nat_tests, e))

no_reach : (m r : ℕ) → m ≤ 1 → (m - 1) * 0 ≤ r
no_reach m r h = omega arith

at_zero : (c m : ℕ) → c < m → m ≤ 1 → c ≡ 0
at_zero c m h k = omega arith

-- no element is left exactly where the axis or the shape has none
none_of : (n m rest : ℕ) → m ≤ n → (m ≡ 0) ⊎ (n * rest ≡ 0) → m * rest ≡ 0
none_of n zero rest h none = omega arith
none_of zero (suc m) rest h none = absurd (omega arith)
none_of (suc n) (suc m) rest h (inl never) = absurd (omega arith)
none_of (suc n) (suc m) zero h (inr empty) = omega arith
none_of (suc n) (suc m) (suc rest) h (inr empty) = absurd (omega arith)

none_in : (n m rest : ℕ) → m * rest ≡ 0 → (m ≡ 0) ⊎ (n * rest ≡ 0)
none_in n zero rest h = inl refl
none_in n (suc m) zero h = inr (omega arith)
none_in n (suc m) (suc rest) h = absurd (omega arith)

pub none_left : (ns : List ℕ) (a m : ℕ) → a < length ns → m ≤ get_or ns a 0 → (m ≡ 0) ⊎ (size_of ns ≡ 0) → size_of (set ns a m) ≡ 0
none_left ns a m on h none =
    size_of-set ns a m on ∙ none_of (get_or ns a 0) m (size_of (remove ns a)) h (⊎_elim (λ e. inl e) (λ e. inr (sym (size_of-removed ns a on) ∙ e)) none)

pub none_left_only : (ns : List ℕ) (a m : ℕ) → a < length ns → size_of (set ns a m) ≡ 0 → (m ≡ 0) ⊎ (size_of ns ≡ 0)
none_left_only ns a m on none =
    ⊎_elim (λ e. inl e) (λ e. inr (size_of-removed ns a on ∙ e)) (none_in (get_or ns a 0) m (size_of (remove ns a)) (sym (size_of-set ns a m on) ∙ none))

module _ (ns : List ℕ) (ss : List ℤ) (a : ℕ) (s : Slice) (many : length ss ≡ length ns) (on : a < length ns) (fits : fits_axis (get_or ns a 0) s ≡ true) where
  -- the new coordinate is below the new length
  coordinate : (i : List ℕ) → in_box (sliced_shape ns a s) i ≡ true → get_or i a 0 < sliced_length (get_or ns a 0) s
  coordinate i h =
      let m = sliced_length (get_or ns a 0) s in
      let wide : a < length (set ns a m) = subst (λ n. a < n) (sym (length-set ns a m)) on in
      subst (λ n. get_or i a 0 < n) (get_or-set_same ns a m 0 on) (coordinate_below (set ns a m) i a h wide)

  pub slice_within : (i : List ℕ) → in_box (sliced_shape ns a s) i ≡ true → in_box ns (sliced_index ns a s i) ≡ true
  slice_within i h =
      let n = get_or ns a 0 in
      let m = sliced_length n s in
      let x = sliced_from n s (get_or i a 0) in
      let range = stepped_from-within (low_of n s) (high_of n s) s.step (get_or i a 0) (step_moves n s fits) (coordinate i h) in
      let high = high_within n s in
      let below : x < n = omega (arith, range.1, high) in
      let back : set (set ns a m) a n ≡ ns = set-set ns a m n ∙ set-get_or ns a 0 in
      subst (λ l. in_box l (set i a x) ≡ true) back (in_box-set (set ns a m) i a n x h below)

  slice_displacement : (i : List ℕ) → in_box (sliced_shape ns a s) i ≡ true → displacement_of ss (sliced_index ns a s i) ≡ (pos (sliced_from (get_or ns a 0) s 0) *ℤ get_or ss a (pos 0)) +ℤ displacement_of (set ss a (stepped_stride (sliced_length (get_or ns a 0) s) (get_or ss a (pos 0)) s.step)) i
  slice_displacement i h =
      let n = get_or ns a 0 in
      let m = sliced_length n s in
      let stride = get_or ss a (pos 0) in
      let as_many : length i ≡ length ss = (length-in_box (set ns a m) i h ∙ length-set ns a m) ∙ sym many in
      let on_strides : a < length ss = subst (λ l. a < l) (sym many) on in
      let c = coordinate i h in
      let whole = displacement_of-sliced ss i a (low_of n s) (high_of n s) s.step as_many on_strides (step_moves n s fits) c in
      let start : displacement_of ss (sliced_index ns a s i) ≡ (pos (sliced_from n s 0) *ℤ stride) +ℤ displacement_of (set ss a (stride *ℤ s.step)) i =
      whole ∙ ap (λ k. (pos k *ℤ stride) +ℤ displacement_of (set ss a (stride *ℤ s.step)) i) (sym (sliced_from-zero n s)) in
      by_stride m stride s.step (λ t. displacement_of ss (sliced_index ns a s i) ≡ (pos (sliced_from n s 0) *ℤ stride) +ℤ displacement_of (set ss a t) i)
      (λ short. start ∙ ap (λ z. (pos (sliced_from n s 0) *ℤ stride) +ℤ z) (displacement_of-unmoved ss i a (stride *ℤ s.step) (pos 0) (at_zero (get_or i a 0) m c short)))
      (λ _. start)

  -- the new stride fits
  pub slice_stride_fits : span_of ns ss < 9223372036854775808 → 1 < sliced_length (get_or ns a 0) s → nat_abs (get_or ss a (pos 0) *ℤ s.step) < 9223372036854775808
  slice_stride_fits spread long =
      let n = get_or ns a 0 in
      let m = sliced_length n s in
      let stride = get_or ss a (pos 0) in
      let last = last_step_below (high_of n s - low_of n s) (nat_abs s.step) (step_moves n s fits) in
      let high = high_within n s in
      let once : 1 * nat_abs s.step ≤ (m - 1) * nat_abs s.step = mul-le-mul_right {m = 1} {n = m - 1} (nat_abs s.step) (omega (arith, long)) in
      let step : nat_abs s.step ≤ n - 1 = omega (arith, last, high, once) in
      let reach : nat_abs s.step * nat_abs stride ≤ (n - 1) * nat_abs stride = mul-le-mul_right {m = nat_abs s.step} {n = n - 1} (nat_abs stride) step in
      let part = span_of-at ns ss a many on in
      let product = unsigned_abs-mul stride s.step ∙ mul_comm (nat_abs stride) (nat_abs s.step) in
      omega (arith, reach, part, product, spread)

  slice_spread : span_of (sliced_shape ns a s) (set ss a (stepped_stride (sliced_length (get_or ns a 0) s) (get_or ss a (pos 0)) s.step)) ≤ span_of ns ss
  slice_spread =
      let n = get_or ns a 0 in
      let m = sliced_length n s in
      by_stride m (get_or ss a (pos 0)) s.step (λ t. span_of (set ns a m) (set ss a t) ≤ span_of ns ss)
      (λ short. span_of-changed ns ss a m (pos 0) many on (no_reach m ((n - 1) * nat_abs (get_or ss a (pos 0))) short))
      (λ _. span_of-sliced ns ss a (low_of n s) (high_of n s) s.step many on (step_moves n s fits) (high_within n s))

  slice_separated : IsSeparated ns ss → IsSeparated (sliced_shape ns a s) (set ss a (stepped_stride (sliced_length (get_or ns a 0) s) (get_or ss a (pos 0)) s.step))
  slice_separated apart =
      let n = get_or ns a 0 in
      let m = sliced_length n s in
      by_stride m (get_or ss a (pos 0)) s.step (λ t. IsSeparated (set ns a m) (set ss a t))
      (λ short. IsSeparated-changed ns ss a m (pos 0) many on (λ long. absurd (omega (arith, short, long))) apart)
      (λ _. IsSeparated-sliced ns ss a (low_of n s) (high_of n s) s.step many on (step_moves n s fits) (high_within n s) apart)

  -- where elements are left, there were some, and the axis has some
  pub some_sliced : (none : Bool) → (none ≡ true → size_of ns ≡ 0) → 0 < size_of (sliced_shape ns a s) → (none ≡ false) × (0 < sliced_length (get_or ns a 0) s)
  some_sliced none empty some = (was none refl, long (sliced_length (get_or ns a 0) s) refl)
    where
      gone : (sliced_length (get_or ns a 0) s ≡ 0) ⊎ (size_of ns ≡ 0) → ⊥
      gone h = let nothing = none_left ns a (sliced_length (get_or ns a 0) s) on (sliced_length-le (get_or ns a 0) s fits) h in omega (arith, some, nothing)

      was : (b : Bool) → none ≡ b → none ≡ false
      was true e = absurd (gone (inr (empty e)))
      was false e = e

      long : (m : ℕ) → sliced_length (get_or ns a 0) s ≡ m → 0 < sliced_length (get_or ns a 0) s
      long zero e = absurd (gone (inl e))
      long (suc m) e = omega (arith, e)

  -- slicing one axis is a layout step, from the place of the slice's first coordinate
  pub slice_is_step : (offset new_offset : ℕ) → (0 < size_of (sliced_shape ns a s) → pos new_offset ≡ pos offset +ℤ (pos (sliced_from (get_or ns a 0) s 0) *ℤ get_or ss a (pos 0))) → IsStep offset ns ss new_offset (sliced_shape ns a s) (set ss a (stepped_stride (sliced_length (get_or ns a 0) s) (get_or ss a (pos 0)) s.step)) (sliced_index ns a s)
  slice_is_step offset new_offset moved =
      let n = get_or ns a 0 in
      let m = sliced_length n s in
      let t = stepped_stride m (get_or ss a (pos 0)) s.step in
      record {
        within = slice_within;
        same = λ i h.
            let below = row_rank_below (set ns a m) i h in
            let start = moved (omega (arith, below)) in
            joined (pos new_offset) (pos offset) (pos (sliced_from n s 0) *ℤ get_or ss a (pos 0)) (displacement_of (set ss a t) i) (displacement_of ss (sliced_index ns a s i)) start (slice_displacement i h);
        as_many = length-set ss a t ∙ (many ∙ sym (length-set ns a m));
        spread = slice_spread;
        checked = λ few. HasCheckedSize-set ns a m on (shorter (sliced_length-le n s fits)) few;
        separated = slice_separated;
      }
    where
      joined : (p q start displacement old : ℤ) → p ≡ q +ℤ start → old ≡ start +ℤ displacement → p +ℤ displacement ≡ q +ℤ old
      joined p q start displacement old e f = rw (e, f) (omega (arith, ints))

      shorter : sliced_length (get_or ns a 0) s ≤ get_or ns a 0 → sliced_length (get_or ns a 0) s ≤ max 1 (get_or ns a 0)
      shorter h = omega (arith, h)

  -- what the code knows of the axis after the slice, and of the layout that it makes
  pub slice_makes_step : (offset new_offset len : ℕ) (stride : ℤ) (none : Bool) (new_ns : List ℕ) (new_ss : List ℤ) → (none ≡ true → size_of ns ≡ 0) → len ≡ sliced_length (get_or ns a 0) s → stride ≡ stepped_stride len (get_or ss a (pos 0)) s.step → (none ≡ false → 0 < len → pos new_offset ≡ pos offset +ℤ (pos (sliced_from (get_or ns a 0) s 0) *ℤ get_or ss a (pos 0))) → new_ns ≡ set ns a len → new_ss ≡ set ss a stride → IsStep offset ns ss new_offset new_ns new_ss (sliced_index ns a s)
  slice_makes_step offset new_offset len stride none new_ns new_ss empty long stepped moved lengths strides =
      let step = slice_is_step offset new_offset (λ left. let some = some_sliced none empty left in moved some.0 (subst (λ m. 0 < m) (sym long) some.1)) in
      rw (lengths, strides, stepped, long) step
