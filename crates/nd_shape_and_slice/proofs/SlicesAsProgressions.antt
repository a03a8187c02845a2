-- What one element of a list of slices names on its axis, as a progression.
use Rattle.nd_shape_and_slice.proofs.NamesFromOtherCrates.{leb, eqb, not, ◌&&◌, ◌≡◌, ℕ, zero, suc, ◌+◌, ◌-◌, ◌*◌, ◌<◌, ◌≤◌, Bool, true, refl, ap, sym, ◌∙◌, arith, ℤ, pos, negsuc, nat_abs, Option, div-add-mod', nat_tests, sub-le, le-leb}
use Rattle.nd_shape_and_slice.specs.declared.slice.Slice.{Slice}
use Rattle.nd_shape_and_slice.specs.declared.slice_info.SliceInfoElem.TheVariants.{Slice as Part, NewAxis}
use Rattle.nd_shape_and_slice.specs.Slice.{fits_axis, quotient_up, sliced_length, sliced_from, low_of, high_of}
use Rattle.nd_shape_and_slice.specs.CommonElementsOfSlices.{IsProgression, lowest_from, stays_above}

one_less : (k : ℕ) → suc k - 1 ≡ k
one_less k = omega arith

-- the steps of a slice lead no further than its range
steps_within : (range d : ℕ) → (quotient_up range (suc d) - 1) * suc d ≤ range - 1
steps_within range d = at (quotient_up range (suc d)) refl
  where
    at : (k : ℕ) → quotient_up range (suc d) ≡ k → (quotient_up range (suc d) - 1) * suc d ≤ range - 1
    at zero e =
        let none : (quotient_up range (suc d) - 1) * suc d ≡ 0 * suc d = ap (λ x. (x - 1) * suc d) e in
        omega (arith, none)
    at (suc k) e =
        let whole = div-add-mod' (range + (suc d - 1)) (suc d) in
        let count : suc k * suc d ≤ range + (suc d - 1) = omega (arith, ap (λ x. x * suc d) e, whole) in
        let same : (quotient_up range (suc d) - 1) * suc d ≡ k * suc d = ap (λ x. (x - 1) * suc d) e ∙ ap (λ x. x * suc d) (one_less k) in
        omega (arith, count, same)

abbrev by_step : ℤ → Option ℤ → ℤ → Slice
by_step start end step = record { start = start; end = end; step = step }

-- going up
up : (l p t : ℕ) → l + t * p ≡ l + 0 * p + t * p
up l p t = omega arith

rises : (n p : ℕ) (start : ℤ) (end : Option ℤ) → 0 < p → IsProgression n (Part start end (pos p)) (sliced_from n (by_step start end (pos p)) 0) p (sliced_length n (by_step start end (pos p)))
rises n p start end some = record {
  steps = some;
  is_named = λ t h. (t, h, up (low_of n (by_step start end (pos p))) p t);
  only = λ x here. (here.0, here.1, sym (up (low_of n (by_step start end (pos p))) p here.0) ∙ here.2);
}

-- going down: the steps seen from the lowest
down : (high range d count t : ℕ) → (count - 1) * suc d ≤ range - 1 → range ≤ high → t < count → high - 1 - (count - 1 - t) * suc d ≡ high - 1 - 0 * suc d - (count - 1) * suc d + t * suc d
down high range d count t within below h =
    let parts : (count - 1 - t) * suc d + t * suc d ≡ (count - 1) * suc d = apart (count - 1 - t) (omega (arith, h)) in
    omega (arith, within, below, parts, h)
  where
    apart : (k : ℕ) → count - 1 ≡ k + t → k * suc d + t * suc d ≡ (count - 1) * suc d
    apart k e = omega (arith, ap (λ x. x * suc d) e)

turned : (count t : ℕ) → t < count → count - 1 - (count - 1 - t) ≡ t
turned count t h = omega (arith, h)

back_below : (count t : ℕ) → t < count → count - 1 - t < count
back_below count t h = omega (arith, h)

down_first : (high range d count : ℕ) → (count - 1) * suc d ≤ range - 1 → range ≤ high → (count - 1) * suc d ≤ high - 1 - 0 * suc d
down_first high range d count within below = omega (arith, within, below)

abbrev high_down : ℕ → ℕ → ℤ → Option ℤ → ℕ
high_down n d start end = high_of n (by_step start end (negsuc d))

abbrev range_down : ℕ → ℕ → ℤ → Option ℤ → ℕ
range_down n d start end = high_down n d start end - low_of n (by_step start end (negsuc d))

abbrev count_down : ℕ → ℕ → ℤ → Option ℤ → ℕ
count_down n d start end = quotient_up (range_down n d start end) (suc d)

place : (n d : ℕ) (start : ℤ) (end : Option ℤ) (t : ℕ) → t < count_down n d start end → high_down n d start end - 1 - (count_down n d start end - 1 - t) * suc d ≡ high_down n d start end - 1 - 0 * suc d - (count_down n d start end - 1) * suc d + t * suc d
place n d start end t h = down (high_down n d start end) (range_down n d start end) d (count_down n d start end) t (steps_within (range_down n d start end) d) (sub-le (high_down n d start end) (low_of n (by_step start end (negsuc d)))) h

sinks : (n d : ℕ) (start : ℤ) (end : Option ℤ) → IsProgression n (Part start end (negsuc d)) (sliced_from n (by_step start end (negsuc d)) 0 - (sliced_length n (by_step start end (negsuc d)) - 1) * suc d) (suc d) (sliced_length n (by_step start end (negsuc d)))
sinks n d start end = record {
  steps = omega arith;
  is_named = λ t h. (count_down n d start end - 1 - t, back_below (count_down n d start end) t h, place n d start end t h);
  only = λ x here. (count_down n d start end - 1 - here.0, back_below (count_down n d start end) here.0 here.1, (sym (place n d start end (count_down n d start end - 1 - here.0) (back_below (count_down n d start end) here.0 here.1)) ∙ ap (λ i. high_down n d start end - 1 - i * suc d) (turned (count_down n d start end) here.0 here.1)) ∙ here.2);
}

positive : (p : ℕ) (b : Bool) → not (eqb p 0) && b ≡ true → 0 < p
positive zero b h = absurd cc
positive (suc p) b h = omega arith

-- what a fitting slice names, whichever way it goes
pub progression_of : (n : ℕ) (s : Slice) (first len step low : ℕ) → fits_axis n s ≡ true → first ≡ sliced_from n s 0 → len ≡ sliced_length n s → step ≡ nat_abs s.step → low ≡ lowest_from first len s.step → IsProgression n (Part s.start s.end s.step) low step len
progression_of n s first len step low fits at count by begins = cases_of s.start s.end s.step first len step low fits at count by begins
  where
    cases_of : (start : ℤ) (end : Option ℤ) (by : ℤ) (first len step low : ℕ) → fits_axis n (by_step start end by) ≡ true → first ≡ sliced_from n (by_step start end by) 0 → len ≡ sliced_length n (by_step start end by) → step ≡ nat_abs by → low ≡ lowest_from first len by → IsProgression n (Part start end by) low step len
    cases_of start end (pos p) first len step low fits at count by begins = rw (begins, at, count, by) (rises n p start end (positive p _ fits))
    cases_of start end (negsuc d) first len step low fits at count by begins = rw (begins, at, count, by) (sinks n d start end)

-- and going down it stays on the axis
pub stays_on : (n : ℕ) (s : Slice) (first len : ℕ) → first ≡ sliced_from n s 0 → len ≡ sliced_length n s → stays_above first len s.step ≡ true
stays_on n s first len at count = cases_of s.start s.end s.step first len at count
  where
    cases_of : (start : ℤ) (end : Option ℤ) (by : ℤ) (first len : ℕ) → first ≡ sliced_from n (by_step start end by) 0 → len ≡ sliced_length n (by_step start end by) → stays_above first len by ≡ true
    cases_of start end (pos p) first len at count = refl
    cases_of start end (negsuc d) first len at count = rw (at, count) (le-leb _ _ (down_first (high_down n d start end) (range_down n d start end) d (count_down n d start end) (steps_within (range_down n d start end) d) (sub-le (high_down n d start end) (low_of n (by_step start end (negsuc d))))))

-- an element that reads no axis stands for all of it
pub whole_axis : (n : ℕ) → IsProgression n NewAxis 0 1 n
whole_axis n = record {
  steps = omega arith;
  is_named = λ t h. omega (arith, h);
  only = λ x h. (x, h, omega arith);
}
