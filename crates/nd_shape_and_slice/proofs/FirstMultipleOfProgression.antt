-- The first number of a progression that a divisor divides, by division with rest: the next question is asked of the
-- rest and the divisor.
use Rattle.nd_shape_and_slice.proofs.NamesFromOtherCrates.{◌≡◌, ◌≢◌, ℕ, zero, suc, ◌+◌, ◌-◌, ◌*◌, ◌/◌, ◌%◌, ◌<◌, ◌≤◌, ap, sym, ◌∙◌, arith, mul-le-mul_left, le_of_mul-le-mul_left, lt_of_mul-lt-mul_left, mul-le-mul_right, nat_lt, true, false, nat_tests, div-add-mod', mod_below, lt-ltb, ltb-true}
use Rattle.nd_shape_and_slice.specs.CommonElementsOfSlices.{IsFirstMultiple, Share}

-- a quotient is below what bounds both the start and the step
pub quotient_below : (d c m w t bound : ℕ) → d * t ≡ c + m * w → w < d → c < bound → m < bound → t < bound
quotient_below d c m w t zero e h k l = absurd (omega arith)
quotient_below d c m w t (suc b) e h k l =
    let step : w * m ≤ w * b = mul-le-mul_left w (omega (arith, l)) in
    let turn : (w + 1) * b ≤ d * b = mul-le-mul_right {m = w + 1} {n = d} b (omega (arith, h)) in
    let all : d * t ≤ d * b = omega (arith, e, k, step, turn) in
    at (le_of_mul-le-mul_left {k = d} all (omega (arith, h)))
  where
    at : t ≤ b → t < suc b
    at h = omega (arith, h)

-- from an answer for the rest to one for the divisor
next_equal : (d a o q r w s : ℕ) → o < d → r * s ≡ d - o + d * w → d * (q * s + w + (a + 1)) ≡ a * d + o + (q * d + r) * s
next_equal d a o q r w s h e = omega (arith, h, e)

next_below : (d o r w s : ℕ) → 0 < o → o < d → w < r → r * s ≡ d - o + d * w → s < d
next_below d o r w s some h below e =
    let turn : d * (w + 1) ≤ d * r = mul-le-mul_left d (omega (arith, below)) in
    let all : r * s < r * d = omega (arith, some, h, e, turn) in
    lt_of_mul-lt-mul_left r all

-- and back: an answer for the divisor gives one for the rest
back : (d a o q r v u : ℕ) → 0 < o → o < d → d * u ≡ a * d + o + (q * d + r) * v → r * v ≡ d - o + d * (u - (q * v + a + 1))
back d a o q r v u some h e =
    let over : d * (q * v + a) < d * u = omega (arith, e, some) in
    let past : q * v + a < u = lt_of_mul-lt-mul_left d over in
    at (u - (q * v + a + 1)) (omega (arith, past))
  where
    at : (k : ℕ) → u ≡ k + (q * v + a + 1) → r * v ≡ d - o + d * (u - (q * v + a + 1))
    at k is =
        let same : u - (q * v + a + 1) ≡ k = omega (arith, is) in
        let whole : d * u ≡ d * k + d * (q * v + a + 1) = ap (λ x. d * x) is ∙ omega arith in
        omega (arith, e, whole, h, ap (λ x. d * x) same)

by_rest : (d c : ℕ) → c ≡ c / d * d + c % d
by_rest d c = sym (div-add-mod' c d)

-- the first number itself
pub at_once : (d c m : ℕ) → 0 < d → c % d ≡ 0 → IsFirstMultiple d c m 0 (c / d)
at_once d c m some e = record {
  equal = omega (arith, by_rest d c, e);
  below = some;
  least = λ v u h. omega arith;
}

no_rest : (d a o q v u : ℕ) → o < d → d * u ≡ a * d + o + (q * d + 0) * v → o ≡ 0
no_rest d a o q v u h e =
    let upper : d * u < d * (q * v + a + 1) = omega (arith, h, e) in
    let within : u ≤ q * v + a = below_next (lt_of_mul-lt-mul_left d upper) in
    let lower : d * u ≤ d * (q * v + a) = mul-le-mul_left d within in
    omega (arith, e, lower)
  where
    below_next : u < q * v + a + 1 → u ≤ q * v + a
    below_next k = omega (arith, k)

-- the number by its quotient and its rest
split : (d c m v : ℕ) → c + m * v ≡ c / d * d + c % d + (m / d * d + m % d) * v
split d c m v = ap (λ x. x + m * v) (by_rest d c) ∙ ap (λ x. c / d * d + c % d + x * v) (by_rest d m)

-- a step that the divisor divides changes nothing
pub never_by_rest : (d c m : ℕ) → 0 < d → c % d ≢ 0 → m % d ≡ 0 → (v u : ℕ) → d * u ≡ c + m * v → ⊥
never_by_rest d c m some over whole v u e = over (no_rest d (c / d) (c % d) (m / d) v u (mod_below c d some) (e ∙ (split d c m v ∙ ap (λ x. c / d * d + c % d + (m / d * d + x) * v) whole)))

pub found : (d c m w s : ℕ) → 0 < d → c % d ≢ 0 → m % d ≢ 0 → IsFirstMultiple (m % d) (d - c % d) d w s → IsFirstMultiple d c m s (m / d * s + w + (c / d + 1))
found d c m w s some over rest inner = record {
  equal = next_equal d (c / d) (c % d) (m / d) (m % d) w s within inner.equal ∙ sym whole;
  below = next_below d (c % d) (m % d) w s (omega (arith, over)) within inner.below inner.equal;
  least = λ v u e.
      let before : w ≤ u - (m / d * v + c / d + 1) = inner.least (u - (m / d * v + c / d + 1)) v (back d (c / d) (c % d) (m / d) (m % d) v u (omega (arith, over)) within (e ∙ split d c m v)) in
      let there = back d (c / d) (c % d) (m / d) (m % d) v u (omega (arith, over)) within (e ∙ split d c m v) in
      let turns : d * w ≤ d * (u - (m / d * v + c / d + 1)) = mul-le-mul_left d before in
      let all : m % d * s ≤ m % d * v = omega (arith, inner.equal, there, turns) in
      le_of_mul-le-mul_left {k = m % d} all (omega (arith, rest));
}
  where
    within : c % d < d
    within = mod_below c d some

    whole : c + m * s ≡ c / d * d + c % d + (m / d * d + m % d) * s
    whole = split d c m s

pub never : (d c m : ℕ) → 0 < d → c % d ≢ 0 → ((v u : ℕ) → m % d * u ≡ d - c % d + d * v → ⊥) → (v u : ℕ) → d * u ≡ c + m * v → ⊥
never d c m some over none v u e = none (u - (m / d * v + c / d + 1)) v (back d (c / d) (c % d) (m / d) (m % d) v u (omega (arith, over)) (mod_below c d some) (e ∙ split d c m v))

-- two progressions, the second of which begins no lower: their first common number decides
pub shared : (l d k l' d' k' w t : ℕ) → l ≤ l' → IsFirstMultiple d (l' - l) d' w t → w < k' → t < k → Share l d k l' d' k'
shared l d k l' d' k' w t order first within within_low = record {
  at_first = t;
  at_second = w;
  in_first = within_low;
  in_second = within;
  equal = omega (arith, order, first.equal);
}

pub share_first : (l d k l' d' k' w t : ℕ) → 0 < d → l ≤ l' → IsFirstMultiple d (l' - l) d' w t → Share l d k l' d' k' → (w < k') × (t < k)
share_first l d k l' d' k' w t some order first share =
    let there : d * share.at_first ≡ l' - l + d' * share.at_second = omega (arith, order, share.equal) in
    let before : w ≤ share.at_second = first.least share.at_second share.at_first there in
    let steps : d' * w ≤ d' * share.at_second = mul-le-mul_left d' before in
    let all : d * t ≤ d * share.at_first = omega (arith, there, first.equal, steps) in
    let low : t ≤ share.at_first = le_of_mul-le-mul_left {k = d} all some in
    (omega (arith, before, share.in_second), omega (arith, low, share.in_first))

pub no_share : (l d k l' d' k' : ℕ) → l ≤ l' → ((v u : ℕ) → d * u ≡ l' - l + d' * v → ⊥) → Share l d k l' d' k' → ⊥
no_share l d k l' d' k' order none share = none share.at_second share.at_first (omega (arith, order, share.equal))

pub share_swapped : (l d k l' d' k' : ℕ) → Share l d k l' d' k' → Share l' d' k' l d k
share_swapped l d k l' d' k' share = record {
  at_first = share.at_second;
  at_second = share.at_first;
  in_first = share.in_second;
  in_second = share.in_first;
  equal = sym share.equal;
}

-- where the second progression reaches the number, they share one exactly where the first one does
pub shared_where : (l d k l' d' k' w t : ℕ) → 0 < d → l ≤ l' → IsFirstMultiple d (l' - l) d' w t → w < k' → (nat_lt t k ≡ true → Share l d k l' d' k') × (Share l d k l' d' k' → nat_lt t k ≡ true)
shared_where l d k l' d' k' w t some order first within = (λ h. shared l d k l' d' k' w t order first within (ltb-true t k h), λ s. lt-ltb t k (share_first l d k l' d' k' w t some order first s).1)

-- where it doesn't, they share none, and neither where there is no such number
pub missed_where : (l d k l' d' k' w t : ℕ) → 0 < d → l ≤ l' → IsFirstMultiple d (l' - l) d' w t → k' ≤ w → (nat_lt w k' ≡ true → Share l d k l' d' k') × (Share l d k l' d' k' → nat_lt w k' ≡ true)
missed_where l d k l' d' k' w t some order first past = (
  λ h. let within = ltb-true w k' h in absurd (omega (arith, within, past)),
  λ share. let within = (share_first l d k l' d' k' w t some order first share).0 in absurd (omega (arith, within, past)),
)

pub never_where : (l d k l' d' k' : ℕ) → l ≤ l' → ((v u : ℕ) → d * u ≡ l' - l + d' * v → ⊥) → (false ≡ true → Share l d k l' d' k') × (Share l d k l' d' k' → false ≡ true)
never_where l d k l' d' k' order none = (λ h. cc, λ share. absurd (no_share l d k l' d' k' order none share))
