-- The axes that were read of a list, as the bits of a number.
use Rattle.nd_shape_and_slice.proofs.NamesFromOtherCrates.{◌≡◌, ℕ, ◌+◌, ◌*◌, ◌-◌, ◌^◌, ◌%◌, ◌<◌, ◌≤◌, List, length, take, get_or, eqb, zero, suc, subst, true, false, bit_and, bit_or, refl, ap, sym, ◌∙◌, arith, w64, ⊎_elim, cases_eq, cases_lt, eq-eqb, ne_eqb, nat_tests, take_all, count_by_more_no, count_by_more_yes, sum_by-take-le, one_shl, pow_pos, and_pow, bit_at-lt, bit_at-zero, bit_at_set_same, bit_at_set_other, bit_at_ones, bit_at_ones_above, same_from_bits, bit_at, count_by, zero-mul}
use Rattle.nd_shape_and_slice.specs.AxisPermutations.{HasEachBelow}

-- how often an axis stands among the first k
abbrev times : List ℕ → ℕ → ℕ → ℕ
times axes k a = count_by (λ b. eqb b a) (take k axes)

-- below n, bit a is how often a stands among the first k; no bit from n on is set
pub record IsViewStep (axes : List ℕ) (n seen k : ℕ) : Type 0 where
  pub below : (a : ℕ) → a < n → bit_at seen a ≡ count_by (λ b. eqb b a) (take k axes)
  pub above : (a : ℕ) → n ≤ a → bit_at seen a ≡ 0

pub none_seen : (axes : List ℕ) (n : ℕ) → IsViewStep axes n 0 0
none_seen axes n = record { below = λ a h. bit_at-zero a; above = λ a h. bit_at-zero a }

-- the mark of an axis
mark : (k : ℕ) → k < 64 → 1 * 2 ^ k % 2 ^ 64 ≡ 2 ^ k
mark k h = one_shl k 64 h

clear_bit : (seen k : ℕ) → k < 64 → bit_and seen (1 * 2 ^ k % 2 ^ 64) ≡ 0 → bit_at seen k ≡ 0
clear_bit seen k h clear = no_product (bit_at seen k) (2 ^ k) (pow_pos k) (sym (and_pow seen k) ∙ (ap (bit_and seen) (sym (mark k h)) ∙ clear))
  where
    no_product : (b p : ℕ) → 0 < p → b * p ≡ 0 → b ≡ 0
    no_product zero p pos e = refl
    no_product (suc b) p pos e = absurd (omega (arith, e, pos))

set_bit : (seen k : ℕ) → k < 64 → (bit_and seen (1 * 2 ^ k % 2 ^ 64) ≡ 0 → ⊥) → bit_at seen k ≡ 1
set_bit seen k h set =
    ⊎_elim
    (λ (none : bit_at seen k ≡ 0). absurd (set (ap (bit_and seen) (mark k h) ∙ (and_pow seen k ∙ (ap (λ b. b * 2 ^ k) none ∙ zero-mul (2 ^ k))))))
    (λ (some : bit_at seen k ≡ 0 → ⊥). omega (arith, some, bit_at-lt seen k))
    (cases_eq (bit_at seen k) 0)

-- an axis that there isn't
pub seen_past : (axes : List ℕ) (n seen k : ℕ) → k < length axes → n ≤ get_or axes k 0 → IsViewStep axes n seen k → IsViewStep axes n seen (k + 1)
seen_past axes n seen k h past is =
    record {
      below = λ a lt. is.below a lt ∙ sym (count_by_more_no (λ b. eqb b a) axes k 0 h (ne_eqb (get_or axes k 0) a (λ e. omega (arith, e, lt, past))));
      above = is.above;
    }

-- an axis whose bit was clear, and is set
pub seen_more : (axes : List ℕ) (n seen k : ℕ) → n ≤ 32 → k < length axes → get_or axes k 0 < n → bit_and seen (1 * 2 ^ get_or axes k 0 % 2 ^ 64) ≡ 0 → IsViewStep axes n seen k → IsViewStep axes n (bit_or seen (1 * 2 ^ get_or axes k 0 % 2 ^ 64)) (k + 1)
seen_more axes n seen k few h on clear is = record { below = below; above = above }
  where
    x : ℕ
    x = get_or axes k 0

    fits : x < 64
    fits = omega (arith, on, few)

    next : ℕ
    next = bit_or seen (1 * 2 ^ x % 2 ^ 64)

    here : bit_at next x ≡ times axes (k + 1) x
    here =
        bit_at_set_same w64 seen x fits
        ∙ (sym (ap (λ b. b + 1) (sym (is.below x on) ∙ clear_bit seen x fits clear)) ∙ sym (count_by_more_yes (λ b. eqb b x) axes k 0 h (eq-eqb x x refl)))

    below : (a : ℕ) → a < n → bit_at next a ≡ times axes (k + 1) a
    below a lt =
        ⊎_elim
        (λ (e : x ≡ a). subst (λ a. bit_at next a ≡ times axes (k + 1) a) e here)
        (λ (ne : x ≡ a → ⊥). bit_at_set_other w64 seen x fits a (λ e. ne (sym e)) ∙ (is.below a lt ∙ sym (count_by_more_no (λ b. eqb b a) axes k 0 h (ne_eqb x a ne))))
        (cases_eq x a)

    above : (a : ℕ) → n ≤ a → bit_at next a ≡ 0
    above a le = bit_at_set_other w64 seen x fits a (λ e. omega (arith, e, le, on)) ∙ is.above a le

-- an axis whose bit was set stands twice
pub seen_twice : (axes : List ℕ) (n seen k : ℕ) → n ≤ 32 → k < length axes → get_or axes k 0 < n → (bit_and seen (1 * 2 ^ get_or axes k 0 % 2 ^ 64) ≡ 0 → ⊥) → IsViewStep axes n seen k → HasEachBelow axes n → ⊥
seen_twice axes n seen k few h on set is each =
    let x : ℕ = get_or axes k 0 in
    let before : times axes k x ≡ 1 = sym (is.below x on) ∙ set_bit seen x (omega (arith, on, few)) set in
    let after : times axes (k + 1) x ≡ times axes k x + 1 = count_by_more_yes (λ b. eqb b x) axes k 0 h (eq-eqb x x refl) in
    let whole : times axes (k + 1) x ≤ count_by (λ b. eqb b x) axes = sum_by-take-le _ axes (k + 1) in
    omega (arith, before, after, whole, each x on)

-- all bits
pub all_seen : (axes : List ℕ) (n seen k : ℕ) → n ≤ 32 → length axes ≤ k → IsViewStep axes n seen k → seen ≡ 1 * 2 ^ n % 2 ^ 64 - 1 → HasEachBelow axes n
all_seen axes n seen k few h is full a lt =
    let ones : seen ≡ 2 ^ n - 1 = full ∙ ap (λ m. m - 1) (mark n (omega (arith, few))) in
    ap (count_by (λ b. eqb b a)) (sym (take_all k axes h)) ∙ (sym (is.below a lt) ∙ (ap (λ m. bit_at m a) ones ∙ bit_at_ones n a lt))

pub seen_all : (axes : List ℕ) (n seen k : ℕ) → n ≤ 32 → length axes ≤ k → IsViewStep axes n seen k → HasEachBelow axes n → seen ≡ 1 * 2 ^ n % 2 ^ 64 - 1
seen_all axes n seen k few h is each =
    same_from_bits seen (2 ^ n - 1) bits ∙ ap (λ m. m - 1) (sym (mark n (omega (arith, few))))
  where
    bits : (a : ℕ) → bit_at seen a ≡ bit_at (2 ^ n - 1) a
    bits a =
        ⊎_elim
        (λ (lt : a < n). is.below a lt ∙ (ap (count_by (λ b. eqb b a)) (take_all k axes h) ∙ (each a lt ∙ sym (bit_at_ones n a lt))))
        (λ (le : n ≤ a). is.above a le ∙ sym (bit_at_ones_above n a le))
        (cases_lt a n)
