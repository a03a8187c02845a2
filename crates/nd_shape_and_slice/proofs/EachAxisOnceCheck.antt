-- The test for each axis once, and what it tests.
use Rattle.nd_shape_and_slice.proofs.NamesFromOtherCrates.{◌≡◌, ℕ, zero, suc, ◌+◌, ◌<◌, ◌≤◌, Bool, true, false, eqb, ◌&&◌, List, length, refl, ap, sym, ◌∙◌, arith, ⊎_elim, false≢true, cases_lt, eqb-true, eq-eqb, and_from, nat_tests, count_by, list_all, range_with_len, both_ways}
use Rattle.nd_shape_and_slice.specs.AxisPermutations.{HasEachAxis, names_each_axis}

pub and_left : (a b : Bool) → a && b ≡ true → a ≡ true
and_left true b h = refl
and_left false b h = h

pub and_right : (a b : Bool) → a && b ≡ true → b ≡ true
and_right true b h = h
and_right false b h = absurd (false≢true h)

-- a test of each number of a range
pub range_pass : (p : ℕ → Bool) (low n a : ℕ) → list_all p (range_with_len low n) ≡ true → low ≤ a → a < low + n → p a ≡ true
range_pass p low zero a h le lt = absurd (omega arith)
range_pass p low (suc n) a h le lt =
    ⊎_elim
    (λ (above : low < a). range_pass p (low + 1) n a (and_right (p low) (list_all p (range_with_len (low + 1) n)) h) (omega arith) (omega arith))
    (λ (at : a ≤ low). let same : a ≡ low = omega arith in ap p same ∙ and_left (p low) (list_all p (range_with_len (low + 1) n)) h)
    (cases_lt low a)

pub pass_range : (p : ℕ → Bool) (low n : ℕ) → ((a : ℕ) → low ≤ a → a < low + n → p a ≡ true) → list_all p (range_with_len low n) ≡ true
pass_range p low zero h = refl
pass_range p low (suc n) h =
    and_from (p low) (list_all p (range_with_len (low + 1) n)) (h low (omega arith) (omega arith)) (pass_range p (low + 1) n (λ a le lt. h a (omega arith) (omega arith)))

pub HasEachAxis-test : (axes : List ℕ) (n : ℕ) → names_each_axis axes n ≡ true → HasEachAxis axes n
HasEachAxis-test axes n h =
    let once : ℕ → Bool = λ (a : ℕ). eqb (count_by (λ b. eqb b a) axes) 1 in (
      eqb-true (length axes) n (and_left (eqb (length axes) n) (list_all once (range_with_len 0 n)) h),
      λ a lt. eqb-true (count_by (λ b. eqb b a) axes) 1 (range_pass once 0 n a (and_right (eqb (length axes) n) (list_all once (range_with_len 0 n)) h) (omega arith) (omega arith)),
    )

pub test-HasEachAxis : (axes : List ℕ) (n : ℕ) → HasEachAxis axes n → names_each_axis axes n ≡ true
test-HasEachAxis axes n each =
    let once : ℕ → Bool = λ (a : ℕ). eqb (count_by (λ b. eqb b a) axes) 1 in
    and_from (eqb (length axes) n) (list_all once (range_with_len 0 n)) (eq-eqb (length axes) n each.0)
    (pass_range once 0 n (λ a le lt. eq-eqb (count_by (λ b. eqb b a) axes) 1 (each.1 a (omega arith))))

pub answer_is : (b : Bool) (axes : List ℕ) (n : ℕ) → (b ≡ true → HasEachAxis axes n) → (HasEachAxis axes n → b ≡ true) → b ≡ names_each_axis axes n
answer_is b axes n h k = both_ways b (names_each_axis axes n) (λ e. test-HasEachAxis axes n (h e)) (λ e. k (HasEachAxis-test axes n e))
