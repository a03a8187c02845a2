-- What a sum or a maximum over the axes has for one axis and those after it.
use Rattle.nd_layout.proofs.NamesFromOtherCrates.{◌≡◌, ℕ, ◌+◌, ◌-◌, ◌*◌, ◌<◌, ◌≤◌, max, add-one, cond, ltb, leb, List, length, drop, get_or, arith, ℤ, pos, nat_abs, nat_tests, span_of, span_within}
use Rattle.std.proofs.Math.Seq.{drop-cons}
use Rattle.nd_layout.specs.GrowthAlongAxis.{greatest_step}

module _ (ns : List ℕ) (ss : List ℤ) (k : ℕ) (as_many : length ss ≡ length ns) (on : k < length ns) where
  pub span_next : span_of (drop k ns) (drop k ss) ≡ (get_or ns k 0 - 1) * nat_abs (get_or ss k (pos 0)) + span_of (drop (k + 1) ns) (drop (k + 1) ss)
  span_next = rw (add-one, drop-cons ns k 0 on, drop-cons ss k (pos 0) (omega arith))

  pub within_next : (m : ℕ) → span_within m (drop k ns) (drop k ss) ≡ cond (leb (nat_abs (get_or ss k (pos 0))) m) ((get_or ns k 0 - 1) * nat_abs (get_or ss k (pos 0))) 0 + span_within m (drop (k + 1) ns) (drop (k + 1) ss)
  within_next m = rw (add-one, drop-cons ns k 0 on, drop-cons ss k (pos 0) (omega arith))

  pub step_next : greatest_step (drop k ns) (drop k ss) ≡ max (cond (ltb 1 (get_or ns k 0)) (nat_abs (get_or ss k (pos 0))) 0) (greatest_step (drop (k + 1) ns) (drop (k + 1) ss))
  step_next = rw (add-one, drop-cons ns k 0 on, drop-cons ss k (pos 0) (omega arith))

-- the greater of what there was and a step that counts where its axis is longer than 1
pub step_larger : (g n s : ℕ) → 1 < n → g < s → s ≡ max g (cond (ltb 1 n) s 0)
step_larger g n s long more = grind (arith, nat_tests)

pub step_smaller : (g n s : ℕ) → 1 < n → s ≤ g → g ≡ max g (cond (ltb 1 n) s 0)
step_smaller g n s long less = grind (arith, nat_tests)

pub step_short : (g n s : ℕ) → n ≤ 1 → g ≡ max g (cond (ltb 1 n) s 0)
step_short g n s short = grind (arith, nat_tests)
