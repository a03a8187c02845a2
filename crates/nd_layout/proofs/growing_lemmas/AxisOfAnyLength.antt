-- An axis that steps further than all others reach together may be of any length.
use Rattle.nd_layout.proofs.NamesFromOtherCrates.{ℕ, ⊎_elim, zero, suc, ◌+◌, ◌-◌, ◌*◌, ◌<◌, ◌≤◌, ◌≡◌, ◌≢◌, List, [], ◌∷◌, length, get_or, set, ltb, leb, cond, arith, refl, ap, sym, ◌∙◌, ℤ, pos, ◌+ℤ◌, nat_abs, mul-le-mul_right, mul-le-mul_left, le_of_mul-le-mul_left, eq_of_mul-eq-mul_left, cases_lt, cases_eq, lt-ltb, le-ltb, le-leb, length-set, set-set, set_comm, get_or-set_same, get_or-set_other, size_of, column_rank, displacement_of, span_of, span_within, magnitude_at, IsSeparated, span_within-le, neg_ℤ}
use Rattle.nd_layout.specs.GrowthAlongAxis.{greatest_step}
use Rattle.nd_layout.proofs.ReachSumLoops.{mul-pred}
use Rattle.nd_layout.proofs.AxisChange.{on_axis, counted_cases, counted_none, span_of-set, span_within-set, others_below, separated_by_others}
use Rattle.nd_layout.specs.RanksAndReshapeStrides.{column_index}
use Rattle.nd_layout.proofs.NthElementInColumnMajor.{in_box-column_index, column_rank-column_index}
use Rattle.nd_layout.proofs.reshape_lemmas.RunFromSpan.{above_low, above_low-is, above_low-le}
use Rattle.nd_layout.proofs.reshape_lemmas.Pigeonhole.{pigeonhole}
use Rattle.nd_layout.proofs.DistinctPlaces.{same_index}
use Rattle.nd_layout.proofs.SizesOfChangedAxes.{size_of-set}
use Rattle.nd_layout.proofs.growing_lemmas.GrowingStrides.{reach-le-span}
use Rattle.nd_layout.specs.StridesAfterLayoutCalls.{reach_down}

-- separated axes, and one more that steps further than they reach and than each of them
pub IsSeparated-extended : (ns : List ℕ) (ss : List ℤ) (a m : ℕ) (t : ℤ) → length ss ≡ length ns → a < length ns → IsSeparated (set ns a 1) ss → span_of (set ns a 1) ss < nat_abs t → ((k : ℕ) → 1 < get_or (set ns a 1) k 0 → magnitude_at ss k < nat_abs t) → IsSeparated (set ns a m) (set ss a t)
IsSeparated-extended ns ss a m t e h apart far above =
    separated_by_others (set ns a m) (set ss a t) (length-set ss a t ∙ e ∙ sym (length-set ns a m))
    (λ k long. ⊎_elim
    (λ (is : k ≡ a).
    rw is
    (let lt : a < length ss = omega arith in
    let as_before = span_within-set (nat_abs t) ns ss a 1 t e h in
    let none = counted_none (leb (nat_abs t) (nat_abs t)) (nat_abs t) in
    let less = span_within-le (nat_abs t) (set ns a 1) ss in
    rw (set-set ns a m 1, get_or-set_same ss a t (pos 0) lt) (omega arith)))
    (λ (other : k ≡ a → ⊥).
    let other' : a ≢ k = λ q. other (sym q) in
    let n_is = get_or-set_other ns a k m 0 other in
    let one_is = get_or-set_other ns a k 1 0 other in
    let s_is = get_or-set_other ss a k t (pos 0) other in
    let long' : 1 < get_or (set ns a 1) k 0 = omega arith in
    let g = magnitude_at ss k in
    let below = others_below (set ns a 1) ss (e ∙ sym (length-set ns a 1)) apart k long' in
    let near = above k long' in
    let l = length-set ns k 1 in
    let new = span_within-set g (set ns k 1) ss a m t (e ∙ sym l) (omega arith) in
    let not_counted : cond (leb (nat_abs t) g) ((m - 1) * nat_abs t) 0 ≡ 0 =
    ⊎_elim (λ in_g. absurd (omega arith)) (λ out. out.1) (counted_cases (nat_abs t) g ((m - 1) * nat_abs t)) in
    let turned = set_comm ns a k m 1 other' in
    let turned' = set_comm ns a k 1 1 other' in
    let below' = rw turned' at below in
    rw (s_is, turned) (omega arith))
    (cases_eq k a))

-- separated axes have no more elements than places
pub size-le-span : (ns : List ℕ) (ss : List ℤ) → length ss ≡ length ns → IsSeparated ns ss → size_of ns ≤ span_of ns ss + 1
size-le-span ns ss e apart =
    ⊎_elim
    (λ (more : span_of ns ss + 1 < size_of ns).
    let f : ℕ → ℕ = λ r. above_low ns ss (displacement_of ss (column_index ns r)) in
    let below : (r : ℕ) → r < size_of ns → f r < size_of ns = λ r h. let l = above_low-le ns ss (column_index ns r) (in_box-column_index ns r h) in omega arith in
    let once : (r q : ℕ) → r < size_of ns → q < size_of ns → f r ≡ f q → r ≡ q =
    λ r q h k same.
    let in_i = in_box-column_index ns r h in
    let in_j = in_box-column_index ns q k in
    let offsets = above_low-is ns ss (column_index ns r) in_i ∙ ap (λ n. neg_ℤ (pos (reach_down ns ss)) +ℤ pos n) same ∙ sym (above_low-is ns ss (column_index ns q) in_j) in
    sym (column_rank-column_index ns r h) ∙ ap (λ x. column_rank ns x) (same_index ns ss (column_index ns r) (column_index ns q) e apart in_i in_j offsets) ∙ column_rank-column_index ns q k in
    let w = pigeonhole (size_of ns) f below once (size_of ns - 1) (omega arith) in
    let l = above_low-le ns ss (column_index ns w.0) (in_box-column_index ns w.0 w.1) in
    let v = w.2 in
    absurd (omega arith))
    (λ (h : size_of ns ≤ span_of ns ss + 1). h)
    (cases_lt (span_of ns ss + 1) (size_of ns))

-- ---- numbers
-- where the last axis of a run reaches (n - 1) steps over W others, and the others have at most W + 1 elements,
-- the step is their number
pub last_step : (n A W P : ℕ) → 1 < n → W < A → P ≤ W + 1 → (n - 1) * A + W + 1 ≡ n * P → (A ≡ P) × (W + 1 ≡ P)
last_step n A W P long far few all =
    let q = mul-pred n (W + 1) (omega arith) in
    let most = mul-le-mul_left {m = P} {n = W + 1} n few in
    let less : A ≤ W + 1 = le_of_mul-le-mul_left {m = A} {n = W + 1} {k = n - 1} (omega arith) (omega arith) in
    let is : A ≡ W + 1 = omega arith in
    let product : (n - 1) * A ≡ (n - 1) * (W + 1) = ap (λ x. (n - 1) * x) is in
    let same : P ≡ W + 1 = eq_of_mul-eq-mul_left n (omega arith) P (W + 1) (omega arith) in
    (is ∙ sym same, sym same)

-- ---- the greatest of the axes longer than 1
step_counted : (n x : ℕ) → 1 < n → cond (ltb 1 n) x 0 ≡ x
step_counted n x long = rw (lt-ltb 1 n long) refl

-- no axis longer than 1 has a greater step
pub le-greatest_step : (ns : List ℕ) (ss : List ℤ) (j : ℕ) → length ss ≡ length ns → 1 < get_or ns j 0 → magnitude_at ss j ≤ greatest_step ns ss
le-greatest_step [] ss j e long = absurd (omega arith)
le-greatest_step (n ∷ ns) [] j e long = absurd (omega arith)
le-greatest_step (n ∷ ns) (s ∷ ss) zero e long = omega (arith, step_counted n (nat_abs s) long)
le-greatest_step (n ∷ ns) (s ∷ ss) (suc j) e long = omega (arith, le-greatest_step ns ss j (omega arith) long)

step_counted-le : (n x B : ℕ) → (1 < n → x ≤ B) → cond (ltb 1 n) x 0 ≤ B
step_counted-le n x B h =
    ⊎_elim
    (λ (long : 1 < n). rw (lt-ltb 1 n long) (h long))
    (λ (short : n ≤ 1). rw (le-ltb 1 n short) (omega arith))
    (cases_lt 1 n)

-- a bound on each step
pub greatest_step-le : (B : ℕ) (ns : List ℕ) (ss : List ℤ) → ((j : ℕ) → 1 < get_or ns j 0 → magnitude_at ss j ≤ B) → greatest_step ns ss ≤ B
greatest_step-le B [] ss h = omega arith
greatest_step-le B (n ∷ ns) [] h = omega arith
greatest_step-le B (n ∷ ns) (s ∷ ss) h = omega (arith, step_counted-le n (nat_abs s) B (h 0), greatest_step-le B ns ss (λ j. h (suc j)))

-- counted up to a bound on all steps, the count is the span
pub span_within-all : (g : ℕ) (ns : List ℕ) (ss : List ℤ) → ((j : ℕ) → 1 < get_or ns j 0 → magnitude_at ss j ≤ g) → span_within g ns ss ≡ span_of ns ss
span_within-all g [] ss h = refl
span_within-all g (n ∷ ns) [] h = refl
span_within-all g (n ∷ ns) (s ∷ ss) h =
    let rest = span_within-all g ns ss (λ j. h (suc j)) in
    let r = (n - 1) * nat_abs s in
    ⊎_elim
    (λ (long : 1 < n). let c = counted_in (nat_abs s) g r (h 0 long) in omega arith)
    (λ (short : n ≤ 1).
    let z : n - 1 ≡ 0 = omega arith in
    let zr : r ≡ 0 = ap (λ k. k * nat_abs s) z ∙ omega arith in
    ⊎_elim (λ in_g. omega (arith, in_g.1)) (λ out. omega (arith, out.1)) (counted_cases (nat_abs s) g r))
    (cases_lt 1 n)
  where
    counted_in : (x g r : ℕ) → x ≤ g → cond (leb x g) r 0 ≡ r
    counted_in x g r h = rw (le-leb x g h) refl

-- ---- a full layout of the other axes, and an axis whose step is their number
pub extended_full : (ns : List ℕ) (ss : List ℤ) (a m : ℕ) (t : ℤ) → length ss ≡ length ns → a < length ns → 0 < m → IsSeparated (set ns a 1) ss → span_of (set ns a 1) ss + 1 ≡ size_of (set ns a 1) → nat_abs t ≡ size_of (set ns a 1) → IsSeparated (set ns a m) (set ss a t) × (span_of (set ns a m) (set ss a t) + 1 ≡ size_of (set ns a m))
extended_full ns ss a m t e h some apart full step =
    let os = set ns a 1 in
    let l = length-set ns a 1 in
    let span = span_of-set ns ss a m t e h in
    let size = size_of-set ns a m h in
    let others = size_of-set ns a 1 h in
    let P = size_of os in
    let product : (m - 1) * nat_abs t ≡ (m - 1) * P = ap (λ x. (m - 1) * x) step in
    let p = mul-pred m P some in
    let size' : size_of (set ns a m) ≡ m * P = size ∙ ap (λ x. m * x) (omega arith) in (
      IsSeparated-extended ns ss a m t e h apart (omega arith)
          (λ k long.
          let r = reach-le-span os ss k (e ∙ sym l) (on_axis os k long) in
          let q = mul-le-mul_right {m = 1} {n = get_or os k 0 - 1} (magnitude_at ss k) (omega arith) in
          omega arith),
      omega arith,
    )
