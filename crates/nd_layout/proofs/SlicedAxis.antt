-- A slice of one axis: which coordinates it names, how far the new axis reaches, and where its indexes lie.
use Rattle.nd_layout.proofs.NamesFromOtherCrates.{ℕ, ⊎_elim, suc, ◌+◌, ◌-◌, ◌*◌, ◌/◌, ◌<◌, ◌≤◌, ◌≡◌, List, length, get_or, set, arith, ◌∙◌, ℤ, pos, negsuc, ◌+ℤ◌, ◌*ℤ◌, nat_abs, mul-le-mul_right, mul_comm, div-add-mod', unsigned_abs-mul, cases_lt, quotient_up, stepped_from, displacement_of, span_of, IsSeparated}
use Rattle.nd_layout.specs.StridesAfterLayoutCalls.{stepped_start}
use Rattle.nd_layout.proofs.DisplacementChanges.{displacement_of-stepped_up, displacement_of-stepped_down}
use Rattle.nd_layout.proofs.AxisChange.{IsSeparated-changed, span_of-changed}

-- each of the coordinates below the rounded quotient leads to less than the whole
pub steps_below : (a b i : ℕ) → 0 < b → i < quotient_up a b → i * b < a
steps_below a b i some h =
    let whole = div-add-mod' (a + (b - 1)) b in
    let next = mul-le-mul_right {m = suc i} {n = (a + (b - 1)) / b} b h in
    omega arith

-- the last of them too
pub last_step_below : (a b : ℕ) → 0 < b → (quotient_up a b - 1) * b ≤ a - 1
last_step_below a b some =
    ⊎_elim
    (λ (h : 0 < quotient_up a b). let l = steps_below a b (quotient_up a b - 1) some (omega arith) in omega arith)
    (λ (none : quotient_up a b ≤ 0). let z : quotient_up a b - 1 ≡ 0 = omega arith in rw z (omega arith))
    (cases_lt 0 (quotient_up a b))

-- the old coordinates of a slice lie in the range that it steps over
pub stepped_from-within : (low high : ℕ) (step : ℤ) (i : ℕ) → 0 < nat_abs step → i < quotient_up (high - low) (nat_abs step) → (low ≤ stepped_from low high step i) × (stepped_from low high step i < high)
stepped_from-within low high (pos step) i some h = let b = steps_below (high - low) step i some h in (omega arith, omega arith)
stepped_from-within low high (negsuc step) i some h = let b = steps_below (high - low) (suc step) i some h in (omega arith, omega arith)

-- the displacement of the old index is that of the slice's start and that of the new index under the new stride
pub displacement_of-sliced : (ss : List ℤ) (i : List ℕ) (a low high : ℕ) (step : ℤ) → length i ≡ length ss → a < length ss → 0 < nat_abs step → get_or i a 0 < quotient_up (high - low) (nat_abs step) → displacement_of ss (set i a (stepped_from low high step (get_or i a 0))) ≡ (pos (stepped_start low high step) *ℤ get_or ss a (pos 0)) +ℤ displacement_of (set ss a (get_or ss a (pos 0) *ℤ step)) i
displacement_of-sliced ss i a low high (pos step) e h some within = displacement_of-stepped_up ss i a low step e h
displacement_of-sliced ss i a low high (negsuc step) e h some within =
    let b = steps_below (high - low) (suc step) (get_or i a 0) some within in
    displacement_of-stepped_down ss i a (high - 1) step e h (omega arith)

-- the span doesn't grow, where the range lies on the axis
pub span_of-sliced : (ns : List ℕ) (ss : List ℤ) (a low high : ℕ) (step : ℤ) → length ss ≡ length ns → a < length ns → 0 < nat_abs step → high ≤ get_or ns a 0 → span_of (set ns a (quotient_up (high - low) (nat_abs step))) (set ss a (get_or ss a (pos 0) *ℤ step)) ≤ span_of ns ss
span_of-sliced ns ss a low high step e h some on =
    let s = get_or ss a (pos 0) in
    let m = quotient_up (high - low) (nat_abs step) in
    let abs = unsigned_abs-mul s step in
    let last = last_step_below (high - low) (nat_abs step) some in
    let product = mul-le-mul_right {m = (m - 1) * nat_abs step} {n = get_or ns a 0 - 1} (nat_abs s) (omega arith) in
    span_of-changed ns ss a m (s *ℤ step) e h (rw abs (omega arith))

-- and separation is kept
pub IsSeparated-sliced : (ns : List ℕ) (ss : List ℤ) (a low high : ℕ) (step : ℤ) → length ss ≡ length ns → a < length ns → 0 < nat_abs step → high ≤ get_or ns a 0 → IsSeparated ns ss → IsSeparated (set ns a (quotient_up (high - low) (nat_abs step))) (set ss a (get_or ss a (pos 0) *ℤ step))
IsSeparated-sliced ns ss a low high step e h some on apart =
    let s = get_or ss a (pos 0) in
    let m = quotient_up (high - low) (nat_abs step) in
    IsSeparated-changed ns ss a m (s *ℤ step) e h
    (λ _. (nat_abs step, unsigned_abs-mul s step ∙ mul_comm (nat_abs s) (nat_abs step), some, let last = last_step_below (high - low) (nat_abs step) some in omega arith))
    apart
