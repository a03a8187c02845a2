-- After an append the array is ready to grow along the axis again.
use Rattle.nd_layout.proofs.NamesFromOtherCrates.{ℕ, ⊎_elim, ◌<◌, ◌≤◌, ◌≡◌, List, length, get_or, set, ltb, ◌&&◌, ◌||◌, Bool, true, false, arith, refl, ap, ◌∙◌, ℤ, pos, nat_abs, int_lt, cases_eq, le-ltb, set-set, get_or-set_same, get_or-set_other, magnitude_at}
use Rattle.nd_layout.specs.GrowthAlongAxis.{greatest_step, must_move}
use Rattle.nd_layout.proofs.growing_lemmas.AxisOfAnyLength.{greatest_step-le}

stays_by : (long : Bool) (t g : ℕ) → g ≤ t → (long && (int_lt (pos t) (pos 0) || ltb t g)) ≡ false
stays_by true t g h = ap (λ b. b || ltb t g) (le-ltb t 0 (omega arith)) ∙ le-ltb t g h
stays_by false t g h = refl

-- an axis of the greatest step, whatever its length
pub slowest_ready : (ns : List ℕ) (ss : List ℤ) (a m t : ℕ) → length ss ≡ length ns → a < length ns → ((j : ℕ) → 1 < get_or (set ns a 1) j 0 → magnitude_at ss j ≤ t) → must_move (set ns a m) (set ss a (pos t)) a ≡ false
slowest_ready ns ss a m t e h least =
    let ms = set ns a m in
    let ts = set ss a (pos t) in
    let at : get_or ts a (pos 0) ≡ pos t = get_or-set_same ss a (pos t) (pos 0) (omega arith) in
    let others : set ms a 1 ≡ set ns a 1 = set-set ns a m 1 in
    let bound : greatest_step (set ns a 1) ts ≤ t =
    greatest_step-le t (set ns a 1) ts
    (λ j long. ⊎_elim
    (λ (is : j ≡ a). absurd (let o : get_or (set ns a 1) j 0 ≡ 1 = ap (λ k. get_or (set ns a 1) k 0) is ∙ get_or-set_same ns a 1 0 h in omega arith))
    (λ (other : j ≡ a → ⊥).
    let same : magnitude_at ts j ≡ magnitude_at ss j = ap nat_abs (get_or-set_other ss a j (pos t) (pos 0) other) in
    let most = least j long in
    omega arith)
    (cases_eq j a)) in
    rw (at, others) (stays_by (ltb 1 (get_or ms a 0)) t (greatest_step (set ns a 1) ts) bound)
