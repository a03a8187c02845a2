-- A layout whose axis steps over all the others, which are full by themselves: it is full at any length of the axis, and
-- can grow along it.
use Rattle.nd_layout.proofs.NamesFromOtherCrates.{ℕ, ⊎_elim, inl, inr, ◌⊎◌, ◌&&◌, subst, ◌+◌, ◌-◌, ◌<◌, ◌≤◌, ◌≡◌, List, length, get_or, set, ltb, eqb, cond, ◌||◌, Bool, true, false, arith, refl, ap, sym, ◌∙◌, ℤ, pos, ◌+ℤ◌, ◌*ℤ◌, nat_abs, int_lt, remove, mul-le-mul_right, cases_lt, ltb-false, lt-ltb, and_cases, or_parts, true≢false, length-set, set-get_or, in_box, size_of, displacement_of, span_of, magnitude_at, IsSeparated, row_strides, column_strides_from, length-in_box, length-row_strides, span_of-row_strides, IsSeparated-row_strides, length-column_strides_from, span_of-column_strides, IsSeparated-column_strides, coordinate_below}
use Rattle.nd_layout.specs.GrowthAlongAxis.{growing_strides, greatest_step, must_move, strides_of_appended}
use Rattle.nd_layout.specs.StridesAfterLayoutCalls.{reach_down}
use Rattle.nd_layout.proofs.AxisChange.{on_axis}
use Rattle.nd_layout.proofs.growing_lemmas.LongerBoxes.{not_negative, reach_down-set}
use Rattle.nd_layout.proofs.growing_lemmas.AxisOfAnyLength.{extended_full}
use Rattle.nd_layout.proofs.growing_lemmas.GrowingStrides.{growing_strides-is, reach-le-span}
use Rattle.nd_layout.proofs.Integers.{sums, zero-mul}
use Rattle.nd_layout.proofs.DisplacementChanges.{displacement_of-set}
use Rattle.nd_layout.proofs.growing_lemmas.ReadyToGrowAgain.{slowest_ready}
use Rattle.nd_layout.proofs.reshape_lemmas.SlowestAxisOfRun.{slowest_axis}
use Rattle.nd_layout.proofs.SizesOfChangedAxes.{size_of-set}

-- the axis may grow: none of the others steps further than all their elements
pub extended_ready : (ns : List ℕ) (ss : List ℤ) (a m : ℕ) → length ss ≡ length ns → a < length ns → span_of (set ns a 1) ss + 1 ≡ size_of (set ns a 1) → must_move (set ns a m) (set ss a (pos (size_of (set ns a 1)))) a ≡ false
extended_ready ns ss a m e h full =
    let os = set ns a 1 in
    let l = length-set ns a 1 in
    slowest_ready ns ss a m (size_of os) e h
    (λ j long.
    let r = reach-le-span os ss j (e ∙ sym l) (on_axis os j long) in
    let q = mul-le-mul_right {m = 1} {n = get_or os j 0 - 1} (magnitude_at ss j) (omega arith) in
    omega arith)

-- ---- fresh layouts
pub base_full : (b : Bool) (os : List ℕ) → 0 < size_of os → (length (cond b (column_strides_from 1 os) (row_strides os)) ≡ length os) × IsSeparated os (cond b (column_strides_from 1 os) (row_strides os)) × (span_of os (cond b (column_strides_from 1 os) (row_strides os)) + 1 ≡ size_of os)
base_full true os some = (length-column_strides_from 1 os, IsSeparated-column_strides os some, span_of-column_strides os some)
base_full false os some = (length-row_strides os, IsSeparated-row_strides os some, span_of-row_strides os some)

module _ (ns : List ℕ) (a m : ℕ) (h : a < length ns) (others : 0 < size_of (set ns a 1)) where
  abbrev base : List ℤ
  base = cond (eqb (a + 1) (length ns)) (column_strides_from 1 (set ns a 1)) (row_strides (set ns a 1))

  -- the strides of fresh storage, at any length of the axis
  pub laid_full : 0 < m → IsSeparated (set ns a m) (growing_strides a ns) × (span_of (set ns a m) (growing_strides a ns) + 1 ≡ size_of (set ns a m))
  laid_full some =
      let w = base_full (eqb (a + 1) (length ns)) (set ns a 1) others in
      rw (growing_strides-is a ns h) (extended_full ns base a m (pos (size_of (set ns a 1))) (w.0 ∙ length-set ns a 1) h some w.1 w.2 refl)

  pub laid_ready : must_move (set ns a m) (growing_strides a ns) a ≡ false
  laid_ready =
      let w = base_full (eqb (a + 1) (length ns)) (set ns a 1) others in
      rw (growing_strides-is a ns h) (extended_ready ns base a m (w.0 ∙ length-set ns a 1) h w.2)

-- ---- full storage that goes on
-- the other axes are full by themselves, and the axis is of length 1, or steps over all of them already
pub record StepsOver (ns : List ℕ) (ss : List ℤ) (a : ℕ) : Type 0 where
  pub apart : IsSeparated (set ns a 1) ss
  pub full : span_of (set ns a 1) ss + 1 ≡ size_of (set ns a 1)
  pub kept : (get_or ns a 0 ≡ 1) ⊎ (get_or ss a (pos 0) ≡ pos (size_of (set ns a 1)))

-- what must_move tells of an axis longer than 1
still_axis : (s : ℤ) (n g : ℕ) → (ltb 1 n && (int_lt s (pos 0) || ltb (nat_abs s) g)) ≡ false → 1 < n → (s ≡ pos (nat_abs s)) × (g ≤ nat_abs s)
still_axis s n g still long =
    ⊎_elim
    (λ (short : ltb 1 n ≡ false). absurd (true≢false (sym (lt-ltb 1 n long) ∙ short)))
    (λ (both : (int_lt s (pos 0) || ltb (nat_abs s) g) ≡ false).
    let parts = or_parts (int_lt s (pos 0)) (ltb (nat_abs s) g) both in
    let up = not_negative s parts.0 in
    (up.1 ∙ ap (λ z. pos (nat_abs z)) (sym up.1), ltb-false (nat_abs s) g parts.1))
    (and_cases (ltb 1 n) (int_lt s (pos 0) || ltb (nat_abs s) g) still)

module _ (ns : List ℕ) (ss : List ℤ) (a : ℕ) (e : length ss ≡ length ns) (h : a < length ns) where
  abbrev others : List ℕ
  others = set ns a 1

  pub steps_over : 0 < get_or ns a 0 → IsSeparated ns ss → span_of ns ss + 1 ≡ size_of ns → must_move ns ss a ≡ false → StepsOver ns ss a
  steps_over least apart full still =
      ⊎_elim
      (λ (long : 1 < get_or ns a 0).
      let axis = still_axis (get_or ss a (pos 0)) (get_or ns a 0) (greatest_step others ss) still long in
      let w = slowest_axis ns ss a e h long axis.1 apart full in
      record { apart = w.0; full = w.1; kept = inr (axis.0 ∙ ap pos w.2) })
      (λ (short : get_or ns a 0 ≤ 1).
      let one : get_or ns a 0 ≡ 1 = omega arith in
      let same : ns ≡ others = sym (ap (set ns a) (sym one) ∙ set-get_or ns a 0) in
      record {
        apart = subst (λ ms. IsSeparated ms ss) same apart;
        full = subst (λ ms. span_of ms ss + 1 ≡ size_of ms) same full;
        kept = inl one;
      })
      (cases_lt 1 (get_or ns a 0))

  module _ (over : StepsOver ns ss a) where
    after_is : strides_of_appended ns ss a ≡ set ss a (pos (size_of others))
    after_is = ap (λ n. set ss a (pos n)) (let o = size_of-set ns a 1 h in omega arith)

    pub length-after : length (strides_of_appended ns ss a) ≡ length ns
    length-after = length-set ss a (pos (size_of (remove ns a))) ∙ e

    pub after_full : (m : ℕ) → 0 < m → IsSeparated (set ns a m) (strides_of_appended ns ss a) × (span_of (set ns a m) (strides_of_appended ns ss a) + 1 ≡ size_of (set ns a m))
    after_full m some = rw after_is (extended_full ns ss a m (pos (size_of others)) e h some over.apart over.full refl)

    pub after_ready : (m : ℕ) → must_move (set ns a m) (strides_of_appended ns ss a) a ≡ false
    after_ready m = rw after_is (extended_ready ns ss a m e h over.full)

    -- where the axis steps over the others already, its stride stays
    same_strides : get_or ss a (pos 0) ≡ pos (size_of others) → strides_of_appended ns ss a ≡ ss
    same_strides is = after_is ∙ ap (set ss a) (sym is) ∙ set-get_or ss a (pos 0)

    -- each old index keeps its displacement
    pub after_kept : (i : List ℕ) → in_box ns i ≡ true → displacement_of (strides_of_appended ns ss a) i ≡ displacement_of ss i
    after_kept i inside = by_kept over.kept
      where
        first : (z t : ℤ) (x y : ℤ) → x +ℤ z ≡ y +ℤ t → z ≡ pos 0 → t ≡ pos 0 → x ≡ y
        first z t x y e p q = omega (arith, sums)

        by_kept : (get_or ns a 0 ≡ 1) ⊎ (get_or ss a (pos 0) ≡ pos (size_of others)) → displacement_of (strides_of_appended ns ss a) i ≡ displacement_of ss i
        by_kept (inr is) = ap (λ ts. displacement_of ts i) (same_strides is)
        by_kept (inl one) =
            let l = length-in_box ns i inside in
            let below = coordinate_below ns i a inside h in
            let t = pos (size_of (remove ns a)) in
            let nought : get_or i a 0 ≡ 0 = omega arith in
            let same : set i a 0 ≡ i = ap (set i a) (sym nought) ∙ set-get_or i a 0 in
            let moved = displacement_of-set ss i a t 0 (l ∙ sym e) (omega arith) in
            sym (ap (displacement_of (set ss a t)) same)
            ∙ first (pos (get_or i a 0) *ℤ get_or ss a (pos 0)) (pos 0 *ℤ t) _ _ moved (ap (λ k. pos k *ℤ get_or ss a (pos 0)) nought ∙ zero-mul (get_or ss a (pos 0))) (zero-mul t)

    -- the lowest place stays
    pub after_low : (m : ℕ) → reach_down (set ns a m) (strides_of_appended ns ss a) ≡ reach_down ns ss
    after_low m = reach_down-set ns ss a m (size_of (remove ns a)) e h ∙ by_kept over.kept
      where
        by_kept : (get_or ns a 0 ≡ 1) ⊎ (get_or ss a (pos 0) ≡ pos (size_of others)) → reach_down others ss ≡ reach_down ns ss
        by_kept (inl one) = ap (λ ms. reach_down ms ss) (ap (set ns a) (sym one) ∙ set-get_or ns a 0)
        by_kept (inr is) =
            sym (reach_down-set ns ss a (get_or ns a 0) (size_of (remove ns a)) e h)
            ∙ ap (reach_down (set ns a (get_or ns a 0))) (same_strides is)
            ∙ ap (λ ms. reach_down ms ss) (set-get_or ns a 0)
