-- A layout that fills its storage has no gaps, and grows on after it.
use Rattle.nd_layout.proofs.NamesFromOtherCrates.{ℕ, ◌+◌, ◌-◌, ◌*◌, ◌<◌, ◌≤◌, ◌≡◌, List, length, replicate, get_or, set, true, false, arith, refl, ap, sym, subst, ◌∙◌, ℤ, pos, ◌+ℤ◌, ◌*ℤ◌, neg_ℤ, lt-ltb, length-set, length-replicate, set-set, set-get_or, get_or-set_same, HasCheckedSize, in_box, size_of, displacement_of, place_of, span_of, IsSeparated, lower_shape, upper_shape, upper_index, length-in_box, nonzero_product-size_of, row_rank_below, span_of-zeros, pos-*ℤ-pos, remove}
use borrow.Author.Differences.{up, down, neg_is}
use Rattle.nd_layout.specs.ValidMemoryPlaces.{is_place}
use Rattle.nd_layout.specs.ValidLayoutsAndSteps.{IsValid}
use Rattle.nd_layout.specs.StridesAfterLayoutCalls.{reach_down}
use Rattle.nd_layout.specs.GrowthAlongAxis.{grown_shape, must_move, strides_of_appended}
use Rattle.nd_layout.specs.LayoutStepsOfCalls.{Placement}
use Rattle.nd_layout.specs.OrderOfAppendedPlaces.{FillsStorage, IsFilledAfter, IsGrown}
use Rattle.nd_layout.proofs.Integers.{sums}
use Rattle.nd_layout.proofs.walk_lemmas.NextIndexOfWalk.{displacement_of-put}
use Rattle.nd_layout.proofs.AxisRemovedOrInserted.{size_of-removed}
use Rattle.nd_layout.proofs.growing_lemmas.AxisOfAnyLength.{size-le-span}
use Rattle.nd_layout.proofs.growing_lemmas.FreshStorageAxisOrder.{axis_long}
use Rattle.nd_layout.proofs.growing_lemmas.GrownLayout.{StepsOver, steps_over, length-after, after_full, after_ready, after_kept, after_low}
use Rattle.nd_layout.proofs.order_lemmas.MemoryOrder.{same_placement}
use Rattle.nd_layout.proofs.reshape_lemmas.RunFromSpan.{above_low, above_low-is, above_low-lt, each_above_low}
use Rattle.nd_layout.proofs.steps.StepsKeepValidLayouts.{origin_in_box}
use Rattle.nd_layout.proofs.reshape_lemmas.RunIsSeparatedWithFullSpan.{flip, lasts, in_box-flip, in_box-lasts, dot-zeros, dot-lasts, displacement_of-flip}

-- ---- what fills its storage has no gaps, and begins at place 0
ends : (o low span size a b : ℕ) (x y : ℤ) → up x + low ≡ down x + 0 → up y + low ≡ down y + span → pos o +ℤ x ≡ pos a → pos o +ℤ y ≡ pos b → b < size → size ≤ span + 1 → (span + 1 ≡ size) × (o ≡ low)
ends o low span size a b x y first last at_first at_last below few = (omega (arith, sums), omega (arith, sums))

pub filled_full : (l : Placement) → length l.strides ≡ length l.lengths → FillsStorage l → 0 < size_of l.lengths → (span_of l.lengths l.strides + 1 ≡ size_of l.lengths) × (l.offset ≡ reach_down l.lengths l.strides)
filled_full l many fills some =
    let ns = l.lengths in
    let ss = l.strides in
    let first = origin_in_box ns some in
    let last = in_box-lasts ns some in
    let lowest = fills.within (flip ns ss (replicate (length ns) 0)) (in_box-flip ns ss (replicate (length ns) 0) first) in
    let highest = fills.within (flip ns ss (lasts ns)) (in_box-flip ns ss (lasts ns) last) in
    ends l.offset (reach_down ns ss) (span_of ns ss) (size_of ns) lowest.0 highest.0 (displacement_of ss (flip ns ss (replicate (length ns) 0))) (displacement_of ss (flip ns ss (lasts ns)))
    (displacement_of-flip ns ss (replicate (length ns) 0) many first ∙ ap (λ n. down (displacement_of ss (flip ns ss (replicate (length ns) 0))) + n) (dot-zeros ss (length ns)))
    (displacement_of-flip ns ss (lasts ns) many last ∙ ap (λ n. down (displacement_of ss (flip ns ss (lasts ns))) + n) (dot-lasts ns ss many))
    lowest.2 highest.2 highest.1 (size-le-span ns ss many fills.apart)

-- ---- the grown layout
-- a displacement above the lowest, as a place
placed : (o low k : ℕ) (z : ℤ) → o ≡ low → z ≡ neg_ℤ (pos low) +ℤ pos k → pos o +ℤ z ≡ pos k
placed o low k z e f = omega (arith, sums, neg_is (pos low))

-- so many coordinates further on
lifted : (o c n p size k : ℕ) (s x y : ℤ) → s ≡ pos p → y +ℤ (pos c *ℤ s) ≡ x +ℤ (pos (c + n) *ℤ s) → size ≡ n * p → pos o +ℤ x ≡ pos k → pos o +ℤ y ≡ pos (size + k)
lifted o c n p size k s x y step e f g =
    let first : pos c *ℤ s ≡ pos (c * p) = ap (λ z. pos c *ℤ z) step ∙ pos-*ℤ-pos c p in
    let second : pos (c + n) *ℤ s ≡ pos ((c + n) * p) = ap (λ z. pos (c + n) *ℤ z) step ∙ pos-*ℤ-pos (c + n) p in
    let parts : (c + n) * p ≡ c * p + n * p = omega arith in
    omega (arith, sums, first, second, parts)

module _ (l : Placement) (a : ℕ) (many : length l.strides ≡ length l.lengths) (on : a < length l.lengths) (some : 0 < size_of l.lengths) (fills : FillsStorage l) (still : must_move l.lengths l.strides a ≡ false) where
  abbrev ns : List ℕ
  ns = l.lengths

  abbrev ts : List ℤ
  ts = strides_of_appended l.lengths l.strides a

  over : StepsOver l.lengths l.strides a
  over = steps_over ns l.strides a many on (axis_long ns a on some) fills.apart (filled_full l many fills some).0 still

  -- at any length of the axis the places are the numbers below the size, one for each index
  module _ (m : ℕ) (more : 0 < m) where
    full : IsSeparated (set ns a m) ts × (span_of (set ns a m) ts + 1 ≡ size_of (set ns a m))
    full = after_full ns l.strides a many on over m more

    long : length ts ≡ length (set ns a m)
    long = length-after ns l.strides a many on over ∙ sym (length-set ns a m)

    lowest : l.offset ≡ reach_down (set ns a m) ts
    lowest = (filled_full l many fills some).1 ∙ sym (after_low ns l.strides a many on over m)

    within : (i : List ℕ) → in_box (set ns a m) i ≡ true → (k : ℕ) × (k < size_of (set ns a m)) × (place_of l.offset ts i ≡ pos k)
    within i h =
        let k = above_low (set ns a m) ts (displacement_of ts i) in
        (k, above_low-lt (set ns a m) ts i full.1 h, placed l.offset (reach_down (set ns a m) ts) k (displacement_of ts i) lowest (above_low-is (set ns a m) ts i h))

    each : (k : ℕ) → k < size_of (set ns a m) → (i : List ℕ) × (in_box (set ns a m) i ≡ true) × (place_of l.offset ts i ≡ pos k)
    each k h =
        let w = each_above_low (set ns a m) ts long full.0 full.1 k h in
        (w.0, w.1, placed l.offset (reach_down (set ns a m) ts) k (displacement_of ts w.0) lowest w.2)

    -- after the old elements
    pushed : (i : List ℕ) (k : ℕ) → in_box (set ns a m) i ≡ true → place_of l.offset ts i ≡ pos k → place_of l.offset ts (upper_index a (get_or ns a 0) i) ≡ pos (size_of ns + k)
    pushed i k h at =
        let c = get_or i a 0 in
        let n = get_or ns a 0 in
        let p = size_of (remove ns a) in
        let wide : length i ≡ length ts = length-in_box (set ns a m) i h ∙ sym long in
        let axis : a < length ts = omega (arith, long, length-set ns a m, on) in
        let step : get_or ts a (pos 0) ≡ pos p = get_or-set_same l.strides a (pos p) (pos 0) (omega (arith, many, on)) in
        lifted l.offset c n p (size_of ns) k (get_or ts a (pos 0)) (displacement_of ts i) (displacement_of ts (set i a (c + n))) step (displacement_of-put ts i a (c + n) wide axis) (size_of-removed ns a on) at

  module _ (added : ℕ) (more : 0 < added) where
    whole : 0 < get_or ns a 0 + added
    whole = omega arith

    lower_is : lower_shape (grown_shape ns a added) a (get_or ns a 0) ≡ ns
    lower_is = set-set ns a (get_or ns a 0 + added) (get_or ns a 0) ∙ set-get_or ns a 0

    upper_is : upper_shape (grown_shape ns a added) a (get_or ns a 0) ≡ set ns a added
    upper_is =
        set-set ns a (get_or ns a 0 + added) (get_or (grown_shape ns a added) a 0 - get_or ns a 0)
        ∙ ap (set ns a) (let e = get_or-set_same ns a (get_or ns a 0 + added) 0 on in omega (arith, e))

    after_at : (k : ℕ) → size_of ns + k ≡ size_of (lower_shape (grown_shape ns a added) a (get_or ns a 0)) + k
    after_at k = ap (λ ms. size_of ms + k) (sym lower_is)

    grown_after : IsFilledAfter (record { offset = l.offset; lengths = grown_shape ns a added; strides = ts }) a (get_or ns a 0)
    grown_after = record {
      apart = (full (get_or ns a 0 + added) whole).0;
      beyond = λ i h.
          let inside = subst (λ ms. in_box ms i ≡ true) upper_is h in
          let w = within added more i inside in
          (w.0, subst (λ ms. w.0 < size_of ms) (sym upper_is) w.1, pushed added more i w.0 inside w.2 ∙ ap pos (after_at w.0));
      each = λ k h.
          let w = each added more k (subst (λ ms. k < size_of ms) upper_is h) in
          (w.0, subst (λ ms. in_box ms w.0 ≡ true) (sym upper_is) w.1, pushed added more w.0 k w.1 w.2 ∙ ap pos (after_at k));
    }

    pub valid_grown : HasCheckedSize (grown_shape ns a added) → IsValid l.offset (grown_shape ns a added) ts
    valid_grown checked =
        let m = get_or ns a 0 + added in
        let span = (full m whole).1 in
        let size = nonzero_product-size_of (grown_shape ns a added) (omega (arith, span)) in
        record {
          as_many = long m whole;
          spread = omega (arith, span, size, checked);
          checked = checked;
          reach = λ i h. let w = within m whole i h in let few = w.1 in ap is_place w.2 ∙ lt-ltb w.0 9223372036854775808 (omega (arith, few, size, checked));
        }

    pub is_grown : (new : Placement) → new.offset ≡ l.offset → new.lengths ≡ grown_shape ns a added → new.strides ≡ ts → IsGrown l a added new
    is_grown new offset lengths strides =
        subst (IsGrown l a added) (sym (same_placement new (record { offset = l.offset; lengths = grown_shape ns a added; strides = ts }) offset lengths strides))
        (record {
          lengths = refl;
          strides = refl;
          offset = refl;
          kept = λ i h. ap (λ z. pos l.offset +ℤ z) (after_kept ns l.strides a many on over i h);
          after = grown_after;
          fills = record { apart = (full (get_or ns a 0 + added) whole).0; within = within (get_or ns a 0 + added) whole };
          ready = after_ready ns l.strides a many on over (get_or ns a 0 + added);
        })

-- ---- without elements
pub zeros_valid : (o : ℕ) (ns : List ℕ) → size_of ns ≡ 0 → HasCheckedSize ns → IsValid o ns (replicate (length ns) (pos 0))
zeros_valid o ns none checked = record {
  as_many = length-replicate (length ns) (pos 0);
  spread = let e = span_of-zeros ns (length ns) in omega (arith, e);
  checked = checked;
  reach = λ i h. absurd (let below = row_rank_below ns i h in omega (arith, below, none));
}
