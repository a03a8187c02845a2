-- A layout step that changes one axis: its length, its stride, and the old coordinate that each new one names.
use Rattle.nd_layout.proofs.NamesFromOtherCrates.{◌≡◌, ℕ, zero, suc, ◌+◌, ◌-◌, ◌*◌, ◌<◌, ◌≤◌, Bool, true, false, max, List, length, get_or, set, replicate, ℤ, pos, ◌+ℤ◌, ◌*ℤ◌, nat_abs, refl, ap, sym, ◌∙◌, subst, arith, ⊎_elim, mul_assoc, mul-le-mul_right, ltb, cond, cases_lt, ltb-false, false≢true, neg_ℤ, length-set, get_or-set_same, set-get_or, set-set, ints, in_box, size_of, displacement_of, place_of, span_of, row_rank_below, length-in_box, displacement_of-origin, coordinate_below, inverted_index, collapsed_shape, collapsed_index, lower_shape, upper_shape, upper_index, in_box-set}
use Rattle.nd_layout.proofs.AxisChange.{span_of-at, span_of-changed, IsSeparated-changed}
use Rattle.nd_layout.proofs.Integers.{sums, zero-mul, add-mul, mul-neg}
use Rattle.nd_layout.proofs.DisplacementChanges.{displacement_of-moved}
use Rattle.nd_layout.proofs.SizesOfChangedAxes.{HasCheckedSize-set, size_of-set, abs-neg}
use Rattle.nd_layout.specs.ValidMemoryPlaces.{is_place, ReachesPlaces}
use Rattle.nd_layout.specs.SliceElementOnAxis.{LeadsToPlaces}
use Rattle.nd_layout.specs.ValidLayoutsAndSteps.{IsStep}
use Rattle.nd_layout.specs.StridesAfterLayoutCalls.{opposite_stride}
use Rattle.nd_layout.proofs.steps.PlaceComputedByAxes.{offset_is_place}
use Rattle.nd_layout.proofs.steps.StepsKeepValidLayouts.{origin_in_box, zero_at}

-- an axis of length n and stride s becomes one of length m and stride t, whose coordinate c names x c
pub record IsAxisChange (n : ℕ) (s : ℤ) (m : ℕ) (t : ℤ) (x : ℕ → ℕ) : Type 0 where
  pub below : (c : ℕ) → c < m → x c < n
  pub moves : (c : ℕ) → c < m → pos (x c) *ℤ s ≡ (pos (x 0) *ℤ s) +ℤ (pos c *ℤ t)
  pub few : m ≤ max 1 n
  pub steps : 1 < m → (k : ℕ) × (nat_abs t ≡ k * nat_abs s) × (1 ≤ k) × ((m - 1) * k ≤ n - 1)

no_further : (n m s t : ℕ) → (1 < m → (k : ℕ) × (t ≡ k * s) × (1 ≤ k) × ((m - 1) * k ≤ n - 1)) → (m - 1) * t ≤ (n - 1) * s
no_further n m s t steps =
    ⊎_elim
    (λ long.
    let w = steps long in
    let e : (m - 1) * t ≡ (m - 1) * w.0 * s = ap (λ v. (m - 1) * v) w.1 ∙ sym (mul_assoc (m - 1) w.0 s) in
    let product = mul-le-mul_right {m = (m - 1) * w.0} {n = n - 1} s w.3 in
    omega (arith, e, product))
    (λ short. let z : m - 1 ≡ 0 = omega arith in let e = ap (λ v. v * t) z in omega (arith, e))
    (cases_lt 1 m)

pub some_left : (ns : List ℕ) (a m : ℕ) → a < length ns → 0 < size_of (set ns a m) → 0 < m
some_left ns a zero on some = let e = size_of-set ns a 0 on in absurd (omega (arith, e, some))
some_left ns a (suc m) on some = omega arith

pub positive : (n : ℕ) → (n ≡ 0 → ⊥) → 0 < n
positive zero h = absurd (h refl)
positive (suc n) h = omega arith

add_nothing : (z w : ℤ) → w ≡ pos 0 → z +ℤ w ≡ z
add_nothing z w e = rw e (omega (arith, ints))

plus_zero : (z s : ℤ) → z ≡ z +ℤ (pos 0 *ℤ s)
plus_zero z s = rw (zero-mul s) (omega (arith, ints))

joined : (p q start displacement old : ℤ) → p ≡ q +ℤ start → old ≡ start +ℤ displacement → p +ℤ displacement ≡ q +ℤ old
joined p q start displacement old e f = rw (e, f) (omega (arith, ints))

-- ---- the changes of the calls
one_step : (m n s : ℕ) → m ≤ n → (k : ℕ) × (s ≡ k * s) × (1 ≤ k) × ((m - 1) * k ≤ n - 1)
one_step m n s h = (1, omega arith, omega arith, omega arith)

-- one coordinate is kept
pub collapse_change : (n k : ℕ) (s : ℤ) → k < n → IsAxisChange n s 1 s (λ c. k)
collapse_change n k s h = record {
  below = λ c _. h;
  moves = λ c below. let e : c ≡ 0 = omega arith in rw e (plus_zero (pos k *ℤ s) s);
  few = omega arith;
  steps = λ long. absurd (omega (arith, long));
}

-- the coordinates below k
pub lower_change : (n k : ℕ) (s : ℤ) → k ≤ n → IsAxisChange n s k s (λ c. c)
lower_change n k s h = record {
  below = λ c below. omega (arith, below, h);
  moves = λ c below. rw (zero-mul s) (omega (arith, ints));
  few = omega arith;
  steps = λ long. one_step k n (nat_abs s) h;
}

-- the coordinates from k on
pub upper_change : (n k : ℕ) (s : ℤ) → k ≤ n → IsAxisChange n s (n - k) s (λ c. c + k)
upper_change n k s h = record {
  below = λ c below. omega (arith, below, h);
  moves = λ c below.
      let start : 0 + k ≡ k = omega arith in
      let whole = add-mul c k s in
      rw (start, whole) (omega (arith, ints));
  few = omega arith;
  steps = λ long. one_step (n - k) n (nat_abs s) (omega arith);
}

times_one : (x y : ℕ) → x ≡ y → x ≡ 1 * y
times_one x y e = omega (arith, e)

-- the coordinates from the far end; a stride whose opposite doesn't fit belongs to an axis of length 1 at most
far_moves : (n c : ℕ) (s : ℤ) → c < n → pos (n - 1 - c) *ℤ s ≡ (pos (n - 1 - 0) *ℤ s) +ℤ (pos c *ℤ neg_ℤ s)
far_moves n c s below =
    let parts : n - 1 - 0 ≡ (n - 1 - c) + c = omega arith in
    let whole = ap (λ k. pos k *ℤ s) parts ∙ add-mul (n - 1 - c) c s in
    let back = mul-neg c s in
    omega (arith, sums, whole, back)

pub invert_change : (n : ℕ) (s : ℤ) → (n - 1) * nat_abs s < 9223372036854775808 → IsAxisChange n s n (opposite_stride s) (λ c. n - 1 - c)
invert_change n s reach = at (ltb (nat_abs s) 9223372036854775808) refl
  where
    at : (b : Bool) → ltb (nat_abs s) 9223372036854775808 ≡ b → IsAxisChange n s n (cond b (neg_ℤ s) (pos 0)) (λ c. n - 1 - c)
    at true e = record {
      below = λ c below. omega (arith, below);
      moves = λ c below. far_moves n c s below;
      few = omega arith;
      steps = λ long. (1, times_one (nat_abs (neg_ℤ s)) (nat_abs s) (abs-neg s), omega arith, omega arith);
    }
    at false e =
        let big : 9223372036854775808 ≤ nat_abs s = ltb-false (nat_abs s) 9223372036854775808 e in
        let short : n ≤ 1 = short_axis n (nat_abs s) big reach in
        record {
          below = λ c below. omega (arith, below);
          moves = λ c below. let z : c ≡ 0 = omega (arith, below, short) in rw z (plus_zero (pos (n - 1 - 0) *ℤ s) (pos 0));
          few = omega arith;
          steps = λ long. absurd (omega (arith, long, short));
        }
      where
        short_axis : (n s : ℕ) → 9223372036854775808 ≤ s → (n - 1) * s < 9223372036854775808 → n ≤ 1
        short_axis zero s big reach = omega arith
        short_axis (suc zero) s big reach = omega arith
        short_axis (suc (suc n)) s big reach = let more = mul-le-mul_right {m = 1} {n = suc (suc n) - 1} s (omega arith) in absurd (omega (arith, big, reach, more))

-- ---- as layout steps
module _ (ns : List ℕ) (ss : List ℤ) (a : ℕ) (many : length ss ≡ length ns) (on : a < length ns) where
  on_strides : a < length ss
  on_strides = subst (λ l. a < l) (sym many) on

  -- where elements are left, each coordinate of the axis leads to a place
  pub moved_place : (offset m q : ℕ) → ReachesPlaces offset ns ss → 0 < size_of (set ns a m) → q < get_or ns a 0 → is_place (pos offset +ℤ (pos q *ℤ get_or ss a (pos 0))) ≡ true
  moved_place offset m q reach some below =
      let n = get_or ns a 0 in
      let s = get_or ss a (pos 0) in
      let origin = replicate (length (set ns a m)) 0 in
      let here = origin_in_box (set ns a m) some in
      let back : set (set ns a m) a n ≡ ns = set-set ns a m n ∙ set-get_or ns a 0 in
      let there : in_box ns (set origin a q) ≡ true = subst (λ l. in_box l (set origin a q) ≡ true) back (in_box-set (set ns a m) origin a n q here below) in
      let as_many : length origin ≡ length ss = (length-in_box (set ns a m) origin here ∙ length-set ns a m) ∙ sym many in
      let still : pos q *ℤ s ≡ (pos q *ℤ s) +ℤ (pos (get_or origin a 0) *ℤ s) = rw (zero_at (length (set ns a m)) a) (plus_zero (pos q *ℤ s) s) in
      let nowhere : displacement_of (set ss a s) origin ≡ pos 0 = displacement_of-origin (set ss a s) (length (set ns a m)) in
      let whole : displacement_of ss (set origin a q) ≡ pos q *ℤ s = displacement_of-moved ss origin a s q (pos q *ℤ s) as_many on_strides still ∙ add_nothing (pos q *ℤ s) (displacement_of (set ss a s) origin) nowhere in
      sym (ap (λ z. is_place (pos offset +ℤ z)) whole) ∙ reach (set origin a q) there

  pub whole_leads : (offset : ℕ) (none : Bool) → ReachesPlaces offset ns ss → (size_of ns ≡ 0 → none ≡ true) → none ≡ false → LeadsToPlaces offset (get_or ns a 0) (get_or ss a (pos 0))
  whole_leads offset none reach only some c below =
      let left : 0 < size_of (set ns a (get_or ns a 0)) = subst (λ l. 0 < size_of l) (sym (set-get_or ns a 0)) (positive (size_of ns) (λ z. false≢true (sym some ∙ only z))) in
      moved_place offset (get_or ns a 0) c reach left below

  pub offset_below : (offset m : ℕ) → ReachesPlaces offset ns ss → 0 < size_of (set ns a m) → 0 < get_or ns a 0 → offset < 9223372036854775808
  offset_below offset m reach some long =
      let n = get_or ns a 0 in
      let origin = replicate (length (set ns a m)) 0 in
      let back : set (set ns a m) a n ≡ ns = set-set ns a m n ∙ set-get_or ns a 0 in
      let there : in_box ns (set origin a 0) ≡ true = subst (λ l. in_box l (set origin a 0) ≡ true) back (in_box-set (set ns a m) origin a n 0 (origin_in_box (set ns a m) some) long) in
      offset_is_place offset ns (set origin a 0) ss there reach

  module _ (m : ℕ) (t : ℤ) (x : ℕ → ℕ) (change : IsAxisChange (get_or ns a 0) (get_or ss a (pos 0)) m t x) where
    change_coordinate : (i : List ℕ) → in_box (set ns a m) i ≡ true → get_or i a 0 < m
    change_coordinate i h =
        let wide : a < length (set ns a m) = subst (λ n. a < n) (sym (length-set ns a m)) on in
        subst (λ n. get_or i a 0 < n) (get_or-set_same ns a m 0 on) (coordinate_below (set ns a m) i a h wide)

    change_within : (i : List ℕ) → in_box (set ns a m) i ≡ true → in_box ns (set i a (x (get_or i a 0))) ≡ true
    change_within i h =
        let n = get_or ns a 0 in
        let q = x (get_or i a 0) in
        let back : set (set ns a m) a n ≡ ns = set-set ns a m n ∙ set-get_or ns a 0 in
        subst (λ l. in_box l (set i a q) ≡ true) back (in_box-set (set ns a m) i a n q h (change.below (get_or i a 0) (change_coordinate i h)))

    change_displacement : (i : List ℕ) → in_box (set ns a m) i ≡ true → displacement_of ss (set i a (x (get_or i a 0))) ≡ (pos (x 0) *ℤ get_or ss a (pos 0)) +ℤ displacement_of (set ss a t) i
    change_displacement i h =
        let as_many : length i ≡ length ss = (length-in_box (set ns a m) i h ∙ length-set ns a m) ∙ sym many in
        displacement_of-moved ss i a t (x (get_or i a 0)) (pos (x 0) *ℤ get_or ss a (pos 0)) as_many on_strides (change.moves (get_or i a 0) (change_coordinate i h))

    -- such a change is a layout step, from the place of the axis's new coordinate 0
    pub axis_is_step : (offset new_offset : ℕ) → (0 < size_of (set ns a m) → pos new_offset ≡ pos offset +ℤ (pos (x 0) *ℤ get_or ss a (pos 0))) → IsStep offset ns ss new_offset (set ns a m) (set ss a t) (λ i. set i a (x (get_or i a 0)))
    axis_is_step offset new_offset moved =
        let n = get_or ns a 0 in
        let s = get_or ss a (pos 0) in
        record {
          within = change_within;
          same = λ i h.
              let below = row_rank_below (set ns a m) i h in
              let start = moved (omega (arith, below)) in
              joined (pos new_offset) (pos offset) (pos (x 0) *ℤ s) (displacement_of (set ss a t) i) (displacement_of ss (set i a (x (get_or i a 0)))) start (change_displacement i h);
          as_many = length-set ss a t ∙ (many ∙ sym (length-set ns a m));
          spread = span_of-changed ns ss a m t many on (no_further n m (nat_abs s) (nat_abs t) change.steps);
          checked = λ few. HasCheckedSize-set ns a m on change.few few;
          separated = IsSeparated-changed ns ss a m t many on change.steps;
        }

  -- where the stride or the length stays as it was
  pub new_shape_is_step : (m : ℕ) (x : ℕ → ℕ) → IsAxisChange (get_or ns a 0) (get_or ss a (pos 0)) m (get_or ss a (pos 0)) x → (offset new_offset : ℕ) → (0 < size_of (set ns a m) → pos new_offset ≡ pos offset +ℤ (pos (x 0) *ℤ get_or ss a (pos 0))) → IsStep offset ns ss new_offset (set ns a m) ss (λ i. set i a (x (get_or i a 0)))
  new_shape_is_step m x change offset new_offset moved =
      subst (λ ts. IsStep offset ns ss new_offset (set ns a m) ts (λ i. set i a (x (get_or i a 0)))) (set-get_or ss a (pos 0)) (axis_is_step m (get_or ss a (pos 0)) x change offset new_offset moved)

  pub new_stride_is_step : (t : ℤ) (x : ℕ → ℕ) → IsAxisChange (get_or ns a 0) (get_or ss a (pos 0)) (get_or ns a 0) t x → (offset new_offset : ℕ) → (0 < size_of (set ns a (get_or ns a 0)) → pos new_offset ≡ pos offset +ℤ (pos (x 0) *ℤ get_or ss a (pos 0))) → IsStep offset ns ss new_offset ns (set ss a t) (λ i. set i a (x (get_or i a 0)))
  new_stride_is_step t x change offset new_offset moved =
      subst (λ ms. IsStep offset ns ss new_offset ms (set ss a t) (λ i. set i a (x (get_or i a 0)))) (set-get_or ns a 0) (axis_is_step (get_or ns a 0) t x change offset new_offset moved)

  pub collapse_is_step : (k offset new_offset : ℕ) → k < get_or ns a 0 → (0 < size_of (set ns a 1) → pos new_offset ≡ pos offset +ℤ (pos k *ℤ get_or ss a (pos 0))) → IsStep offset ns ss new_offset (collapsed_shape ns a) ss (collapsed_index a k)
  collapse_is_step k offset new_offset below moved =
      new_shape_is_step 1 (λ c. k) (collapse_change (get_or ns a 0) k (get_or ss a (pos 0)) below) offset new_offset moved

  pub lower_is_step : (k offset : ℕ) → k ≤ get_or ns a 0 → IsStep offset ns ss offset (lower_shape ns a k) ss (λ i. i)
  lower_is_step k offset within =
      let s = get_or ss a (pos 0) in
      let step = new_shape_is_step k (λ c. c) (lower_change (get_or ns a 0) k s within) offset offset (λ _. plus_zero (pos offset) s) in
      record {
        within = λ i h. subst (λ (j : List ℕ). in_box ns j ≡ true) (set-get_or i a 0) (step.within i h);
        same = λ i h. step.same i h ∙ ap (place_of offset ss) (set-get_or i a 0);
        as_many = step.as_many;
        spread = step.spread;
        checked = step.checked;
        separated = step.separated;
      }

  pub upper_is_step : (k offset new_offset : ℕ) → k ≤ get_or ns a 0 → (0 < size_of (upper_shape ns a k) → pos new_offset ≡ pos offset +ℤ (pos k *ℤ get_or ss a (pos 0))) → IsStep offset ns ss new_offset (upper_shape ns a k) ss (upper_index a k)
  upper_is_step k offset new_offset within moved =
      let s = get_or ss a (pos 0) in
      let none : 0 + k ≡ k = omega arith in
      new_shape_is_step (get_or ns a 0 - k) (λ c. c + k) (upper_change (get_or ns a 0) k s within) offset new_offset (λ some. moved some ∙ ap (λ q. pos offset +ℤ (pos q *ℤ s)) (sym none))

  pub invert_is_step : (offset new_offset : ℕ) → span_of ns ss < 9223372036854775808 → (0 < size_of (set ns a (get_or ns a 0)) → pos new_offset ≡ pos offset +ℤ (pos (get_or ns a 0 - 1) *ℤ get_or ss a (pos 0))) → IsStep offset ns ss new_offset ns (set ss a (opposite_stride (get_or ss a (pos 0)))) (inverted_index ns a)
  invert_is_step offset new_offset spread moved =
      let n = get_or ns a 0 in
      let s = get_or ss a (pos 0) in
      let part = span_of-at ns ss a many on in
      let far : n - 1 - 0 ≡ n - 1 = omega arith in
      new_stride_is_step (opposite_stride s) (λ c. n - 1 - c) (invert_change n s (omega (arith, part, spread))) offset new_offset (λ some. moved some ∙ ap (λ q. pos offset +ℤ (pos q *ℤ s)) (sym far))
