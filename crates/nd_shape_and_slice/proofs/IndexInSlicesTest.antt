-- The test whether a list of slices names an index is true exactly where some index of the result stands for it.
use Rattle.nd_shape_and_slice.proofs.NamesFromOtherCrates.{◌&&◌, ◌≡◌, ℕ, zero, suc, ◌+◌, ◌-◌, ◌*◌, ◌/◌, ◌%◌, ◌<◌, ◌≤◌, Bool, true, refl, ap, ◌∙◌, arith, List, [], ◌∷◌, ℤ, pos, negsuc, nat_le, nat_lt, Option, None, Some, unwrap_or, is_some, mul-le-mul_right, lt-div-mul-add, mul-mod_left, div-lt_iff_lt-mul, div-mul-le_self, div-add-mod', and_parts, and_from, nat_tests}
use Rattle.nd_shape_and_slice.specs.declared.slice.Slice.{Slice}
use Rattle.nd_shape_and_slice.specs.declared.slice_info.SliceInfoElem.{SliceInfoElem}
use Rattle.nd_shape_and_slice.specs.declared.slice_info.SliceInfoElem.TheVariants.{Slice as Part, Index, NewAxis}
use Rattle.nd_shape_and_slice.specs.ShapesAndIndexOrders.{in_box}
use Rattle.nd_shape_and_slice.specs.Slice.{fits_axis, quotient_up, sliced_length, sliced_from, low_of, high_of}
use Rattle.nd_shape_and_slice.specs.SliceInfo.{coordinate_on, each_fits, shape_after, index_before}
use Rattle.nd_shape_and_slice.proofs.RowMajor.{in_box-cons}
use Rattle.nd_shape_and_slice.specs.IndexesNamedBySlices.{is_multiple, slice_names, lies_at, names_index}

-- ---- steps over a range
rest_is : (d r : ℕ) → is_multiple (suc d) r ≡ true → r % suc d ≡ 0
rest_is zero r h = omega arith
rest_is (suc k) r h = grind (arith, nat_tests, h)

multiple_of : (d t : ℕ) → is_multiple (suc d) (t * suc d) ≡ true
multiple_of zero t = refl
multiple_of (suc k) t = let none : t * suc (suc k) % suc (suc k) ≡ 0 = mul-mod_left t (suc (suc k)) in grind (arith, nat_tests, none)

whole_steps : (d r : ℕ) → r % suc d ≡ 0 → r / suc d * suc d ≡ r
whole_steps d r none = let whole = div-add-mod' r (suc d) in omega (arith, whole, none)

steps_below : (range d r : ℕ) → r < range → r / suc d < quotient_up range (suc d)
steps_below range d r h =
    let far : range + (suc d - 1) < (range + (suc d - 1)) / suc d * suc d + suc d = lt-div-mul-add {a = range + (suc d - 1)} {b = suc d} (omega arith) in
    let near : r < (range + (suc d - 1)) / suc d * suc d = omega (arith, far, h) in
    let some : 0 < suc d = omega arith in
    (div-lt_iff_lt-mul {k = suc d} {x = r} {y = (range + (suc d - 1)) / suc d} some).1 near

pub range_above : (range d t : ℕ) → t < quotient_up range (suc d) → t * suc d < range
range_above range d t h =
    let whole : (range + (suc d - 1)) / suc d * suc d ≤ range + (suc d - 1) = div-mul-le_self (range + (suc d - 1)) (suc d) in
    let more : suc t * suc d ≤ (range + (suc d - 1)) / suc d * suc d = mul-le-mul_right {m = suc t} {n = (range + (suc d - 1)) / suc d} (suc d) h in
    let sum : suc t * suc d ≡ t * suc d + suc d = omega arith in
    omega (arith, whole, more, sum)

-- ---- one axis
abbrev by_step : ℤ → Option ℤ → ℤ → Slice
by_step start end step = record { start = start; end = end; step = step }

bounds_of : (low high c : ℕ) (b : Bool) → (nat_le low c && nat_lt c high) && b ≡ true → (low ≤ c) × (c < high) × (b ≡ true)
bounds_of low high c b h =
    let two = and_parts (nat_le low c && nat_lt c high) b h in
    let parts = and_parts (nat_le low c) (nat_lt c high) two.0 in
    (grind (arith, nat_tests, parts.0), grind (arith, nat_tests, parts.1), two.1)

bounds_back : (low high c : ℕ) (b : Bool) → low ≤ c → c < high → b ≡ true → (nat_le low c && nat_lt c high) && b ≡ true
bounds_back low high c b l h e =
    let first : nat_le low c ≡ true = grind (arith, nat_tests, l) in
    let second : nat_lt c high ≡ true = grind (arith, nat_tests, h) in
    and_from _ _ (and_from _ _ first second) e

up_named : (low high d c : ℕ) → low ≤ c → c < high → is_multiple (suc d) (c - low) ≡ true → (t : ℕ) × (t < quotient_up (high - low) (suc d)) × (low + t * suc d ≡ c)
up_named low high d c l h e =
    let same = whole_steps d (c - low) (rest_is d (c - low) e) in
    ((c - low) / suc d, steps_below (high - low) d (c - low) (omega (arith, l, h)), omega (arith, l, same))

down_named : (low high d c : ℕ) → low ≤ c → c < high → is_multiple (suc d) (high - 1 - c) ≡ true → (t : ℕ) × (t < quotient_up (high - low) (suc d)) × (high - 1 - t * suc d ≡ c)
down_named low high d c l h e =
    let same = whole_steps d (high - 1 - c) (rest_is d (high - 1 - c) e) in
    ((high - 1 - c) / suc d, steps_below (high - low) d (high - 1 - c) (omega (arith, l, h)), omega (arith, l, h, same))

pub axis_named : (n : ℕ) (start : ℤ) (end : Option ℤ) (step : ℤ) (c : ℕ) → fits_axis n (by_step start end step) ≡ true → slice_names n (by_step start end step) c ≡ true
    → (t : ℕ) × (t < sliced_length n (by_step start end step)) × (sliced_from n (by_step start end step) t ≡ c)
axis_named n start end (pos zero) c fits h = absurd cc
axis_named n start end (pos (suc d)) c fits h =
    let s = by_step start end (pos (suc d)) in
    let b = bounds_of (low_of n s) (high_of n s) c (is_multiple (suc d) (c - low_of n s)) h in
    up_named (low_of n s) (high_of n s) d c b.0 b.1 b.2
axis_named n start end (negsuc d) c fits h =
    let s = by_step start end (negsuc d) in
    let b = bounds_of (low_of n s) (high_of n s) c (is_multiple (suc d) (high_of n s - 1 - c)) h in
    down_named (low_of n s) (high_of n s) d c b.0 b.1 b.2

pub names_axis : (n : ℕ) (start : ℤ) (end : Option ℤ) (step : ℤ) (t : ℕ) → fits_axis n (by_step start end step) ≡ true → t < sliced_length n (by_step start end step)
    → slice_names n (by_step start end step) (sliced_from n (by_step start end step) t) ≡ true
names_axis n start end (pos zero) t fits h = absurd cc
names_axis n start end (pos (suc d)) t fits h =
    let s = by_step start end (pos (suc d)) in
    let below : t * suc d < high_of n s - low_of n s = range_above (high_of n s - low_of n s) d t h in
    let back : low_of n s + t * suc d - low_of n s ≡ t * suc d = omega arith in
    bounds_back (low_of n s) (high_of n s) (low_of n s + t * suc d) (is_multiple (suc d) (low_of n s + t * suc d - low_of n s)) (omega arith) (omega (arith, below)) (ap (is_multiple (suc d)) back ∙ multiple_of d t)
names_axis n start end (negsuc d) t fits h =
    let s = by_step start end (negsuc d) in
    let below : t * suc d < high_of n s - low_of n s = range_above (high_of n s - low_of n s) d t h in
    let back : high_of n s - 1 - (high_of n s - 1 - t * suc d) ≡ t * suc d = omega (arith, below) in
    bounds_back (low_of n s) (high_of n s) (high_of n s - 1 - t * suc d) (is_multiple (suc d) (high_of n s - 1 - (high_of n s - 1 - t * suc d))) (omega (arith, below)) (omega (arith, below)) (ap (is_multiple (suc d)) back ∙ multiple_of d t)

coordinate_named : (o : Option ℕ) (c : ℕ) → lies_at o c ≡ true → unwrap_or o 0 ≡ c
coordinate_named None c h = absurd cc
coordinate_named (Some k) c h = grind (arith, nat_tests, h)

names_coordinate : (o : Option ℕ) → is_some o ≡ true → lies_at o (unwrap_or o 0) ≡ true
names_coordinate None h = absurd cc
names_coordinate (Some k) h = grind (arith, nat_tests)

box_with : (t m : ℕ) (i ms : List ℕ) → t < m → in_box ms i ≡ true → in_box (m ∷ ms) (t ∷ i) ≡ true
box_with t m i ms below within = let first : nat_lt t m ≡ true = grind (arith, nat_tests, below) in and_from _ _ first within

-- ---- lists
-- the index of the result that stands for a named index
pub named_by : (ns : List ℕ) (es : List SliceInfoElem) (j : List ℕ) → each_fits ns es ≡ true → in_box ns j ≡ true → names_index ns es j ≡ true
    → (i : List ℕ) × (in_box (shape_after ns es) i ≡ true) × (index_before ns es i ≡ j)
named_by [] [] [] fits within h = ([], refl, refl)
named_by [] [] (j ∷ js) fits within h = absurd cc
named_by (n ∷ ns) [] j fits within h = absurd cc
named_by [] (Part start end step ∷ es) j fits within h = absurd cc
named_by (n ∷ ns) (Part start end step ∷ es) [] fits within h = absurd cc
named_by (n ∷ ns) (Part start end step ∷ es) (j ∷ js) fits within h =
    let f = and_parts (fits_axis n (by_step start end step)) (each_fits ns es) fits in
    let w = in_box-cons n ns j js within in
    let p = and_parts (slice_names n (by_step start end step) j) (names_index ns es js) h in
    let t = axis_named n start end step j f.0 p.0 in
    let rest = named_by ns es js f.1 w.1 p.1 in
    (t.0 ∷ rest.0, box_with t.0 _ rest.0 _ t.1 rest.1, (λ k. t.2 k ∷ rest.2 k))
named_by [] (Index c ∷ es) j fits within h = absurd cc
named_by (n ∷ ns) (Index c ∷ es) [] fits within h = absurd cc
named_by (n ∷ ns) (Index c ∷ es) (j ∷ js) fits within h =
    let f = and_parts (is_some (coordinate_on n c)) (each_fits ns es) fits in
    let w = in_box-cons n ns j js within in
    let p = and_parts (lies_at (coordinate_on n c) j) (names_index ns es js) h in
    let rest = named_by ns es js f.1 w.1 p.1 in
    (rest.0, rest.1, (λ k. coordinate_named (coordinate_on n c) j p.0 k ∷ rest.2 k))
named_by [] (NewAxis ∷ es) j fits within h = let rest = named_by [] es j fits within h in (0 ∷ rest.0, rest.1, rest.2)
named_by (n ∷ ns) (NewAxis ∷ es) j fits within h = let rest = named_by (n ∷ ns) es j fits within h in (0 ∷ rest.0, rest.1, rest.2)

-- what an index of the result stands for is named
pub names_of : (ns : List ℕ) (es : List SliceInfoElem) (i : List ℕ) → each_fits ns es ≡ true → in_box (shape_after ns es) i ≡ true → names_index ns es (index_before ns es i) ≡ true
names_of [] [] i fits within = refl
names_of (n ∷ ns) [] i fits within = refl
names_of [] (Part start end step ∷ es) i fits within = absurd cc
names_of (n ∷ ns) (Part start end step ∷ es) [] fits within = absurd cc
names_of (n ∷ ns) (Part start end step ∷ es) (i ∷ is) fits within =
    let f = and_parts (fits_axis n (by_step start end step)) (each_fits ns es) fits in
    let w = in_box-cons (sliced_length n (by_step start end step)) (shape_after ns es) i is within in
    and_from _ _ (names_axis n start end step i f.0 w.0) (names_of ns es is f.1 w.1)
names_of [] (Index c ∷ es) i fits within = absurd cc
names_of (n ∷ ns) (Index c ∷ es) is fits within =
    let f = and_parts (is_some (coordinate_on n c)) (each_fits ns es) fits in
    and_from _ _ (names_coordinate (coordinate_on n c) f.0) (names_of ns es is f.1 within)
names_of [] (NewAxis ∷ es) [] fits within = absurd cc
names_of [] (NewAxis ∷ es) (i ∷ is) fits within = names_of [] es is fits (in_box-cons 1 _ i is within).1
names_of (n ∷ ns) (NewAxis ∷ es) [] fits within = absurd cc
names_of (n ∷ ns) (NewAxis ∷ es) (i ∷ is) fits within = names_of (n ∷ ns) es is fits (in_box-cons 1 _ i is within).1
