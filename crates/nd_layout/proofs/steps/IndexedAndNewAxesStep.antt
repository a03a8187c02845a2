-- Where the indexed axes, of length 1, go and new axes of length 1 come: a layout step.
use Rattle.nd_layout.proofs.NamesFromOtherCrates.{◌≡◌, ℕ, zero, suc, ◌+◌, ◌-◌, ◌*◌, ◌<◌, ◌≤◌, Bool, true, false, cond, eqb, ltb, leb, List, [], ◌∷◌, length, drop, get_or, set, ℤ, pos, ◌+ℤ◌, ◌*ℤ◌, nat_abs, refl, ap, sym, ◌∙◌, subst, arith, drop-cons, add-one, +ℤ_idl, and_parts, and_from, lt-ltb, nat_tests, ints, drop_of_length-le, drop_more, sum_by-cons, SliceInfoElem, Index, NewAxis, in_box, nonzero_product, displacement_of, span_of, span_within, magnitude_at, IsSeparated, unwrap_or, sliced_length, sliced_from, coordinate_on, reads_axis, keeps_axis, axes_read, axes_kept, each_fits, shape_after, index_before, collapsed_after, collapsed_before, next_axis, kept_items, put_back, indexed_ones, IsFilledBelow, filled_none, filled_more, filled_all}
use Rattle.nd_shape_and_slice.specs.declared.slice_info.SliceInfoElem.TheVariants.{Slice as Part}
use Rattle.nd_layout.proofs.Integers.{zero-mul}
use Rattle.nd_layout.specs.ValidLayoutsAndSteps.{IsStep}
use Rattle.nd_layout.proofs.steps.StepsKeepValidLayouts.{step_then, step_by}
use Rattle.nd_layout.proofs.steps.SliceLoop.{one_more}

is_one : (m : ℕ) → eqb m 1 ≡ true → m ≡ 1
is_one m h = grind (arith, nat_tests, h)

within_kept : (es : List SliceInfoElem) (ms i : List ℕ) → indexed_ones es ms ≡ true → in_box (kept_items 1 es ms) i ≡ true → in_box ms (put_back es i) ≡ true
within_kept [] [] i ones h = refl
within_kept [] (m ∷ ms) i ones h = absurd cc
within_kept (Part start end step ∷ es) [] i ones h = absurd cc
within_kept (Part start end step ∷ es) (m ∷ ms) [] ones h = absurd cc
within_kept (Part start end step ∷ es) (m ∷ ms) (i ∷ is) ones h =
    let parts = and_parts (ltb i m) (in_box (kept_items 1 es ms) is) h in
    and_from (ltb i m) (in_box ms (put_back es is)) parts.0 (within_kept es ms is ones parts.1)
within_kept (Index k ∷ es) [] i ones h = absurd cc
within_kept (Index k ∷ es) (m ∷ ms) i ones h =
    let parts = and_parts (eqb m 1) (indexed_ones es ms) ones in
    let one = is_one m parts.0 in
    and_from (ltb 0 m) (in_box ms (put_back es i)) (lt-ltb 0 m (omega (arith, one))) (within_kept es ms i parts.1 h)
within_kept (NewAxis ∷ es) ms [] ones h = absurd cc
within_kept (NewAxis ∷ es) ms (i ∷ is) ones h = within_kept es ms is ones (and_parts (ltb i 1) (in_box (kept_items 1 es ms) is) h).1

nothing_more : (i : ℕ) (z : ℤ) → (pos i *ℤ pos 0) +ℤ z ≡ z
nothing_more i z = omega (arith, ints)

same_kept : (es : List SliceInfoElem) (ms : List ℕ) (ts : List ℤ) (i : List ℕ) → length ts ≡ length ms → indexed_ones es ms ≡ true → in_box (kept_items 1 es ms) i ≡ true → displacement_of (kept_items (pos 0) es ts) i ≡ displacement_of ts (put_back es i)
same_kept [] [] [] i e ones h = refl
same_kept [] [] (t ∷ ts) i e ones h = absurd (omega arith)
same_kept [] (m ∷ ms) ts i e ones h = absurd cc
same_kept (Part start end step ∷ es) [] ts i e ones h = absurd cc
same_kept (Part start end step ∷ es) (m ∷ ms) [] i e ones h = absurd (omega arith)
same_kept (Part start end step ∷ es) (m ∷ ms) (t ∷ ts) [] e ones h = refl
same_kept (Part start end step ∷ es) (m ∷ ms) (t ∷ ts) (i ∷ is) e ones h =
    ap (λ z. (pos i *ℤ t) +ℤ z) (same_kept es ms ts is (omega (arith, e)) ones (and_parts (ltb i m) (in_box (kept_items 1 es ms) is) h).1)
same_kept (Index k ∷ es) [] ts i e ones h = absurd cc
same_kept (Index k ∷ es) (m ∷ ms) [] i e ones h = absurd (omega arith)
same_kept (Index k ∷ es) (m ∷ ms) (t ∷ ts) i e ones h =
    let rest = same_kept es ms ts i (omega (arith, e)) (and_parts (eqb m 1) (indexed_ones es ms) ones).1 h in
    rest ∙ sym (ap (λ z. z +ℤ displacement_of ts (put_back es i)) (zero-mul t) ∙ +ℤ_idl (displacement_of ts (put_back es i)))
same_kept (NewAxis ∷ es) ms ts [] e ones h = absurd cc
same_kept (NewAxis ∷ es) ms ts (i ∷ is) e ones h =
    nothing_more i (displacement_of (kept_items (pos 0) es ts) is) ∙ same_kept es ms ts is e ones (and_parts (ltb i 1) (in_box (kept_items 1 es ms) is) h).1

spread_kept : (es : List SliceInfoElem) (ms : List ℕ) (ts : List ℤ) → length ts ≡ length ms → span_of (kept_items 1 es ms) (kept_items (pos 0) es ts) ≤ span_of ms ts
spread_kept [] ms ts e = omega arith
spread_kept (Part start end step ∷ es) [] [] e = spread_kept es [] [] e
spread_kept (Part start end step ∷ es) [] (t ∷ ts) e = absurd (omega arith)
spread_kept (Part start end step ∷ es) (m ∷ ms) [] e = absurd (omega arith)
spread_kept (Part start end step ∷ es) (m ∷ ms) (t ∷ ts) e = let rest = spread_kept es ms ts (omega (arith, e)) in omega (arith, rest)
spread_kept (Index k ∷ es) [] [] e = spread_kept es [] [] e
spread_kept (Index k ∷ es) [] (t ∷ ts) e = absurd (omega arith)
spread_kept (Index k ∷ es) (m ∷ ms) [] e = absurd (omega arith)
spread_kept (Index k ∷ es) (m ∷ ms) (t ∷ ts) e = let rest = spread_kept es ms ts (omega (arith, e)) in omega (arith, rest)
spread_kept (NewAxis ∷ es) ms ts e = let rest = spread_kept es ms ts e in omega (arith, rest)

reach_kept : (g : ℕ) (es : List SliceInfoElem) (ms : List ℕ) (ts : List ℤ) → length ts ≡ length ms → span_within g (kept_items 1 es ms) (kept_items (pos 0) es ts) ≤ span_within g ms ts
reach_kept g [] ms ts e = omega arith
reach_kept g (Part start end step ∷ es) [] [] e = reach_kept g es [] [] e
reach_kept g (Part start end step ∷ es) [] (t ∷ ts) e = absurd (omega arith)
reach_kept g (Part start end step ∷ es) (m ∷ ms) [] e = absurd (omega arith)
reach_kept g (Part start end step ∷ es) (m ∷ ms) (t ∷ ts) e = let rest = reach_kept g es ms ts (omega (arith, e)) in omega (arith, rest)
reach_kept g (Index k ∷ es) [] [] e = reach_kept g es [] [] e
reach_kept g (Index k ∷ es) [] (t ∷ ts) e = absurd (omega arith)
reach_kept g (Index k ∷ es) (m ∷ ms) [] e = absurd (omega arith)
reach_kept g (Index k ∷ es) (m ∷ ms) (t ∷ ts) e = let rest = reach_kept g es ms ts (omega (arith, e)) in omega (arith, rest)
reach_kept g (NewAxis ∷ es) ms ts e = let rest = reach_kept g es ms ts e in at (leb 0 g) rest
  where
    at : (b : Bool) → span_within g (kept_items 1 es ms) (kept_items (pos 0) es ts) ≤ span_within g ms ts → cond b ((1 - 1) * 0) 0 + span_within g (kept_items 1 es ms) (kept_items (pos 0) es ts) ≤ span_within g ms ts
    at true rest = omega (arith, rest)
    at false rest = omega (arith, rest)

checked_kept : (es : List SliceInfoElem) (ms : List ℕ) → indexed_ones es ms ≡ true → nonzero_product (kept_items 1 es ms) ≡ nonzero_product ms
checked_kept [] [] ones = refl
checked_kept [] (m ∷ ms) ones = absurd cc
checked_kept (Part start end step ∷ es) [] ones = absurd cc
checked_kept (Part start end step ∷ es) (zero ∷ ms) ones = checked_kept es ms ones
checked_kept (Part start end step ∷ es) (suc m ∷ ms) ones = ap (λ p. suc m * p) (checked_kept es ms ones)
checked_kept (Index k ∷ es) [] ones = absurd cc
checked_kept (Index k ∷ es) (m ∷ ms) ones =
    let parts = and_parts (eqb m 1) (indexed_ones es ms) ones in
    checked_kept es ms parts.1 ∙ sym (once m (nonzero_product ms) parts.0)
  where
    once : (m p : ℕ) → eqb m 1 ≡ true → nonzero_product (m ∷ ms) ≡ nonzero_product ms
    once m p h = rw (is_one m h) (omega arith)
checked_kept (NewAxis ∷ es) ms ones = let rest = checked_kept es ms ones in omega (arith, rest)

-- an axis longer than 1 is one of the old
place_kept : (es : List SliceInfoElem) (ms : List ℕ) (ts : List ℤ) (k : ℕ) → length ts ≡ length ms → 1 < get_or (kept_items 1 es ms) k 0 → (j : ℕ) × (get_or ms j 0 ≡ get_or (kept_items 1 es ms) k 0) × (get_or ts j (pos 0) ≡ get_or (kept_items (pos 0) es ts) k (pos 0))
place_kept [] ms ts k e long = absurd (omega arith)
place_kept (Part start end step ∷ es) [] [] k e long = place_kept es [] [] k e long
place_kept (Part start end step ∷ es) [] (t ∷ ts) k e long = absurd (omega arith)
place_kept (Part start end step ∷ es) (m ∷ ms) [] k e long = absurd (omega arith)
place_kept (Part start end step ∷ es) (m ∷ ms) (t ∷ ts) zero e long = (0, refl, refl)
place_kept (Part start end step ∷ es) (m ∷ ms) (t ∷ ts) (suc k) e long = let rest = place_kept es ms ts k (omega (arith, e)) long in (suc rest.0, rest.1, rest.2)
place_kept (Index i ∷ es) [] [] k e long = place_kept es [] [] k e long
place_kept (Index i ∷ es) [] (t ∷ ts) k e long = absurd (omega arith)
place_kept (Index i ∷ es) (m ∷ ms) [] k e long = absurd (omega arith)
place_kept (Index i ∷ es) (m ∷ ms) (t ∷ ts) k e long = let rest = place_kept es ms ts k (omega (arith, e)) long in (suc rest.0, rest.1, rest.2)
place_kept (NewAxis ∷ es) ms ts zero e long = absurd (omega arith)
place_kept (NewAxis ∷ es) ms ts (suc k) e long = place_kept es ms ts k e long

separated_kept : (es : List SliceInfoElem) (ms : List ℕ) (ts : List ℤ) → length ts ≡ length ms → IsSeparated ms ts → IsSeparated (kept_items 1 es ms) (kept_items (pos 0) es ts)
separated_kept es ms ts e apart k long =
    let old = place_kept es ms ts k e long in
    let there = apart old.0 (subst (λ n. 1 < n) (sym old.1) long) in
    let g = magnitude_at (kept_items (pos 0) es ts) k in
    let same : magnitude_at ts old.0 ≡ g = ap nat_abs old.2 in
    let less = reach_kept g es ms ts e in
    let known : span_within g ms ts < get_or (kept_items 1 es ms) k 0 * g = rw (old.1, same) at there in
    omega (arith, known, less)

-- ---- the list written item by item
drop_is : {A : Type 0} (xs : List A) (c : ℕ) (y : A) (ys : List A) (z : A) → drop c xs ≡ y ∷ ys → (c < length xs) × (get_or xs c z ≡ y) × (drop (suc c) xs ≡ ys)
drop_is [] zero y ys z e = absurd cc
drop_is [] (suc c) y ys z e = absurd cc
drop_is (x ∷ xs) zero y ys z e = (omega arith, cc, cc)
drop_is (x ∷ xs) (suc c) y ys z e = let rest = drop_is xs c y ys z e in (omega (arith, rest.0), rest.1, rest.2)

-- the counts, element by element
read_more : (e : SliceInfoElem) (es : List SliceInfoElem) → axes_read (e ∷ es) ≡ cond (reads_axis e) 1 0 + axes_read es
read_more e es = sum_by-cons (λ x. cond (reads_axis x) 1 0) e es

kept_count : (e : SliceInfoElem) (es : List SliceInfoElem) → axes_kept (e ∷ es) ≡ cond (keeps_axis e) 1 0 + axes_kept es
kept_count e es = sum_by-cons (λ x. cond (keeps_axis x) 1 0) e es

-- what an element keeps of the axis before it
abbrev pub kept_item : {A : Type 0} → A → A → SliceInfoElem → List A → ℕ → A
kept_item d z e xs a = cond (reads_axis e) (get_or xs a z) d

kept_next : {A : Type 0} (d z : A) (e : SliceInfoElem) (es : List SliceInfoElem) (xs : List A) (a : ℕ) → axes_read (e ∷ es) + a ≡ length xs → keeps_axis e ≡ true → (kept_items d (e ∷ es) (drop a xs) ≡ kept_item d z e xs a ∷ kept_items d es (drop (next_axis a e) xs)) × (axes_read es + next_axis a e ≡ length xs)
kept_next d z (Part start end step) es xs a many keeps =
    let one = read_more (Part start end step) es in
    let within : a < length xs = omega (arith, one, many) in
    (ap (kept_items d (Part start end step ∷ es)) (drop-cons xs a z within), omega (arith, one, many))
kept_next d z (Index k) es xs a many keeps = absurd cc
kept_next d z NewAxis es xs a many keeps = let none = read_more NewAxis es in (refl, omega (arith, none, many))

gone_next : {A : Type 0} (d z : A) (e : SliceInfoElem) (es : List SliceInfoElem) (xs : List A) (a : ℕ) → axes_read (e ∷ es) + a ≡ length xs → keeps_axis e ≡ false → (kept_items d (e ∷ es) (drop a xs) ≡ kept_items d es (drop (a + 1) xs)) × (axes_read es + (a + 1) ≡ length xs)
gone_next d z (Part start end step) es xs a many keeps = absurd cc
gone_next d z (Index k) es xs a many keeps =
    let one = read_more (Index k) es in
    let within : a < length xs = omega (arith, one, many) in
    (ap (kept_items d (Index k ∷ es)) (drop_more xs a z within), omega (arith, one, many))
gone_next d z NewAxis es xs a many keeps = absurd cc

pub length-kept : {A : Type 0} (d : A) (es : List SliceInfoElem) (xs : List A) → axes_read es ≡ length xs → length (kept_items d es xs) ≡ axes_kept es
length-kept d [] xs e = refl
length-kept d (Part start end step ∷ es) [] e = let one = read_more (Part start end step) es in absurd (omega (arith, one, e))
length-kept d (Part start end step ∷ es) (x ∷ xs) e =
    let one = read_more (Part start end step) es in
    let rest = length-kept d es xs (omega (arith, one, e)) in
    let more = kept_count (Part start end step) es in
    omega (arith, rest, more)
length-kept d (Index k ∷ es) [] e = let one = read_more (Index k) es in absurd (omega (arith, one, e))
length-kept d (Index k ∷ es) (x ∷ xs) e =
    let one = read_more (Index k) es in
    let rest = length-kept d es xs (omega (arith, one, e)) in
    let none = kept_count (Index k) es in
    omega (arith, rest, none)
length-kept d (NewAxis ∷ es) xs e =
    let none = read_more NewAxis es in
    let rest = length-kept d es xs (omega (arith, none, e)) in
    let more = kept_count NewAxis es in
    omega (arith, rest, more)

pub read_all : (es : List SliceInfoElem) (ms : List ℕ) → indexed_ones es ms ≡ true → axes_read es ≡ length ms
read_all [] [] h = refl
read_all [] (m ∷ ms) h = absurd cc
read_all (Part start end step ∷ es) [] h = absurd cc
read_all (Part start end step ∷ es) (m ∷ ms) h =
    let one = read_more (Part start end step) es in
    let rest = read_all es ms h in
    omega (arith, one, rest)
read_all (Index k ∷ es) [] h = absurd cc
read_all (Index k ∷ es) (m ∷ ms) h =
    let one = read_more (Index k) es in
    let rest = read_all es ms (and_parts (eqb m 1) (indexed_ones es ms) h).1 in
    omega (arith, one, rest)
read_all (NewAxis ∷ es) ms h =
    let none = read_more NewAxis es in
    let rest = read_all es ms h in
    omega (arith, none, rest)

-- ---- the step
pub keep_is_step : (offset : ℕ) (ms : List ℕ) (ts : List ℤ) (es : List SliceInfoElem) → length ts ≡ length ms → indexed_ones es ms ≡ true → IsStep offset ms ts offset (kept_items 1 es ms) (kept_items (pos 0) es ts) (put_back es)
keep_is_step offset ms ts es many ones = record {
  within = λ i h. within_kept es ms i ones h;
  same = λ i h. ap (λ z. pos offset +ℤ z) (same_kept es ms ts i many ones h);
  as_many = let reads = read_all es ms ones in length-kept (pos 0) es ts (reads ∙ sym many) ∙ sym (length-kept 1 es ms reads);
  spread = spread_kept es ms ts many;
  checked = λ few. let same = checked_kept es ms ones in omega (arith, same, few);
  separated = separated_kept es ms ts many;
}

-- the first k elements read the axes below a, and left the first c items
pub record IsKeptTo {A : Type 0} (d z : A) (es : List SliceInfoElem) (xs out : List A) (a c k : ℕ) : Type 0 where
  pub few_kept : c ≤ k
  pub few_read : a ≤ k
  pub reads : axes_read (drop k es) + a ≡ length xs
  pub filled : IsFilledBelow z (kept_items d es xs) out c
  pub left : drop c (kept_items d es xs) ≡ kept_items d (drop k es) (drop a xs)

module _ {A : Type 0} (d z : A) (es : List SliceInfoElem) (xs : List A) where
  pub kept_none : (out : List A) → axes_read es ≡ length xs → length out ≡ axes_kept es → IsKeptTo d z es xs out 0 0 0
  kept_none out many e = record {
    few_kept = omega arith;
    few_read = omega arith;
    reads = omega (arith, many);
    filled = filled_none z (kept_items d es xs) out (e ∙ sym (length-kept d es xs many));
    left = refl;
  }

  module _ (out : List A) (a c k : ℕ) (so_far : IsKeptTo d z es xs out a c k) where
    module _ (e : SliceInfoElem) (within : k < length es) where
      here : drop k es ≡ get_or es k e ∷ drop (k + 1) es
      here = drop_more es k e within

      reads_here : axes_read (get_or es k e ∷ drop (k + 1) es) + a ≡ length xs
      reads_here = subst (λ l. axes_read l + a ≡ length xs) here so_far.reads

      left_here : drop c (kept_items d es xs) ≡ kept_items d (get_or es k e ∷ drop (k + 1) es) (drop a xs)
      left_here = so_far.left ∙ ap (λ l. kept_items d l (drop a xs)) here

      pub kept_more : (x : A) (next : ℕ) → keeps_axis (get_or es k e) ≡ true → x ≡ kept_item d z (get_or es k e) xs a → next ≡ next_axis a (get_or es k e) → IsKeptTo d z es xs (set out c x) next (c + 1) (k + 1)
      kept_more x next keeps item past =
          let f = get_or es k e in
          let parts = kept_next d z f (drop (k + 1) es) xs a reads_here keeps in
          let known = drop_is (kept_items d es xs) c (kept_item d z f xs a) (kept_items d (drop (k + 1) es) (drop (next_axis a f) xs)) z (left_here ∙ parts.0) in
          subst (λ n. IsKeptTo d z es xs (set out c x) n (c + 1) (k + 1)) (sym past)
          (record {
            few_kept = omega (arith, so_far.few_kept);
            few_read = one_more a k f so_far.few_read;
            reads = parts.1;
            filled = filled_more z (kept_items d es xs) out c x known.0 (item ∙ sym known.1) so_far.filled;
            left = ap (λ n. drop n (kept_items d es xs)) (add-one c) ∙ known.2;
          })

      pub kept_gone : keeps_axis (get_or es k e) ≡ false → IsKeptTo d z es xs out (a + 1) c (k + 1)
      kept_gone keeps =
          let parts = gone_next d z (get_or es k e) (drop (k + 1) es) xs a reads_here keeps in
          record {
            few_kept = omega (arith, so_far.few_kept);
            few_read = omega (arith, so_far.few_read);
            reads = parts.1;
            filled = so_far.filled;
            left = left_here ∙ parts.0;
          }

    pub kept_all : length es ≤ k → out ≡ kept_items d es xs
    kept_all done =
        filled_all z (kept_items d es xs) out c (none_after (kept_items d es xs) c (so_far.left ∙ ap (λ l. kept_items d l (drop a xs)) (drop_of_length-le es done))) so_far.filled
      where
        none_after : (ys : List A) (c : ℕ) → drop c ys ≡ [] → length ys ≤ c
        none_after [] c h = omega arith
        none_after (y ∷ ys) zero h = absurd cc
        none_after (y ∷ ys) (suc c) h = let rest = none_after ys c h in omega (arith, rest)

-- ---- the two passes together
pub ones_collapsed : (ns : List ℕ) (es : List SliceInfoElem) → each_fits ns es ≡ true → indexed_ones es (collapsed_after ns es) ≡ true
ones_collapsed [] [] h = refl
ones_collapsed (n ∷ ns) [] h = absurd cc
ones_collapsed [] (Part start end step ∷ es) h = absurd cc
ones_collapsed (n ∷ ns) (Part start end step ∷ es) h = ones_collapsed ns es (and_parts _ _ h).1
ones_collapsed [] (Index k ∷ es) h = absurd cc
ones_collapsed (n ∷ ns) (Index k ∷ es) h = ones_collapsed ns es (and_parts _ _ h).1
ones_collapsed [] (NewAxis ∷ es) h = ones_collapsed [] es h
ones_collapsed (n ∷ ns) (NewAxis ∷ es) h = ones_collapsed (n ∷ ns) es h

pub kept_after : (ns : List ℕ) (es : List SliceInfoElem) → each_fits ns es ≡ true → kept_items 1 es (collapsed_after ns es) ≡ shape_after ns es
kept_after [] [] h = refl
kept_after (n ∷ ns) [] h = absurd cc
kept_after [] (Part start end step ∷ es) h = absurd cc
kept_after (n ∷ ns) (Part start end step ∷ es) h = ap (λ l. sliced_length n (record { start = start; end = end; step = step }) ∷ l) (kept_after ns es (and_parts _ _ h).1)
kept_after [] (Index k ∷ es) h = absurd cc
kept_after (n ∷ ns) (Index k ∷ es) h = kept_after ns es (and_parts _ _ h).1
kept_after [] (NewAxis ∷ es) h = ap (λ l. 1 ∷ l) (kept_after [] es h)
kept_after (n ∷ ns) (NewAxis ∷ es) h = ap (λ l. 1 ∷ l) (kept_after (n ∷ ns) es h)

pub kept_before : (ns : List ℕ) (es : List SliceInfoElem) (i : List ℕ) → each_fits ns es ≡ true → in_box (shape_after ns es) i ≡ true → collapsed_before ns es (put_back es i) ≡ index_before ns es i
kept_before [] [] i h box = refl
kept_before (n ∷ ns) [] i h box = absurd cc
kept_before [] (Part start end step ∷ es) i h box = absurd cc
kept_before (n ∷ ns) (Part start end step ∷ es) [] h box = refl
kept_before (n ∷ ns) (Part start end step ∷ es) (i ∷ is) h box =
    ap (λ l. sliced_from n (record { start = start; end = end; step = step }) i ∷ l) (kept_before ns es is (and_parts _ _ h).1 (and_parts _ _ box).1)
kept_before [] (Index k ∷ es) i h box = absurd cc
kept_before (n ∷ ns) (Index k ∷ es) i h box = ap (λ l. unwrap_or (coordinate_on n k) 0 ∷ l) (kept_before ns es i (and_parts _ _ h).1 box)
kept_before [] (NewAxis ∷ es) [] h box = absurd cc
kept_before (n ∷ ns) (NewAxis ∷ es) [] h box = absurd cc
kept_before [] (NewAxis ∷ es) (i ∷ is) h box = kept_before [] es is h (and_parts _ _ box).1
kept_before (n ∷ ns) (NewAxis ∷ es) (i ∷ is) h box = kept_before (n ∷ ns) es is h (and_parts _ _ box).1

pub slice_list_is_step : (offset new_offset mid : ℕ) (ns : List ℕ) (ss : List ℤ) (ms : List ℕ) (ts : List ℤ) (new_ns : List ℕ) (new_ss : List ℤ) (es : List SliceInfoElem) → each_fits ns es ≡ true → ms ≡ collapsed_after ns es → IsStep offset ns ss mid ms ts (collapsed_before ns es) → new_ns ≡ kept_items 1 es ms → IsStep mid ms ts new_offset new_ns new_ss (put_back es) → (new_ns ≡ shape_after ns es) × IsStep offset ns ss new_offset new_ns new_ss (index_before ns es)
slice_list_is_step offset new_offset mid ns ss ms ts new_ns new_ss es fits shape step kept next =
    let same : new_ns ≡ shape_after ns es = kept ∙ (ap (kept_items 1 es) shape ∙ kept_after ns es fits) in
    (same, step_by (index_before ns es) (λ i h. kept_before ns es i fits (subst (λ l. in_box l i ≡ true) same h)) (step_then step next))
