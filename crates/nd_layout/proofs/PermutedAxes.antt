-- Axes in another order: the displacement of an index, its box, and every number of a layout stay the same.
use Rattle.nd_layout.proofs.NamesFromOtherCrates.{ℕ, max, ⊎_elim, Bool, zero, suc, ◌+◌, ◌-◌, ◌*◌, ◌<◌, ◌≤◌, ◌≡◌, List, [], ◌∷◌, length, get_or, eqb, leb, ltb, ◌&&◌, cond, true, false, arith, refl, ap, sym, ◌∙◌, ℤ, pos, ◌+ℤ◌, ◌*ℤ◌, nat_abs, range_with_len, position_or_len, mul_assoc, mul_comm, eq-eqb, ne_eqb, eqb-true, cases_eq, cases_lt, length-map, get_or-map, same_lists, get_or_default, length-map-range_with_len, get_or-map-range_with_len, passes_at_first, HasEachAxis, permuted_list, unpermuted_list, in_box, size_of, nonzero_product, HasCheckedSize, displacement_of, span_of, span_within, IsSeparated}
use Rattle.nd_layout.specs.StridesAfterLayoutCalls.{permuted_strides}
use Rattle.nd_layout.proofs.Integers.{sums}
use Rattle.nd_layout.proofs.AxisChange.{on_axis}
use Rattle.nd_layout.proofs.SumsInAnyAxisOrder.{times, times_is, total, IsOrderFree, total-HasEachAxis, total-range, times-range, times-range_above}

-- ---- operations that may be applied in any order
add_free : IsOrderFree (λ (a b : ℕ). a + b)
add_free a b c = omega arith

mul_free : IsOrderFree (λ (a b : ℕ). a * b)
mul_free a b c = sym (mul_assoc a b c) ∙ ap (λ v. v * c) (mul_comm a b) ∙ mul_assoc b a c

sum_free : IsOrderFree (λ (a b : ℤ). a +ℤ b)
sum_free a b c = omega (arith, sums)

and_free : IsOrderFree (λ (a b : Bool). a && b)
and_free true b c = refl
and_free false true c = refl
and_free false false c = refl

-- ---- what is read in the order of the axes is a total over them
displacement_of_total : (p : List ℕ) (ss : List ℤ) (i : List ℕ) → displacement_of (permuted_strides p ss) (permuted_list p i) ≡ total (λ x y. x +ℤ y) (pos 0) (λ a. pos (get_or i a 0) *ℤ get_or ss a (pos 0)) p
displacement_of_total [] ss i = refl
displacement_of_total (a ∷ p) ss i = ap (λ v. (pos (get_or i a 0) *ℤ get_or ss a (pos 0)) +ℤ v) (displacement_of_total p ss i)

displacement_of_range : (ss : List ℤ) (i : List ℕ) → length i ≡ length ss → total (λ x y. x +ℤ y) (pos 0) (λ a. pos (get_or i a 0) *ℤ get_or ss a (pos 0)) (range_with_len 0 (length ss)) ≡ displacement_of ss i
displacement_of_range [] i e = refl
displacement_of_range (s ∷ ss) [] e = absurd (omega arith)
displacement_of_range (s ∷ ss) (k ∷ i) e =
    total-range (λ x y. x +ℤ y) (pos 0) (λ a. pos (get_or (k ∷ i) a 0) *ℤ get_or (s ∷ ss) a (pos 0)) (length ss)
    ∙ ap (λ v. (pos k *ℤ s) +ℤ v) (displacement_of_range ss i (omega arith))

in_box_total : (p ns i : List ℕ) → in_box (permuted_list p ns) (permuted_list p i) ≡ total (λ x y. x && y) true (λ a. ltb (get_or i a 0) (get_or ns a 0)) p
in_box_total [] ns i = refl
in_box_total (a ∷ p) ns i = ap (λ v. ltb (get_or i a 0) (get_or ns a 0) && v) (in_box_total p ns i)

in_box_range : (ns i : List ℕ) → length i ≡ length ns → total (λ x y. x && y) true (λ a. ltb (get_or i a 0) (get_or ns a 0)) (range_with_len 0 (length ns)) ≡ in_box ns i
in_box_range [] [] e = refl
in_box_range [] (k ∷ i) e = absurd (omega arith)
in_box_range (n ∷ ns) [] e = absurd (omega arith)
in_box_range (n ∷ ns) (k ∷ i) e =
    total-range (λ x y. x && y) true (λ a. ltb (get_or (k ∷ i) a 0) (get_or (n ∷ ns) a 0)) (length ns)
    ∙ ap (λ v. ltb k n && v) (in_box_range ns i (omega arith))

size_of_total : (p ns : List ℕ) → size_of (permuted_list p ns) ≡ total (λ x y. x * y) 1 (λ a. get_or ns a 0) p
size_of_total [] ns = refl
size_of_total (a ∷ p) ns = ap (λ v. get_or ns a 0 * v) (size_of_total p ns)

size_of_range : (ns : List ℕ) → total (λ x y. x * y) 1 (λ a. get_or ns a 0) (range_with_len 0 (length ns)) ≡ size_of ns
size_of_range [] = refl
size_of_range (n ∷ ns) = total-range (λ x y. x * y) 1 (λ a. get_or (n ∷ ns) a 0) (length ns) ∙ ap (λ v. n * v) (size_of_range ns)

-- one more length
pub nonzero-cons : (n : ℕ) (ns : List ℕ) → nonzero_product (n ∷ ns) ≡ max 1 n * nonzero_product ns
nonzero-cons zero ns = omega arith
nonzero-cons (suc n) ns = let e : max 1 (suc n) ≡ suc n = omega arith in rw e refl

nonzero_total : (p ns : List ℕ) → nonzero_product (permuted_list p ns) ≡ total (λ x y. x * y) 1 (λ a. max 1 (get_or ns a 0)) p
nonzero_total [] ns = refl
nonzero_total (a ∷ p) ns = nonzero-cons (get_or ns a 0) (permuted_list p ns) ∙ ap (λ v. max 1 (get_or ns a 0) * v) (nonzero_total p ns)

nonzero_range : (ns : List ℕ) → total (λ x y. x * y) 1 (λ a. max 1 (get_or ns a 0)) (range_with_len 0 (length ns)) ≡ nonzero_product ns
nonzero_range [] = refl
nonzero_range (n ∷ ns) =
    total-range (λ x y. x * y) 1 (λ a. max 1 (get_or (n ∷ ns) a 0)) (length ns)
    ∙ ap (λ v. max 1 n * v) (nonzero_range ns)
    ∙ sym (nonzero-cons n ns)

span_total : (p ns : List ℕ) (ss : List ℤ) → span_of (permuted_list p ns) (permuted_strides p ss) ≡ total (λ x y. x + y) 0 (λ a. (get_or ns a 0 - 1) * nat_abs (get_or ss a (pos 0))) p
span_total [] ns ss = refl
span_total (a ∷ p) ns ss = ap (λ v. (get_or ns a 0 - 1) * nat_abs (get_or ss a (pos 0)) + v) (span_total p ns ss)

span_range : (ns : List ℕ) (ss : List ℤ) → length ss ≡ length ns → total (λ x y. x + y) 0 (λ a. (get_or ns a 0 - 1) * nat_abs (get_or ss a (pos 0))) (range_with_len 0 (length ns)) ≡ span_of ns ss
span_range [] ss e = refl
span_range (n ∷ ns) [] e = absurd (omega arith)
span_range (n ∷ ns) (s ∷ ss) e =
    total-range (λ x y. x + y) 0 (λ a. (get_or (n ∷ ns) a 0 - 1) * nat_abs (get_or (s ∷ ss) a (pos 0))) (length ns)
    ∙ ap (λ v. (n - 1) * nat_abs s + v) (span_range ns ss (omega arith))

-- an axis's reach, counted where its magnitude is g at most
abbrev counted : ℕ → ℕ → ℤ → ℕ
counted g n s = cond (leb (nat_abs s) g) ((n - 1) * nat_abs s) 0

within_total : (g : ℕ) (p ns : List ℕ) (ss : List ℤ) → span_within g (permuted_list p ns) (permuted_strides p ss) ≡ total (λ x y. x + y) 0 (λ a. counted g (get_or ns a 0) (get_or ss a (pos 0))) p
within_total g [] ns ss = refl
within_total g (a ∷ p) ns ss = ap (λ v. counted g (get_or ns a 0) (get_or ss a (pos 0)) + v) (within_total g p ns ss)

within_range : (g : ℕ) (ns : List ℕ) (ss : List ℤ) → length ss ≡ length ns → total (λ x y. x + y) 0 (λ a. counted g (get_or ns a 0) (get_or ss a (pos 0))) (range_with_len 0 (length ns)) ≡ span_within g ns ss
within_range g [] ss e = refl
within_range g (n ∷ ns) [] e = absurd (omega arith)
within_range g (n ∷ ns) (s ∷ ss) e =
    total-range (λ x y. x + y) 0 (λ a. counted g (get_or (n ∷ ns) a 0) (get_or (s ∷ ss) a (pos 0))) (length ns)
    ∙ ap (λ v. counted g n s + v) (within_range g ns ss (omega arith))

-- ---- so it doesn't depend on the order
pub displacement_of-permuted : (p : List ℕ) (ss : List ℤ) (i : List ℕ) → HasEachAxis p (length ss) → length i ≡ length ss → displacement_of (permuted_strides p ss) (permuted_list p i) ≡ displacement_of ss i
displacement_of-permuted p ss i each e = displacement_of_total p ss i ∙ total-HasEachAxis (λ x y. x +ℤ y) (pos 0) (λ a. pos (get_or i a 0) *ℤ get_or ss a (pos 0)) sum_free p (length ss) each ∙ displacement_of_range ss i e

-- the box
pub in_box-permuted : (p ns i : List ℕ) → HasEachAxis p (length ns) → length i ≡ length ns → in_box (permuted_list p ns) (permuted_list p i) ≡ in_box ns i
in_box-permuted p ns i each e = in_box_total p ns i ∙ total-HasEachAxis (λ x y. x && y) true (λ a. ltb (get_or i a 0) (get_or ns a 0)) and_free p (length ns) each ∙ in_box_range ns i e

-- the size
pub size_of-permuted : (p ns : List ℕ) → HasEachAxis p (length ns) → size_of (permuted_list p ns) ≡ size_of ns
size_of-permuted p ns each = size_of_total p ns ∙ total-HasEachAxis (λ x y. x * y) 1 (λ a. get_or ns a 0) mul_free p (length ns) each ∙ size_of_range ns

-- the product of the lengths other than 0
pub nonzero_product-permuted : (p ns : List ℕ) → HasEachAxis p (length ns) → nonzero_product (permuted_list p ns) ≡ nonzero_product ns
nonzero_product-permuted p ns each = nonzero_total p ns ∙ total-HasEachAxis (λ x y. x * y) 1 (λ a. max 1 (get_or ns a 0)) mul_free p (length ns) each ∙ nonzero_range ns

-- the checked size
pub HasCheckedSize-permuted : (p ns : List ℕ) → HasEachAxis p (length ns) → HasCheckedSize ns → HasCheckedSize (permuted_list p ns)
HasCheckedSize-permuted p ns each few = rw (nonzero_product-permuted p ns each) few

-- the span
pub span_of-permuted : (p ns : List ℕ) (ss : List ℤ) → HasEachAxis p (length ns) → length ss ≡ length ns → span_of (permuted_list p ns) (permuted_strides p ss) ≡ span_of ns ss
span_of-permuted p ns ss each e = span_total p ns ss ∙ total-HasEachAxis (λ x y. x + y) 0 (λ a. (get_or ns a 0 - 1) * nat_abs (get_or ss a (pos 0))) add_free p (length ns) each ∙ span_range ns ss e

-- the counted span
pub span_within-permuted : (g : ℕ) (p ns : List ℕ) (ss : List ℤ) → HasEachAxis p (length ns) → length ss ≡ length ns → span_within g (permuted_list p ns) (permuted_strides p ss) ≡ span_within g ns ss
span_within-permuted g p ns ss each e = within_total g p ns ss ∙ total-HasEachAxis (λ x y. x + y) 0 (λ a. counted g (get_or ns a 0) (get_or ss a (pos 0))) add_free p (length ns) each ∙ within_range g ns ss e

-- as many lengths as axes
pub length-permuted : (p xs : List ℕ) → length (permuted_list p xs) ≡ length p
length-permuted p xs = length-map p (λ a. get_or xs a 0)

-- as many strides as axes
pub length-permuted_strides : (p : List ℕ) (ss : List ℤ) → length (permuted_strides p ss) ≡ length p
length-permuted_strides p ss = length-map p (λ a. get_or ss a (pos 0))

-- separation
pub IsSeparated-permuted : (p ns : List ℕ) (ss : List ℤ) → HasEachAxis p (length ns) → length ss ≡ length ns → IsSeparated ns ss → IsSeparated (permuted_list p ns) (permuted_strides p ss)
IsSeparated-permuted p ns ss each e apart k long =
    let within : k < length p = omega (arith, on_axis (permuted_list p ns) k long, length-permuted p ns) in
    let a = get_or p k 0 in
    let n_is = get_or-map (λ a. get_or ns a 0) p k 0 0 within in
    let m_is = ap nat_abs (get_or-map (λ a. get_or ss a (pos 0)) p k 0 (pos 0) within) in
    rw (m_is, n_is, span_within-permuted (nat_abs (get_or ss a (pos 0))) p ns ss each e) (apart a (rw n_is at long))

-- ---- the way back
times_total : (a : ℕ) (xs : List ℕ) → total (λ x y. x + y) 0 (λ b. cond (eqb b a) 1 0) xs ≡ times a xs
times_total a [] = refl
times_total a (x ∷ xs) = ap (λ v. cond (eqb x a) 1 0 + v) (times_total a xs)

times-HasEachAxis : (a : ℕ) (p : List ℕ) (n : ℕ) → HasEachAxis p n → times a p ≡ times a (range_with_len 0 n)
times-HasEachAxis a p n each = sym (times_total a p) ∙ total-HasEachAxis (λ x y. x + y) 0 (λ b. cond (eqb b a) 1 0) add_free p n each ∙ times_total a (range_with_len 0 n)

times_some : (a : ℕ) (xs : List ℕ) (k : ℕ) → k < length xs → get_or xs k 0 ≡ a → 0 < times a xs
times_some a [] k h is = absurd (omega arith)
times_some a (x ∷ xs) zero h is = rw (eq-eqb x a is) (omega arith)
times_some a (x ∷ xs) (suc k) h is = omega (arith, times_some a xs k (omega arith) is)

position_within : (a : ℕ) (xs : List ℕ) → 0 < times a xs → position_or_len (λ b. eqb b a) xs < length xs
position_within a [] h = absurd (omega arith)
position_within a (x ∷ xs) h =
    ⊎_elim
    (λ (is : x ≡ a). rw (eq-eqb x a is) (omega arith))
    (λ (other : x ≡ a → ⊥). let f = ne_eqb x a other in rw f (let h' = rw f at h in omega (arith, position_within a xs (omega arith))))
    (cases_eq x a)

position_unique : (a : ℕ) (xs : List ℕ) (k : ℕ) → k < length xs → get_or xs k 0 ≡ a → times a xs ≤ 1 → position_or_len (λ b. eqb b a) xs ≡ k
position_unique a [] k h is once = absurd (omega arith)
position_unique a (x ∷ xs) zero h is once = rw (eq-eqb x a is) refl
position_unique a (x ∷ xs) (suc k) h is once =
    let more = times_some a xs k (omega arith) is in
    ⊎_elim
    (λ (same : x ≡ a). let once' = rw (eq-eqb x a same) at once in absurd (omega arith))
    (λ (other : x ≡ a → ⊥). let f = ne_eqb x a other in rw f (let once' = rw f at once in omega (arith, position_unique a xs k (omega arith) is (omega arith))))
    (cases_eq x a)

-- an item of such a list is one of the axes
pub axis_below : (p : List ℕ) (n k : ℕ) → HasEachAxis p n → k < length p → get_or p k 0 < n
axis_below p n k each within =
    ⊎_elim
    (λ (h : get_or p k 0 < n). h)
    (λ (above : n ≤ get_or p k 0). absurd (omega (arith, times_some (get_or p k 0) p k within refl, times-HasEachAxis (get_or p k 0) p n each, times-range_above (get_or p k 0) 0 n (omega arith))))
    (cases_lt (get_or p k 0) n)

-- as many coordinates as axes
pub length-unpermuted : (p xs : List ℕ) → length (unpermuted_list p xs) ≡ length p
length-unpermuted p xs = length-map-range_with_len (λ a. get_or xs (position_or_len (λ b. eqb b a) p) 0) 0 (length p)

-- the way back and the way there
pub permuted-unpermuted : (p i : List ℕ) (n : ℕ) → HasEachAxis p n → length i ≡ n → permuted_list p (unpermuted_list p i) ≡ i
permuted-unpermuted p i n each e =
    let P = each.0 in
    same_lists _ _ (length-permuted p (unpermuted_list p i) ∙ P ∙ sym e)
    (λ k d h.
    let within : k < length p = omega (arith, length-permuted p (unpermuted_list p i)) in
    let a = get_or p k 0 in
    let place = get_or-map (λ a. get_or (unpermuted_list p i) a 0) p k 0 d within in
    let read = get_or-map-range_with_len (λ a. get_or i (position_or_len (λ b. eqb b a) p) 0) 0 (length p) a a 0 (omega (arith, axis_below p n k each within)) (omega arith) in
    let spot = position_unique a p k within refl (omega (arith, times-HasEachAxis a p n each, times-range a 0 n)) in
    place ∙ read ∙ ap (λ q. get_or i q 0) spot ∙ get_or_default i k 0 d (omega arith))

-- the way there and back
pub unpermuted-permuted : (p i : List ℕ) (n : ℕ) → HasEachAxis p n → length i ≡ n → unpermuted_list p (permuted_list p i) ≡ i
unpermuted-permuted p i n each e =
    let P = each.0 in
    same_lists _ _ (length-unpermuted p (permuted_list p i) ∙ P ∙ sym e)
    (λ a d h.
    let below : a < length p = omega (arith, length-unpermuted p (permuted_list p i)) in
    let q = position_or_len (λ b. eqb b a) p in
    let found : q < length p = position_within a p (omega (arith, sym (times_is a p) ∙ each.1 a (omega arith))) in
    let there = eqb-true (get_or p q 0) a (passes_at_first (λ b. eqb b a) p 0 found) in
    let read = get_or-map-range_with_len (λ a. get_or (permuted_list p i) (position_or_len (λ b. eqb b a) p) 0) 0 (length p) a a d below (omega arith) in
    let place = get_or-map (λ a. get_or i a 0) p q 0 0 found in
    read ∙ place ∙ ap (λ b. get_or i b 0) there ∙ get_or_default i a 0 d (omega arith))

-- a new index j names the old index `unpermuted p j`
pub displacement_of-unpermuted : (p : List ℕ) (ss : List ℤ) (j : List ℕ) → HasEachAxis p (length ss) → length j ≡ length ss → displacement_of (permuted_strides p ss) j ≡ displacement_of ss (unpermuted_list p j)
displacement_of-unpermuted p ss j each e =
    ap (λ i. displacement_of (permuted_strides p ss) i) (sym (permuted-unpermuted p j (length ss) each e))
    ∙ displacement_of-permuted p ss (unpermuted_list p j) each (length-unpermuted p j ∙ each.0)

-- and that old index is in the box where j is in the new one
pub in_box-unpermuted : (p ns j : List ℕ) → HasEachAxis p (length ns) → length j ≡ length ns → in_box ns (unpermuted_list p j) ≡ in_box (permuted_list p ns) j
in_box-unpermuted p ns j each e =
    sym
    (ap (λ i. in_box (permuted_list p ns) i) (sym (permuted-unpermuted p j (length ns) each e))
    ∙ in_box-permuted p ns (unpermuted_list p j) each (length-unpermuted p j ∙ each.0))
