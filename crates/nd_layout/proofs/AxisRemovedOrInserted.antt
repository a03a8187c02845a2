-- An axis taken out at one coordinate, and an axis put in.
use Rattle.nd_layout.proofs.NamesFromOtherCrates.{ℕ, ⊎_elim, Bool, max, zero, suc, ◌+◌, ◌-◌, ◌*◌, ◌<◌, ◌≤◌, ◌≡◌, ◌⊎◌, List, [], ◌∷◌, length, get_or, set, ltb, leb, ◌&&◌, true, false, arith, refl, ap, sym, ◌∙◌, ℤ, pos, ◌+ℤ◌, ◌*ℤ◌, nat_abs, +ℤ_idl, remove, insert, mul_left_comm, cases_lt, cases_order, get_or-remove_below, get_or-remove_above, get_or-insert_below, get_or-insert_at, get_or-insert_above, and-false, in_box, size_of, nonzero_product, HasCheckedSize, displacement_of, span_of, span_within, magnitude_at, IsSeparated}
use Rattle.nd_layout.proofs.Integers.{sums, zero-mul}
use Rattle.nd_layout.proofs.AxisChange.{span_of-at, counted_none}
use Rattle.nd_layout.proofs.PermutedAxes.{nonzero-cons}

-- ---- axis a at the coordinate c
-- the index with c put in
pub displacement_of-inserted : (ss : List ℤ) (i : List ℕ) (a c : ℕ) → a < length ss → a ≤ length i → displacement_of ss (insert i a c) ≡ (pos c *ℤ get_or ss a (pos 0)) +ℤ displacement_of (remove ss a) i
displacement_of-inserted [] i a c h q = absurd (omega arith)
displacement_of-inserted (s ∷ ss) i zero c h q = refl
displacement_of-inserted (s ∷ ss) [] (suc a) c h q = absurd (omega arith)
displacement_of-inserted (s ∷ ss) (k ∷ i) (suc a) c h q = omega (arith, sums, displacement_of-inserted ss i a c (omega arith) (omega arith))

box_short : (n : ℕ) (ns : List ℕ) (k : ℕ) → 0 < length ns → in_box (n ∷ ns) (k ∷ []) ≡ false
box_short n [] k h = absurd (omega arith)
box_short n (m ∷ ns) k h = and-false (ltb k n)

-- tests in another order
pub and_swap : (x y z : Bool) → (x && (y && z)) ≡ (y && (x && z))
and_swap true y z = refl
and_swap false true z = refl
and_swap false false z = refl

-- its box
pub in_box-inserted : (ns i : List ℕ) (a c : ℕ) → a < length ns → in_box ns (insert i a c) ≡ (ltb c (get_or ns a 0) && in_box (remove ns a) i)
in_box-inserted [] i a c h = absurd (omega arith)
in_box-inserted (n ∷ ns) i zero c h = refl
in_box-inserted (n ∷ ns) [] (suc a) c h = box_short n ns c (omega arith) ∙ sym (and-false (ltb c (get_or ns a 0)))
in_box-inserted (n ∷ ns) (k ∷ i) (suc a) c h = ap (λ b. ltb k n && b) (in_box-inserted ns i a c (omega arith)) ∙ and_swap (ltb k n) (ltb c (get_or ns a 0)) (in_box (remove ns a) i)

-- the span and the counted span are those with the axis at length 1
pub span_of-removed : (ns : List ℕ) (ss : List ℤ) (a : ℕ) → length ss ≡ length ns → a < length ns → span_of (remove ns a) (remove ss a) ≡ span_of (set ns a 1) ss
span_of-removed [] ss a e h = absurd (omega arith)
span_of-removed (n ∷ ns) [] a e h = absurd (omega arith)
span_of-removed (n ∷ ns) (s ∷ ss) zero e h = omega arith
span_of-removed (n ∷ ns) (s ∷ ss) (suc a) e h = omega (arith, span_of-removed ns ss a (omega arith) (omega arith))

-- so the span doesn't grow
pub span_of-removed-le : (ns : List ℕ) (ss : List ℤ) (a : ℕ) → length ss ≡ length ns → a < length ns → span_of (remove ns a) (remove ss a) ≤ span_of ns ss
span_of-removed-le ns ss a e h = omega (arith, span_of-removed ns ss a e h, span_of-at ns ss a e h)

-- nor does the counted span
pub span_within-removed-le : (g : ℕ) (ns : List ℕ) (ss : List ℤ) (a : ℕ) → length ss ≡ length ns → a < length ns → span_within g (remove ns a) (remove ss a) ≤ span_within g ns ss
span_within-removed-le g [] ss a e h = absurd (omega arith)
span_within-removed-le g (n ∷ ns) [] a e h = absurd (omega arith)
span_within-removed-le g (n ∷ ns) (s ∷ ss) zero e h = omega arith
span_within-removed-le g (n ∷ ns) (s ∷ ss) (suc a) e h = omega (arith, span_within-removed-le g ns ss a (omega arith) (omega arith))

-- separation is kept
pub IsSeparated-removed : (ns : List ℕ) (ss : List ℤ) (a : ℕ) → length ss ≡ length ns → a < length ns → IsSeparated ns ss → IsSeparated (remove ns a) (remove ss a)
IsSeparated-removed ns ss a e h apart k long =
    let g = magnitude_at (remove ss a) k in
    let less = span_within-removed-le g ns ss a e h in
    ⊎_elim
    (λ (below : k < a).
    let n_is = get_or-remove_below ns a 0 k below h in
    let m_is = ap nat_abs (get_or-remove_below ss a (pos 0) k below (omega arith)) in
    let old = apart k (rw n_is at long) in
    let more = rw m_is at less in
    rw (m_is, n_is) (omega arith))
    (λ (above : a ≤ k).
    let n_is = get_or-remove_above ns a 0 k above h in
    let m_is = ap nat_abs (get_or-remove_above ss a (pos 0) k above (omega arith)) in
    let old = apart (k + 1) (rw n_is at long) in
    let more = rw m_is at less in
    rw (m_is, n_is) (omega arith))
    (cases_lt k a)

-- the size is the length times the size of the rest
pub size_of-removed : (ns : List ℕ) (a : ℕ) → a < length ns → size_of ns ≡ get_or ns a 0 * size_of (remove ns a)
size_of-removed [] a h = absurd (omega arith)
size_of-removed (n ∷ ns) zero h = refl
size_of-removed (n ∷ ns) (suc a) h = ap (λ v. n * v) (size_of-removed ns a (omega arith)) ∙ mul_left_comm n (get_or ns a 0) (size_of (remove ns a))

-- likewise over the lengths other than 0
pub nonzero_product-removed : (ns : List ℕ) (a : ℕ) → a < length ns → nonzero_product ns ≡ max 1 (get_or ns a 0) * nonzero_product (remove ns a)
nonzero_product-removed [] a h = absurd (omega arith)
nonzero_product-removed (n ∷ ns) zero h = nonzero-cons n ns
nonzero_product-removed (n ∷ ns) (suc a) h =
    nonzero-cons n ns
    ∙ ap (λ v. max 1 n * v) (nonzero_product-removed ns a (omega arith))
    ∙ mul_left_comm (max 1 n) (max 1 (get_or ns a 0)) (nonzero_product (remove ns a))
    ∙ ap (λ v. max 1 (get_or ns a 0) * v) (sym (nonzero-cons n (remove ns a)))

-- a factor of at least 1 makes no product smaller
pub le-product : (m x : ℕ) → 1 ≤ m → x ≤ m * x
le-product zero x h = absurd (omega arith)
le-product (suc m) x h = omega arith

-- so the checked size is kept
pub HasCheckedSize-removed : (ns : List ℕ) (a : ℕ) → a < length ns → HasCheckedSize ns → HasCheckedSize (remove ns a)
HasCheckedSize-removed ns a h few = omega (arith, few, nonzero_product-removed ns a h, le-product (max 1 (get_or ns a 0)) (nonzero_product (remove ns a)) (omega arith))

-- ---- an axis of length m and stride t put in as axis a
pub displacement_of-inserted_axis : (ss : List ℤ) (i : List ℕ) (a : ℕ) (t : ℤ) → a ≤ length ss → a < length i → displacement_of (insert ss a t) i ≡ (pos (get_or i a 0) *ℤ t) +ℤ displacement_of ss (remove i a)
displacement_of-inserted_axis ss [] a t q h = absurd (omega arith)
displacement_of-inserted_axis ss (k ∷ i) zero t q h = refl
displacement_of-inserted_axis [] (k ∷ i) (suc a) t q h = absurd (omega arith)
displacement_of-inserted_axis (s ∷ ss) (k ∷ i) (suc a) t q h = omega (arith, sums, displacement_of-inserted_axis ss i a t (omega arith) (omega arith))

-- at coordinate 0, the only one of a length of 1, the stride doesn't matter
pub displacement_of-inserted_zero : (ss : List ℤ) (i : List ℕ) (a : ℕ) (t : ℤ) → a ≤ length ss → a < length i → get_or i a 0 ≡ 0 → displacement_of (insert ss a t) i ≡ displacement_of ss (remove i a)
displacement_of-inserted_zero ss i a t q h none =
    displacement_of-inserted_axis ss i a t q h
    ∙ ap (λ k. (pos k *ℤ t) +ℤ displacement_of ss (remove i a)) none
    ∙ ap (λ z. z +ℤ displacement_of ss (remove i a)) (zero-mul t)
    ∙ +ℤ_idl (displacement_of ss (remove i a))

-- its box
pub in_box-inserted_axis : (ns i : List ℕ) (a m : ℕ) → a ≤ length ns → a < length i → in_box (insert ns a m) i ≡ (ltb (get_or i a 0) m && in_box ns (remove i a))
in_box-inserted_axis ns [] a m q h = absurd (omega arith)
in_box-inserted_axis ns (k ∷ i) zero m q h = refl
in_box-inserted_axis [] (k ∷ i) (suc a) m q h = absurd (omega arith)
in_box-inserted_axis (n ∷ ns) (k ∷ i) (suc a) m q h = ap (λ b. ltb k n && b) (in_box-inserted_axis ns i a m (omega arith) (omega arith)) ∙ and_swap (ltb k n) (ltb (get_or i a 0) m) (in_box ns (remove i a))

-- its span
pub span_of-inserted_axis : (ns : List ℕ) (ss : List ℤ) (a m : ℕ) (t : ℤ) → length ss ≡ length ns → a ≤ length ns → span_of (insert ns a m) (insert ss a t) ≡ (m - 1) * nat_abs t + span_of ns ss
span_of-inserted_axis ns ss zero m t e h = refl
span_of-inserted_axis [] ss (suc a) m t e h = absurd (omega arith)
span_of-inserted_axis (n ∷ ns) [] (suc a) m t e h = absurd (omega arith)
span_of-inserted_axis (n ∷ ns) (s ∷ ss) (suc a) m t e h = omega (arith, span_of-inserted_axis ns ss a m t (omega arith) (omega arith))

-- an axis of length 1 adds nothing to the counted span
pub span_within-inserted_axis : (g : ℕ) (ns : List ℕ) (ss : List ℤ) (a : ℕ) (t : ℤ) → length ss ≡ length ns → a ≤ length ns → span_within g (insert ns a 1) (insert ss a t) ≡ span_within g ns ss
span_within-inserted_axis g ns ss zero t e h = omega (arith, counted_none (leb (nat_abs t) g) (nat_abs t))
span_within-inserted_axis g [] ss (suc a) t e h = absurd (omega arith)
span_within-inserted_axis g (n ∷ ns) [] (suc a) t e h = absurd (omega arith)
span_within-inserted_axis g (n ∷ ns) (s ∷ ss) (suc a) t e h = omega (arith, span_within-inserted_axis g ns ss a t (omega arith) (omega arith))

-- and keeps separation
pub IsSeparated-inserted_axis : (ns : List ℕ) (ss : List ℤ) (a : ℕ) (t : ℤ) → length ss ≡ length ns → a ≤ length ns → IsSeparated ns ss → IsSeparated (insert ns a 1) (insert ss a t)
IsSeparated-inserted_axis ns ss a t e h apart k long =
    let g = magnitude_at (insert ss a t) k in
    let same = span_within-inserted_axis g ns ss a t e h in
    ⊎_elim
    (λ (is : k ≡ a). absurd (omega (arith, ap (λ j. get_or (insert ns a 1) j 0) is, get_or-insert_at ns a 1 0 h)))
    (λ (apart' : (k < a) ⊎ (a < k)). ⊎_elim
    (λ (below : k < a).
    let n_is = get_or-insert_below ns a 1 0 k below h in
    let m_is = ap nat_abs (get_or-insert_below ss a t (pos 0) k below (omega arith)) in
    let old = apart k (rw n_is at long) in
    let same' = rw m_is at same in
    rw (m_is, n_is) (omega arith))
    (λ (above : a < k).
    let back : k ≡ (k - 1) + 1 = omega arith in
    let n_is = ap (λ j. get_or (insert ns a 1) j 0) back ∙ get_or-insert_above ns a 1 0 (k - 1) (omega arith) h in
    let m_is = ap nat_abs (ap (λ j. get_or (insert ss a t) j (pos 0)) back ∙ get_or-insert_above ss a t (pos 0) (k - 1) (omega arith) (omega arith)) in
    let old = apart (k - 1) (rw n_is at long) in
    let same' = rw m_is at same in
    rw (m_is, n_is) (omega arith))
    apart')
    (cases_order k a)

-- an axis of length 1 keeps the product of the lengths other than 0
pub nonzero_product-inserted_axis : (ns : List ℕ) (a : ℕ) → a ≤ length ns → nonzero_product (insert ns a 1) ≡ nonzero_product ns
nonzero_product-inserted_axis ns zero h = omega arith
nonzero_product-inserted_axis [] (suc a) h = absurd (omega arith)
nonzero_product-inserted_axis (n ∷ ns) (suc a) h =
    nonzero-cons n (insert ns a 1) ∙ ap (λ v. max 1 n * v) (nonzero_product-inserted_axis ns a (omega arith)) ∙ sym (nonzero-cons n ns)
