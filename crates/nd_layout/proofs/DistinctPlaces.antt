-- Separated strides give distinct indexes distinct places.
use Rattle.nd_layout.proofs.NamesFromOtherCrates.{ℕ, ⊎_elim, zero, suc, ◌+◌, ◌-◌, ◌*◌, ◌<◌, ◌≤◌, ◌≡◌, ◌⊎◌, inl, inr, List, [], ◌∷◌, length, get_or, set, ltb, true, arith, ap, sym, ◌∙◌, ℤ, pos, negsuc, ◌+ℤ◌, ◌*ℤ◌, nat_abs, mul-le-mul_right, cases_lt, cases_order, false≢true, ltb-true, and_parts, get_or-set_other, get_or_past, ext_get_or, in_box, displacement_of, span_within, magnitude_at, IsSeparated, length-in_box, coordinate_below, in_box-set}
use borrow.Author.Differences.{up, down, neg_is}
use Rattle.nd_layout.proofs.Integers.{sums}
use Rattle.nd_layout.proofs.DisplacementChanges.{displacement_of-at}
use Rattle.nd_layout.proofs.AxisChange.{counted_cases, others_below}

-- two coordinates of one axis lie no further apart than the axis reaches
part_apart : (x y n : ℕ) (s : ℤ) → x < n → y < n → up (pos x *ℤ s) + down (pos y *ℤ s) ≤ up (pos y *ℤ s) + down (pos x *ℤ s) + (n - 1) * nat_abs s
part_apart x y n (pos s) p q = let a = mul-le-mul_right s (within x n p) in omega arith
  where
    within : (x n : ℕ) → x < n → x ≤ n - 1
    within x n p = omega arith
part_apart x y n (negsuc s) p q =
    let a = mul-le-mul_right (suc s) (within y n q) in
    omega (arith, neg_is (pos (x * suc s)), neg_is (pos (y * suc s)))
  where
    within : (x n : ℕ) → x < n → x ≤ n - 1
    within x n p = omega arith

-- two indexes that agree at each axis of magnitude above g lie no further apart than the other axes reach
apart_bound : (g : ℕ) (ns : List ℕ) (ss : List ℤ) (i j : List ℕ) → in_box ns i ≡ true → in_box ns j ≡ true → ((k : ℕ) → g < magnitude_at ss k → get_or i k 0 ≡ get_or j k 0) → up (displacement_of ss i) + down (displacement_of ss j) ≤ up (displacement_of ss j) + down (displacement_of ss i) + span_within g ns ss
apart_bound g [] [] i j h q agree = omega arith
apart_bound g [] (s ∷ ss) [] [] h q agree = omega arith
apart_bound g [] (s ∷ ss) (x ∷ i) j h q agree = absurd (false≢true h)
apart_bound g [] (s ∷ ss) [] (y ∷ j) h q agree = absurd (false≢true q)
apart_bound g (n ∷ ns) [] i j h q agree = omega arith
apart_bound g (n ∷ ns) (s ∷ ss) [] j h q agree = absurd (false≢true h)
apart_bound g (n ∷ ns) (s ∷ ss) (x ∷ i) [] h q agree = absurd (false≢true q)
apart_bound g (n ∷ ns) (s ∷ ss) (x ∷ i) (y ∷ j) h q agree =
    let wx = and_parts (ltb x n) (in_box ns i) h in
    let wy = and_parts (ltb y n) (in_box ns j) q in
    let rest = apart_bound g ns ss i j wx.1 wy.1 (λ k. agree (suc k)) in
    let part = part_apart x y n s (ltb-true x n wx.0) (ltb-true y n wy.0) in
    ⊎_elim
    (λ counted. omega (arith, sums, counted.1))
    (λ out. let same = ap (λ v. pos v *ℤ s) (agree 0 out.0) in omega (arith, sums, out.1, same))
    (counted_cases (nat_abs s) g ((n - 1) * nat_abs s))

-- two coordinates that differ lie at least a step apart, in one direction or the other
steps_apart : (x y : ℕ) (s : ℤ) → x < y → (up (pos x *ℤ s) + down (pos y *ℤ s) + nat_abs s ≤ up (pos y *ℤ s) + down (pos x *ℤ s)) ⊎ (up (pos y *ℤ s) + down (pos x *ℤ s) + nat_abs s ≤ up (pos x *ℤ s) + down (pos y *ℤ s))
steps_apart x y (pos s) h = let more = mul-le-mul_right {m = suc x} {n = y} s (omega arith) in inl (omega arith)
steps_apart x y (negsuc s) h =
    let more = mul-le-mul_right {m = suc x} {n = y} (suc s) (omega arith) in
    inr (omega (arith, neg_is (pos (x * suc s)), neg_is (pos (y * suc s))))

same_by_steps : (x y : ℕ) (s a b : ℤ) (w : ℕ) → (pos x *ℤ s) +ℤ a ≡ (pos y *ℤ s) +ℤ b → up a + down b ≤ up b + down a + w → up b + down a ≤ up a + down b + w → w < nat_abs s → x ≡ y
same_by_steps x y s a b w e p q less =
    ⊎_elim
    (λ (is : x ≡ y). is)
    (λ (other : (x < y) ⊎ (y < x)). ⊎_elim
    (λ (below : x < y). ⊎_elim (λ more. absurd (omega (arith, sums))) (λ more. absurd (omega (arith, sums))) (steps_apart x y s below))
    (λ (above : y < x). ⊎_elim (λ more. absurd (omega (arith, sums))) (λ more. absurd (omega (arith, sums))) (steps_apart y x s above))
    other)
    (cases_order x y)

-- indexes of equal displacement that agree at each axis of greater magnitude agree at axis k
same_at : (ns : List ℕ) (ss : List ℤ) (i j : List ℕ) → length ss ≡ length ns → IsSeparated ns ss → in_box ns i ≡ true → in_box ns j ≡ true → displacement_of ss i ≡ displacement_of ss j → (k : ℕ) → k < length ns → ((l : ℕ) → magnitude_at ss k < magnitude_at ss l → get_or i l 0 ≡ get_or j l 0) → get_or i k 0 ≡ get_or j k 0
same_at ns ss i j e apart h q same k within agree =
    ⊎_elim
    (λ (long : 1 < get_or ns k 0).
    let below = others_below ns ss e apart k long in
    let g = magnitude_at ss k in
    let h' = in_box-set ns i k 1 0 h (omega arith) in
    let q' = in_box-set ns j k 1 0 q (omega arith) in
    let other : (l : ℕ) → g < magnitude_at ss l → l ≡ k → ⊥ = λ l more is. let f = ap (magnitude_at ss) is in omega arith in
    let agree' : (l : ℕ) → g < magnitude_at ss l → get_or (set i k 0) l 0 ≡ get_or (set j k 0) l 0 =
    λ l more. get_or-set_other i k l 0 0 (other l more) ∙ agree l more ∙ sym (get_or-set_other j k l 0 0 (other l more)) in
    let p = apart_bound g (set ns k 1) ss (set i k 0) (set j k 0) h' q' agree' in
    let r = apart_bound g (set ns k 1) ss (set j k 0) (set i k 0) q' h' (λ l more. sym (agree' l more)) in
    let at_i = displacement_of-at ss i k (length-in_box ns i h ∙ sym e) (omega arith) in
    let at_j = displacement_of-at ss j k (length-in_box ns j q ∙ sym e) (omega arith) in
    same_by_steps (get_or i k 0) (get_or j k 0) (get_or ss k (pos 0)) (displacement_of ss (set i k 0)) (displacement_of ss (set j k 0)) (span_within g (set ns k 1) ss) (sym at_i ∙ same ∙ at_j) p r below)
    (λ (short : get_or ns k 0 ≤ 1). omega (arith, coordinate_below ns i k h within, coordinate_below ns j k q within))
    (cases_lt 1 (get_or ns k 0))

-- all magnitudes together: none is greater
abbrev all_magnitudes : List ℤ → ℕ
all_magnitudes [] = 0
all_magnitudes (s ∷ ss) = nat_abs s + all_magnitudes ss

magnitude-le : (ss : List ℤ) (k : ℕ) → magnitude_at ss k ≤ all_magnitudes ss
magnitude-le [] k = omega arith
magnitude-le (s ∷ ss) zero = omega arith
magnitude-le (s ∷ ss) (suc k) = omega (arith, magnitude-le ss k)

-- so they agree at each axis of magnitude above g, from the greatest magnitudes down
same_above : (ns : List ℕ) (ss : List ℤ) (i j : List ℕ) → length ss ≡ length ns → IsSeparated ns ss → in_box ns i ≡ true → in_box ns j ≡ true → displacement_of ss i ≡ displacement_of ss j → (d g : ℕ) → all_magnitudes ss ≤ g + d → (k : ℕ) → g < magnitude_at ss k → get_or i k 0 ≡ get_or j k 0
same_above ns ss i j e apart h q same zero g all k more = absurd (omega (arith, magnitude-le ss k))
same_above ns ss i j e apart h q same (suc d) g all k more =
    ⊎_elim
    (λ (within : k < length ns). same_at ns ss i j e apart h q same k within (λ l above. same_above ns ss i j e apart h q same d (suc g) (omega arith) l (omega arith)))
    (λ (past : length ns ≤ k). get_or_past i k 0 (omega (arith, length-in_box ns i h)) ∙ sym (get_or_past j k 0 (omega (arith, length-in_box ns j q))))
    (cases_lt k (length ns))

-- two indexes of the box with one displacement are one index
pub same_index : (ns : List ℕ) (ss : List ℤ) (i j : List ℕ) → length ss ≡ length ns → IsSeparated ns ss → in_box ns i ≡ true → in_box ns j ≡ true → displacement_of ss i ≡ displacement_of ss j → i ≡ j
same_index ns ss i j e apart h q same =
    ext_get_or 0 i j (length-in_box ns i h ∙ sym (length-in_box ns j q))
    (λ k within. same_at ns ss i j e apart h q same k (omega (arith, length-in_box ns i h))
    (λ l more. same_above ns ss i j e apart h q same (all_magnitudes ss) 0 (omega arith) l (omega arith)))
