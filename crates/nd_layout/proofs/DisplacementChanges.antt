-- The displacement of an index where one axis's stride or coordinate changes.
use Rattle.nd_layout.proofs.NamesFromOtherCrates.{ℕ, zero, suc, ◌+◌, ◌-◌, ◌*◌, ◌<◌, ◌≤◌, ◌≡◌, List, [], ◌∷◌, length, get_or, set, arith, ap, sym, ◌∙◌, ℤ, pos, negsuc, ◌+ℤ◌, ◌*ℤ◌, displacement_of}
use Rattle.nd_layout.proofs.Integers.{sums, zero-mul, add-mul, mul-pos, mul-negsuc}

-- another stride and another coordinate at axis a
pub displacement_of-set : (ss : List ℤ) (i : List ℕ) (a : ℕ) (t : ℤ) (x : ℕ) → length i ≡ length ss → a < length ss → displacement_of (set ss a t) (set i a x) +ℤ (pos (get_or i a 0) *ℤ get_or ss a (pos 0)) ≡ displacement_of ss i +ℤ (pos x *ℤ t)
displacement_of-set [] i a t x e h = absurd (omega arith)
displacement_of-set (s ∷ ss) [] a t x e h = absurd (omega arith)
displacement_of-set (s ∷ ss) (k ∷ i) zero t x e h = omega (arith, sums)
displacement_of-set (s ∷ ss) (k ∷ i) (suc a) t x e h = omega (arith, sums, displacement_of-set ss i a t x (omega arith) (omega arith))

-- the displacement is that at coordinate 0 of axis a and the coordinate times the stride
pub displacement_of-at : (ss : List ℤ) (i : List ℕ) (a : ℕ) → length i ≡ length ss → a < length ss → displacement_of ss i ≡ (pos (get_or i a 0) *ℤ get_or ss a (pos 0)) +ℤ displacement_of ss (set i a 0)
displacement_of-at [] i a e h = absurd (omega arith)
displacement_of-at (s ∷ ss) [] a e h = absurd (omega arith)
displacement_of-at (s ∷ ss) (k ∷ i) zero e h = rw (zero-mul s) (omega (arith, sums))
displacement_of-at (s ∷ ss) (k ∷ i) (suc a) e h = omega (arith, sums, displacement_of-at ss i a (omega arith) (omega arith))

-- where the new coordinate's step is the old one's and a constant
pub displacement_of-moved : (ss : List ℤ) (i : List ℕ) (a : ℕ) (t : ℤ) (x : ℕ) (z : ℤ) → length i ≡ length ss → a < length ss → pos x *ℤ get_or ss a (pos 0) ≡ z +ℤ (pos (get_or i a 0) *ℤ t) → displacement_of ss (set i a x) ≡ z +ℤ displacement_of (set ss a t) i
displacement_of-moved [] i a t x z e h move = absurd (omega arith)
displacement_of-moved (s ∷ ss) [] a t x z e h move = absurd (omega arith)
displacement_of-moved (s ∷ ss) (k ∷ i) zero t x z e h move = omega (arith, sums)
displacement_of-moved (s ∷ ss) (k ∷ i) (suc a) t x z e h move = omega (arith, sums, displacement_of-moved ss i a t x z (omega arith) (omega arith) move)

-- a slice that goes up from the coordinate low
pub displacement_of-stepped_up : (ss : List ℤ) (i : List ℕ) (a low step : ℕ) → length i ≡ length ss → a < length ss → displacement_of ss (set i a (low + get_or i a 0 * step)) ≡ (pos low *ℤ get_or ss a (pos 0)) +ℤ displacement_of (set ss a (get_or ss a (pos 0) *ℤ pos step)) i
displacement_of-stepped_up ss i a low step e h =
    let s = get_or ss a (pos 0) in
    displacement_of-moved ss i a (s *ℤ pos step) (low + get_or i a 0 * step) (pos low *ℤ s) e h
    (add-mul low (get_or i a 0 * step) s ∙ ap (λ v. (pos low *ℤ s) +ℤ v) (sym (mul-pos (get_or i a 0) step s)))

-- a slice that goes down from the coordinate last
pub displacement_of-stepped_down : (ss : List ℤ) (i : List ℕ) (a last step : ℕ) → length i ≡ length ss → a < length ss → get_or i a 0 * suc step ≤ last → displacement_of ss (set i a (last - get_or i a 0 * suc step)) ≡ (pos last *ℤ get_or ss a (pos 0)) +ℤ displacement_of (set ss a (get_or ss a (pos 0) *ℤ negsuc step)) i
displacement_of-stepped_down ss i a last step e h within =
    let s = get_or ss a (pos 0) in
    let k = get_or i a 0 * suc step in
    let parts : last ≡ (last - k) + k = omega arith in
    let whole = ap (λ n. pos n *ℤ s) parts ∙ add-mul (last - k) k s in
    let back = mul-negsuc (get_or i a 0) step s in
    displacement_of-moved ss i a (s *ℤ negsuc step) (last - k) (pos last *ℤ s) e h (omega (arith, sums, whole, back))
