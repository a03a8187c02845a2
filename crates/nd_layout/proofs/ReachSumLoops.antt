-- Steps of the loops that sum the axes' reaches.
use Rattle.nd_layout.proofs.NamesFromOtherCrates.{ℕ, zero, suc, ◌+◌, ◌-◌, ◌*◌, ◌<◌, ◌≤◌, ◌≡◌, List, [], ◌∷◌, length, get_or, set, drop, arith, refl, ℤ, pos, nat_abs, drop_more, le-leb, span_of, span_within, magnitude_at}

-- the span from axis i on is that axis's reach and the span from the next axis on
pub span_of-drop : (ns : List ℕ) (ss : List ℤ) (i : ℕ) → length ss ≡ length ns → i < length ns → span_of (drop i ns) (drop i ss) ≡ (get_or ns i 0 - 1) * nat_abs (get_or ss i (pos 0)) + span_of (drop (i + 1) ns) (drop (i + 1) ss)
span_of-drop ns ss i e h =
    let q : i < length ss = omega arith in
    rw (drop_more ns i 0 h, drop_more ss i (pos 0) q) refl

-- an axis of magnitude m at most, taken out and put back
pub span_within-set_one : (m : ℕ) (ns : List ℕ) (ss : List ℤ) (k : ℕ) → length ss ≡ length ns → k < length ns → nat_abs (get_or ss k (pos 0)) ≤ m → span_within m (set ns k 1) ss + (get_or ns k 0 - 1) * nat_abs (get_or ss k (pos 0)) ≡ span_within m ns ss
span_within-set_one m [] ss k e h a = absurd (omega arith)
span_within-set_one m (n ∷ ns) [] k e h a = absurd (omega arith)
span_within-set_one m (n ∷ ns) (s ∷ ss) zero e h a = rw (le-leb (nat_abs s) m a) (omega arith)
span_within-set_one m (n ∷ ns) (s ∷ ss) (suc k) e h a = omega (arith, span_within-set_one m ns ss k (omega arith) (omega arith) a)

-- a product, one step less and one step
pub mul-pred : (n m : ℕ) → 0 < n → n * m ≡ (n - 1) * m + m
mul-pred zero m h = absurd (omega arith)
mul-pred (suc n) m h = let e : suc n - 1 ≡ n = omega arith in rw e (omega arith)

-- an axis steps further than the others reach exactly where all together reach less than length times step
pub stands_apart-of_others : (ns : List ℕ) (ss : List ℤ) (k m : ℕ) → length ss ≡ length ns → k < length ns → m ≡ magnitude_at ss k → 1 < get_or ns k 0 → (span_within m (set ns k 1) ss < m → span_within (magnitude_at ss k) ns ss < get_or ns k 0 * magnitude_at ss k) × (span_within (magnitude_at ss k) ns ss < get_or ns k 0 * magnitude_at ss k → span_within m (set ns k 1) ss < m)
stands_apart-of_others ns ss k m e h is_m long =
    rw is_m
    (let a = span_within-set_one (magnitude_at ss k) ns ss k e h (omega arith) in
    let b = mul-pred (get_or ns k 0) (magnitude_at ss k) (omega arith) in
    (λ p. omega arith, λ p. omega arith))
