-- Span and separation where one axis gets another length and stride.
use Rattle.nd_layout.proofs.NamesFromOtherCrates.{ℕ, ⊎_elim, Bool, zero, suc, ◌+◌, ◌-◌, ◌*◌, ◌<◌, ◌≤◌, ◌≡◌, ◌≢◌, ◌⊎◌, inl, inr, List, [], ◌∷◌, length, get_or, set, leb, cond, true, false, arith, refl, ap, sym, subst, ◌∙◌, ℤ, pos, nat_abs, le-leb, lt-leb, cases_lt, cases_eq, length-set, set-set, set_comm, get_or-set_same, get_or-set_other, get_or_past, mul_assoc, mul_comm, mul-le-mul_right, span_of, span_within, magnitude_at, IsSeparated}
use Rattle.nd_layout.proofs.ReachSumLoops.{stands_apart-of_others}

-- the span is axis a's reach and that of the others
pub span_of-set : (ns : List ℕ) (ss : List ℤ) (a m : ℕ) (t : ℤ) → length ss ≡ length ns → a < length ns → span_of (set ns a m) (set ss a t) ≡ (m - 1) * nat_abs t + span_of (set ns a 1) ss
span_of-set [] ss a m t e h = absurd (omega arith)
span_of-set (n ∷ ns) [] a m t e h = absurd (omega arith)
span_of-set (n ∷ ns) (s ∷ ss) zero m t e h = omega arith
span_of-set (n ∷ ns) (s ∷ ss) (suc a) m t e h = omega (arith, span_of-set ns ss a m t (omega arith) (omega arith))

-- the same with the axis as it is
pub span_of-at : (ns : List ℕ) (ss : List ℤ) (a : ℕ) → length ss ≡ length ns → a < length ns → span_of ns ss ≡ (get_or ns a 0 - 1) * nat_abs (get_or ss a (pos 0)) + span_of (set ns a 1) ss
span_of-at [] ss a e h = absurd (omega arith)
span_of-at (n ∷ ns) [] a e h = absurd (omega arith)
span_of-at (n ∷ ns) (s ∷ ss) zero e h = omega arith
span_of-at (n ∷ ns) (s ∷ ss) (suc a) e h = omega (arith, span_of-at ns ss a (omega arith) (omega arith))

-- the span doesn't grow where the axis doesn't reach further
pub span_of-changed : (ns : List ℕ) (ss : List ℤ) (a m : ℕ) (t : ℤ) → length ss ≡ length ns → a < length ns → (m - 1) * nat_abs t ≤ (get_or ns a 0 - 1) * nat_abs (get_or ss a (pos 0)) → span_of (set ns a m) (set ss a t) ≤ span_of ns ss
span_of-changed ns ss a m t e h shorter = omega (arith, span_of-set ns ss a m t e h, span_of-at ns ss a e h)

-- an axis of length 1 adds nothing, whether it is counted or not
pub counted_none : (b : Bool) (x : ℕ) → cond b ((1 - 1) * x) 0 ≡ 0
counted_none true x = omega arith
counted_none false x = refl

-- the same two equations over the axes of magnitude g at most
pub span_within-set : (g : ℕ) (ns : List ℕ) (ss : List ℤ) (a m : ℕ) (t : ℤ) → length ss ≡ length ns → a < length ns → span_within g (set ns a m) (set ss a t) ≡ cond (leb (nat_abs t) g) ((m - 1) * nat_abs t) 0 + span_within g (set ns a 1) ss
span_within-set g [] ss a m t e h = absurd (omega arith)
span_within-set g (n ∷ ns) [] a m t e h = absurd (omega arith)
span_within-set g (n ∷ ns) (s ∷ ss) zero m t e h = omega (arith, counted_none (leb (nat_abs s) g) (nat_abs s))
span_within-set g (n ∷ ns) (s ∷ ss) (suc a) m t e h = omega (arith, span_within-set g ns ss a m t (omega arith) (omega arith))

-- the same with the axis as it is
pub span_within-at : (g : ℕ) (ns : List ℕ) (ss : List ℤ) (a : ℕ) → length ss ≡ length ns → a < length ns → span_within g ns ss ≡ cond (leb (nat_abs (get_or ss a (pos 0))) g) ((get_or ns a 0 - 1) * nat_abs (get_or ss a (pos 0))) 0 + span_within g (set ns a 1) ss
span_within-at g [] ss a e h = absurd (omega arith)
span_within-at g (n ∷ ns) [] a e h = absurd (omega arith)
span_within-at g (n ∷ ns) (s ∷ ss) zero e h = omega (arith, counted_none (leb (nat_abs s) g) (nat_abs s))
span_within-at g (n ∷ ns) (s ∷ ss) (suc a) e h = omega (arith, span_within-at g ns ss a (omega arith) (omega arith))

-- what is counted is all of it or nothing
pub counted_cases : (x g r : ℕ) → ((x ≤ g) × (cond (leb x g) r 0 ≡ r)) ⊎ ((g < x) × (cond (leb x g) r 0 ≡ 0))
counted_cases x g r =
    ⊎_elim
    (λ over. inr (over, ap (λ b. cond b r 0) (lt-leb x g over)))
    (λ under. inl (under, ap (λ b. cond b r 0) (le-leb x g under)))
    (cases_lt g x)

-- no axis longer than 1 has a magnitude above g and up to h: counting up to h adds nothing
pub span_within-gap : (g h : ℕ) (ns : List ℕ) (ss : List ℤ) → ((j : ℕ) → 1 < get_or ns j 0 → g < magnitude_at ss j → magnitude_at ss j ≤ h → ⊥) → span_within h ns ss ≤ span_within g ns ss
span_within-gap g h [] ss none = omega arith
span_within-gap g h (n ∷ ns) [] none = omega arith
span_within-gap g h (n ∷ ns) (s ∷ ss) none =
    let rest = span_within-gap g h ns ss (λ j. none (suc j)) in
    let r = (n - 1) * nat_abs s in
    ⊎_elim
    (λ in_h. ⊎_elim
    (λ in_g. omega (arith, in_h.1, in_g.1))
    (λ out_g. ⊎_elim
    (λ long. absurd (none 0 long out_g.0 in_h.0))
    (λ short. let z : n - 1 ≡ 0 = omega arith in let zr : r ≡ 0 = ap (λ k. k * nat_abs s) z ∙ omega arith in omega (arith, in_h.1))
    (cases_lt 1 n))
    (counted_cases (nat_abs s) g r))
    (λ out_h. omega (arith, out_h.1))
    (counted_cases (nat_abs s) h r)

-- an axis with a length is one of the list
pub on_axis : (ns : List ℕ) (k : ℕ) → 1 < get_or ns k 0 → k < length ns
on_axis ns k long = ⊎_elim (λ h. h) (λ past. absurd (let e = get_or_past ns k 0 past in omega arith)) (cases_lt k (length ns))

-- how far the others within an axis's magnitude reach, in separated strides
pub others_below : (ns : List ℕ) (ss : List ℤ) → length ss ≡ length ns → IsSeparated ns ss → (k : ℕ) → 1 < get_or ns k 0 → span_within (magnitude_at ss k) (set ns k 1) ss < magnitude_at ss k
others_below ns ss e apart k long = (stands_apart-of_others ns ss k (magnitude_at ss k) e (on_axis ns k long) refl long).1 (apart k long)

-- and that this makes strides separated
pub separated_by_others : (ns : List ℕ) (ss : List ℤ) → length ss ≡ length ns → ((k : ℕ) → 1 < get_or ns k 0 → span_within (magnitude_at ss k) (set ns k 1) ss < magnitude_at ss k) → IsSeparated ns ss
separated_by_others ns ss e below k long = (stands_apart-of_others ns ss k (magnitude_at ss k) e (on_axis ns k long) refl long).0 (below k long)

-- a product of a number of at least 1
pub le-mul : (x k : ℕ) → 1 ≤ k → x ≤ k * x
le-mul x zero h = absurd (omega arith)
le-mul x (suc k) h = omega arith

-- a product of two numbers of at least 1
long_before : (m n k : ℕ) → 1 < m → 1 ≤ k → (m - 1) * k ≤ n - 1 → 1 < n
long_before m n k long some fits = let more = le-mul (m - 1) k some in let c = mul_comm (m - 1) k in omega arith

-- the axis's new reach: either it has none, or the new stride is k times the old one and the axis was longer than 1
pub changed_axis : (n m s t : ℕ) → (1 < m → (k : ℕ) × (t ≡ k * s) × (1 ≤ k) × ((m - 1) * k ≤ n - 1)) → (m ≤ 1) ⊎ ((1 < m) × (1 < n) × (s ≤ t) × ((m - 1) * t ≤ (n - 1) * s) × (t ≤ (n - 1) * s))
changed_axis n m s t step =
    ⊎_elim
    (λ long.
    let w = step long in
    let product = mul-le-mul_right s w.3 in
    let e : (m - 1) * t ≡ (m - 1) * w.0 * s = ap (λ v. (m - 1) * v) w.1 ∙ sym (mul_assoc (m - 1) w.0 s) in
    let once = le-mul t (m - 1) (omega arith) in
    let first = le-mul s w.0 w.2 in
    let more = le-mul w.0 (m - 1) (omega arith) in
    inr (long, long_before m n w.0 long w.2 w.3, omega arith, omega arith, omega arith))
    inl
    (cases_lt 1 m)

-- what an axis may become: of length 1 at most, or of larger steps that reach no further
abbrev pub Shortened : ℕ → ℕ → ℕ → ℕ → Type 0
Shortened n m s t = (m ≤ 1) ⊎ ((1 < m) × (1 < n) × (s ≤ t) × ((m - 1) * t ≤ (n - 1) * s) × (t ≤ (n - 1) * s))

-- it counts no more than before
counted_less : (g n m s t : ℕ) → Shortened n m s t → cond (leb t g) ((m - 1) * t) 0 ≤ cond (leb s g) ((n - 1) * s) 0
counted_less g n m s t changed =
    ⊎_elim
    (λ new. ⊎_elim
    (λ short. let z : m - 1 ≡ 0 = omega arith in let zr : (m - 1) * t ≡ 0 = ap (λ k. k * t) z ∙ omega arith in omega (arith, new.1))
    (λ long. ⊎_elim
    (λ old. omega (arith, new.1, old.1))
    (λ out. absurd (omega arith))
    (counted_cases s g ((n - 1) * s)))
    changed)
    (λ new. omega (arith, new.1))
    (counted_cases t g ((m - 1) * t))

-- an axis other than k is counted in what the others of k reach
counted_other : (ns : List ℕ) (ss : List ℤ) (a k : ℕ) → length ss ≡ length ns → a < length ns → a ≢ k → nat_abs (get_or ss a (pos 0)) ≤ magnitude_at ss k → (get_or ns a 0 - 1) * nat_abs (get_or ss a (pos 0)) ≤ span_within (magnitude_at ss k) (set ns k 1) ss
counted_other ns ss a k e h other within =
    let at = span_within-at (magnitude_at ss k) (set ns k 1) ss a (e ∙ sym (length-set ns k 1)) (omega (arith, length-set ns k 1)) in
    let same = get_or-set_other ns k a 1 0 other in
    let whole = rw (same, le-leb (nat_abs (get_or ss a (pos 0))) (magnitude_at ss k) within) at at in
    omega (arith, whole)

-- no other axis has a magnitude between the old and the new one of axis a
changed_gap : (ns : List ℕ) (ss : List ℤ) (a t : ℕ) → length ss ≡ length ns → a < length ns → t ≤ (get_or ns a 0 - 1) * nat_abs (get_or ss a (pos 0)) → IsSeparated ns ss → (j : ℕ) → 1 < get_or (set ns a 1) j 0 → nat_abs (get_or ss a (pos 0)) < magnitude_at ss j → magnitude_at ss j ≤ t → ⊥
changed_gap ns ss a t e h reach apart j long above upto =
    ⊎_elim
    (λ (is : j ≡ a). let one = get_or-set_same ns a 1 0 h in let long' = subst (λ k. 1 < get_or (set ns a 1) k 0) is long in omega arith)
    (λ (other : j ≡ a → ⊥).
    let other' : a ≢ j = λ q. other (sym q) in
    let same = get_or-set_other ns a j 1 0 other in
    let below = others_below ns ss e apart j (omega arith) in
    let reaches = counted_other ns ss a j e h other' (omega arith) in
    omega arith)
    (cases_eq j a)

-- the changed axis still steps further than the others reach
changed_at : (ns : List ℕ) (ss : List ℤ) (a m : ℕ) (t : ℤ) → length ss ≡ length ns → a < length ns → Shortened (get_or ns a 0) m (nat_abs (get_or ss a (pos 0))) (nat_abs t) → IsSeparated ns ss → 1 < m → span_within (nat_abs t) (set ns a 1) (set ss a t) < nat_abs t
changed_at ns ss a m t e h changed apart long =
    let none = counted_none (leb (nat_abs t) (nat_abs t)) (nat_abs t) in
    let as_before = span_within-set (nat_abs t) ns ss a 1 t e h in
    ⊎_elim
    (λ short. absurd (omega arith))
    (λ w.
    let below = others_below ns ss e apart a w.1 in
    let gap = span_within-gap (nat_abs (get_or ss a (pos 0))) (nat_abs t) (set ns a 1) ss (changed_gap ns ss a (nat_abs t) e h w.4 apart) in
    omega arith)
    changed

-- each other axis still steps further than the others reach
changed_on_other_axes : (ns : List ℕ) (ss : List ℤ) (a m : ℕ) (t : ℤ) → length ss ≡ length ns → a < length ns → Shortened (get_or ns a 0) m (nat_abs (get_or ss a (pos 0))) (nat_abs t) → IsSeparated ns ss → (k : ℕ) → k ≢ a → 1 < get_or ns k 0 → span_within (magnitude_at ss k) (set (set ns a m) k 1) (set ss a t) < magnitude_at ss k
changed_on_other_axes ns ss a m t e h changed apart k other long =
    let other' : a ≢ k = λ q. other (sym q) in
    let g = magnitude_at ss k in
    let below = others_below ns ss e apart k long in
    let l = length-set ns k 1 in
    let new = span_within-set g (set ns k 1) ss a m t (e ∙ sym l) (omega arith) in
    let old = span_within-at g (set ns k 1) ss a (e ∙ sym l) (omega arith) in
    let same = get_or-set_other ns k a 1 0 other' in
    let old' = rw same at old in
    let less = counted_less g (get_or ns a 0) m (nat_abs (get_or ss a (pos 0))) (nat_abs t) changed in
    rw (set_comm ns a k m 1 other') (omega arith)

-- Separation is kept where axis a gets a new length and a new stride that is k times the old one in magnitude,
-- so few steps that they reach no further than the old ones; a new length of 1 at most needs no such k.
pub IsSeparated-changed : (ns : List ℕ) (ss : List ℤ) (a m : ℕ) (t : ℤ) → length ss ≡ length ns → a < length ns → (1 < m → (k : ℕ) × (nat_abs t ≡ k * nat_abs (get_or ss a (pos 0))) × (1 ≤ k) × ((m - 1) * k ≤ get_or ns a 0 - 1)) → IsSeparated ns ss → IsSeparated (set ns a m) (set ss a t)
IsSeparated-changed ns ss a m t e h step apart =
    let changed = changed_axis (get_or ns a 0) m (nat_abs (get_or ss a (pos 0))) (nat_abs t) step in
    separated_by_others (set ns a m) (set ss a t) (length-set ss a t ∙ e ∙ sym (length-set ns a m))
    (λ k long. ⊎_elim
    (λ (is : k ≡ a).
    rw is
    (let at : 1 < get_or (set ns a m) a 0 = subst (λ j. 1 < get_or (set ns a m) j 0) is long in
    let lt : a < length ss = omega arith in
    rw (set-set ns a m 1, get_or-set_same ss a t (pos 0) lt) (changed_at ns ss a m t e h changed apart (rw (get_or-set_same ns a m 0 h) at at))))
    (λ (other : k ≡ a → ⊥).
    rw (get_or-set_other ss a k t (pos 0) other) (changed_on_other_axes ns ss a m t e h changed apart k other (rw (get_or-set_other ns a k m 0 other) at long)))
    (cases_eq k a))
