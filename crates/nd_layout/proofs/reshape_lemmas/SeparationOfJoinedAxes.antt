-- Separation is kept where two axes that go on from one another become one, and where one is split so.
use Rattle.nd_layout.proofs.NamesFromOtherCrates.{ℕ, ⊎_elim, zero, suc, ◌+◌, ◌-◌, ◌*◌, ◌<◌, ◌≤◌, ◌≡◌, List, ◌++◌, length, arith, ap, ◌∙◌, ℤ, mul-le-mul_right, mul-le-mul_left, cases_lt, length-append, span_within, IsSeparated}
use Rattle.nd_layout.proofs.ReachSumLoops.{mul-pred}
use Rattle.nd_layout.proofs.AxisChange.{counted_cases}
use Rattle.nd_layout.proofs.SeparationByAxes.{counted, Reaches, EachApart, EachApart-append, EachApart-parts, EachApart-weaker, EachApart-from_separated, separated_from_each, span_within-append}

-- ---- one stretch of axes changes, between axes that stay
pub stretch_changed : (es : List ℕ) (fs : List ℤ) (ns : List ℕ) (ss : List ℤ) (hs : List ℕ) (ts : List ℤ) (hs' : List ℕ) (ts' : List ℤ)
    → length fs ≡ length es → length ss ≡ length ns → length ts ≡ length hs → length ts' ≡ length hs'
    → ((n x : ℕ) → 1 < n → Reaches (λ g. span_within g es fs + span_within g ns ss) n x → span_within x es fs + span_within x ns ss + span_within x hs ts < n * x → EachApart (λ g. span_within g es fs + span_within g ns ss + span_within g hs ts) hs ts → span_within x es fs + span_within x ns ss + span_within x hs' ts' < n * x)
    → (EachApart (λ g. span_within g es fs + span_within g ns ss + span_within g hs ts) es fs → EachApart (λ g. span_within g es fs + span_within g ns ss + span_within g hs ts) ns ss → EachApart (λ g. span_within g es fs + span_within g ns ss + span_within g hs ts) hs ts → EachApart (λ g. span_within g es fs + span_within g ns ss + span_within g hs' ts') hs' ts')
    → IsSeparated (es ++ (hs ++ ns)) (fs ++ (ts ++ ss)) → IsSeparated (es ++ (hs' ++ ns)) (fs ++ (ts' ++ ss))
stretch_changed es fs ns ss hs ts hs' ts' le ln lh lh' others heads apart =
    let E : ℕ → ℕ = λ g. span_within g es fs + span_within g ns ss in
    let H : ℕ → ℕ = λ g. span_within g hs ts in
    let H' : ℕ → ℕ = λ g. span_within g hs' ts' in
    let W : ℕ → ℕ = λ g. E g + H g in
    let V : ℕ → ℕ = λ g. E g + H' g in
    let old : (g : ℕ) → span_within g (es ++ (hs ++ ns)) (fs ++ (ts ++ ss)) ≡ W g =
    λ g. let a = span_within-append g es fs (hs ++ ns) (ts ++ ss) le in let b = span_within-append g hs ts ns ss lh in omega arith in
    let new : (g : ℕ) → span_within g (es ++ (hs' ++ ns)) (fs ++ (ts' ++ ss)) ≡ V g =
    λ g. let a = span_within-append g es fs (hs' ++ ns) (ts' ++ ss) le in let b = span_within-append g hs' ts' ns ss lh' in omega arith in
    let each = EachApart-from_separated (es ++ (hs ++ ns)) (fs ++ (ts ++ ss)) apart in
    let each_W = EachApart-weaker (λ g. span_within g (es ++ (hs ++ ns)) (fs ++ (ts ++ ss))) (λ g. span_within g (es ++ (hs ++ ns)) (fs ++ (ts ++ ss))) W (es ++ (hs ++ ns)) (fs ++ (ts ++ ss)) (λ g. omega arith) (λ n x _ _ p. rw (old x) at p) each in
    let w = EachApart-parts W es fs (hs ++ ns) (ts ++ ss) le each_W in
    let v = EachApart-parts W hs ts ns ss lh w.1 in
    let before = EachApart-weaker E W V es fs (λ g. omega arith) (λ n x long r p. others n x long r p v.0) w.0 in
    let after = EachApart-weaker E W V ns ss (λ g. omega arith) (λ n x long r p. others n x long r p v.0) v.1 in
    let all = EachApart-append V es fs (hs' ++ ns) (ts' ++ ss) le before (EachApart-append V hs' ts' ns ss lh' (heads w.0 v.1 v.0) after) in
    let l : length (fs ++ (ts' ++ ss)) ≡ length (es ++ (hs' ++ ns)) = simp (length-append) (omega arith) in
    separated_from_each (es ++ (hs' ++ ns)) (fs ++ (ts' ++ ss)) l
    (EachApart-weaker V V (λ g. span_within g (es ++ (hs' ++ ns)) (fs ++ (ts' ++ ss))) (es ++ (hs' ++ ns)) (fs ++ (ts' ++ ss)) (λ g. let e = new g in omega arith) (λ n x _ _ p. rw (new x) p) all)

-- ---- numbers
-- two axes that go on from one another reach as far as the one of both lengths
pub joined_reach : (n m a : ℕ) → 0 < n → 0 < m → (n - 1) * a + (m - 1) * (n * a) ≡ (n * m - 1) * a
joined_reach zero m a p q = absurd (omega arith)
joined_reach (suc n) zero a p q = absurd (omega arith)
joined_reach (suc n) (suc m) a p q =
    let e : suc n - 1 ≡ n = omega arith in
    let f : suc m - 1 ≡ m = omega arith in
    let g : suc n * suc m - 1 ≡ n + m * suc n = omega arith in
    rw (e, f, g) (omega arith)

-- a reach of at least a second step is at least a step
pub le_reach : (n x : ℕ) → 1 < n → x ≤ (n - 1) * x
le_reach n x long = let a = mul-le-mul_right {m = 1} {n = n - 1} x (omega arith) in omega arith

-- an axis longer than 1 that passes its own reach and E's has a step above E
pub above_count : (E n a : ℕ) → 1 < n → E + (n - 1) * a < n * a → E < a
above_count E n a long h = let p = mul-pred n a (omega arith) in omega arith

-- a counted axis at its own magnitude
pub counted_self : (n a : ℕ) → counted a n a ≡ (n - 1) * a
counted_self n a = ⊎_elim (λ in_a. in_a.1) (λ out. absurd (omega arith)) (counted_cases a a ((n - 1) * a))

-- an axis of length 1 at most isn't counted
pub counted_short : (g n a : ℕ) → n ≤ 1 → counted g n a ≡ 0
counted_short g n a short =
    let z : n - 1 ≡ 0 = omega arith in
    let r : (n - 1) * a ≡ 0 = ap (λ k. k * a) z ∙ omega arith in
    ⊎_elim (λ in_g. omega (arith, in_g.1)) (λ out. out.1) (counted_cases a g ((n - 1) * a))

-- an axis (m, x) other than the two that become one
pub glue_others : (E : ℕ → ℕ) (n n' a : ℕ) → 1 < n → 1 < n' → E (n * a) + (counted (n * a) n a + counted (n * a) n' (n * a)) < n' * (n * a) → (m x : ℕ) → 1 < m → Reaches E m x → E x + (counted x n a + counted x n' (n * a)) < m * x → E x + counted x (n * n') a < m * x
glue_others E n n' a long long' passes m x wide reaches h =
    let b = n * a in
    let once = mul-le-mul_right {m = 1} {n = n} a (omega arith) in
    let sum = joined_reach n n' a (omega arith) (omega arith) in
    ⊎_elim
    (λ in_a. ⊎_elim
    (λ in_b. ⊎_elim (λ (all : (a ≤ x) × (counted x (n * n') a ≡ (n * n' - 1) * a)). omega (arith, in_a.1, in_b.1)) (λ out. absurd (omega arith)) (counted_cases a x ((n * n' - 1) * a)))
    (λ out_b.
    let own = counted_self n' b in
    let first : counted b n a ≡ (n - 1) * a = ⊎_elim (λ w. w.1) (λ out. absurd (omega arith)) (counted_cases a b ((n - 1) * a)) in
    let p = mul-pred n' b (omega arith) in
    let q = mul-pred n a (omega arith) in
    let r = reaches b (omega arith) in
    let t = le_reach m x wide in
    absurd (omega arith))
    (counted_cases b x ((n' - 1) * b)))
    (λ out_a. ⊎_elim
    (λ in_b. absurd (omega arith))
    (λ out_b. ⊎_elim (λ all. absurd (omega arith)) (λ out. omega (arith, out_a.1, out_b.1, out.1)) (counted_cases a x ((n * n' - 1) * a)))
    (counted_cases b x ((n' - 1) * b)))
    (counted_cases a x ((n - 1) * a))

-- the one axis itself
pub glue_self : (E : ℕ → ℕ) (n n' a rest : ℕ) → 1 < n → 1 < n' → E a + (counted a n a + rest) < n * a → E a + counted a (n * n') a < n * n' * a
glue_self E n n' a rest long long' h =
    let own = counted_self n a in
    let all = counted_self (n * n') a in
    let p = mul-pred n a (omega arith) in
    let wide = mul-le-mul_left {m = 1} {n = n'} n (omega arith) in
    let q = mul-pred (n * n') a (omega arith) in
    omega arith

-- an axis (k, x) other than the one that is split: b is the second part's step
pub split_others : (E : ℕ → ℕ) (m q a b : ℕ) → 1 < m → 0 < q → (1 < q → b ≡ m * a) → (k x : ℕ) → E x + counted x (m * q) a < k * x → E x + (counted x m a + counted x q b) < k * x
split_others E m q a b long some is_b k x h =
    ⊎_elim
    (λ (wide : 1 < q).
    let e = is_b wide in
    let sum = joined_reach m q a (omega arith) some in
    let sum' : (m - 1) * a + (q - 1) * b ≡ (m * q - 1) * a = ap (λ v. (m - 1) * a + (q - 1) * v) e ∙ sum in
    let once = mul-le-mul_right {m = 1} {n = m} a (omega arith) in
    ⊎_elim
    (λ all. ⊎_elim
    (λ in_a. ⊎_elim (λ in_b. omega (arith, all.1, in_a.1, in_b.1)) (λ out_b. omega (arith, all.1, in_a.1, out_b.1)) (counted_cases b x ((q - 1) * b)))
    (λ out_a. absurd (omega arith))
    (counted_cases a x ((m - 1) * a)))
    (λ none. ⊎_elim
    (λ in_a. absurd (omega arith))
    (λ out_a. ⊎_elim (λ in_b. absurd (omega arith)) (λ out_b. omega (arith, none.1, out_a.1, out_b.1)) (counted_cases b x ((q - 1) * b)))
    (counted_cases a x ((m - 1) * a)))
    (counted_cases a x ((m * q - 1) * a)))
    (λ (narrow : q ≤ 1).
    let q_is : q ≡ 1 = omega arith in
    let none = counted_short x q b narrow in
    let same : counted x (m * q) a ≡ counted x m a = ap (λ v. counted x v a) (ap (λ v. m * v) q_is ∙ omega arith) in
    omega arith)
    (cases_lt 1 q)

-- its first part
pub split_first : (E : ℕ → ℕ) (m q a b : ℕ) → 1 < m → 0 < q → (1 < q → b ≡ m * a) → E a + counted a (m * q) a < m * q * a → E a + (counted a m a + counted a q b) < m * a
split_first E m q a b long some is_b h =
    let wide = mul-le-mul_left {m = 1} {n = q} m (omega arith) in
    let all = counted_self (m * q) a in
    let own = counted_self m a in
    let above = above_count (E a) (m * q) a (omega arith) (omega arith) in
    let p = mul-pred m a (omega arith) in
    ⊎_elim
    (λ (more : 1 < q).
    let e = is_b more in
    let twice = mul-le-mul_right {m = 2} {n = m} a (omega arith) in
    ⊎_elim (λ in_b. absurd (omega arith)) (λ out_b. omega (arith, out_b.1)) (counted_cases b a ((q - 1) * b)))
    (λ (none : q ≤ 1). omega (arith, counted_short a q b none))
    (cases_lt 1 q)

-- no other axis has a magnitude above the first part's and up to the second's
pub split_gap : (E : ℕ → ℕ) (m q a : ℕ) → 1 < m → 1 < q → (k x : ℕ) → 1 < k → Reaches E k x → E x + counted x (m * q) a < k * x → a < x → x ≤ m * a → ⊥
split_gap E m q a long wide k x long' reaches h above upto =
    let r = reaches x (omega arith) in
    let p = mul-pred k x (omega arith) in
    let all : counted x (m * q) a ≡ (m * q - 1) * a = ⊎_elim (λ in_x. in_x.1) (λ out. absurd (omega arith)) (counted_cases a x ((m * q - 1) * a)) in
    let twice = mul-le-mul_left {m = 2} {n = q} m (omega arith) in
    let more = mul-le-mul_right {m = m} {n = m * q - 1} a (omega arith) in
    omega arith

-- its second part, where E counts no more at its magnitude than at the first part's
pub split_second : (E : ℕ → ℕ) (m q a : ℕ) → 1 < m → 1 < q → E (m * a) ≤ E a → E a + counted a (m * q) a < m * q * a → E (m * a) + (counted (m * a) m a + counted (m * a) q (m * a)) < q * (m * a)
split_second E m q a long wide gap h =
    let bigger = mul-le-mul_left {m = 1} {n = q} m (omega arith) in
    let all = counted_self (m * q) a in
    let above = above_count (E a) (m * q) a (omega arith) (omega arith) in
    let own = counted_self q (m * a) in
    let once = mul-le-mul_right {m = 1} {n = m} a (omega arith) in
    let first : counted (m * a) m a ≡ (m - 1) * a = ⊎_elim (λ w. w.1) (λ out. absurd (omega arith)) (counted_cases a (m * a) ((m - 1) * a)) in
    let p = mul-pred m a (omega arith) in
    let r = mul-pred q (m * a) (omega arith) in
    omega arith
