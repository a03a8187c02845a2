-- Separation axis by axis, under a count of how far all axes of at most a magnitude reach.
use Rattle.nd_layout.proofs.NamesFromOtherCrates.{ℕ, ⊎_elim, zero, suc, ◌+◌, ◌-◌, ◌*◌, ◌<◌, ◌≤◌, ◌≡◌, List, [], ◌∷◌, ◌++◌, length, get_or, leb, cond, arith, ap, ◌∙◌, ℤ, nat_abs, cases_lt, span_of, span_within, magnitude_at, IsSeparated}
use Rattle.nd_layout.proofs.AxisChange.{counted_cases}

-- an axis's reach, counted where its magnitude is g at most
abbrev pub counted : ℕ → ℕ → ℕ → ℕ
counted g n x = cond (leb x g) ((n - 1) * x) 0

-- each axis longer than 1 passes what W counts at its magnitude
abbrev pub EachApart : (ℕ → ℕ) → List ℕ → List ℤ → Type 0
EachApart W [] ss = Unit {0}
EachApart W (n ∷ ns) [] = Unit {0}
EachApart W (n ∷ ns) (s ∷ ss) = (1 < n → W (nat_abs s) < n * nat_abs s) × EachApart W ns ss

-- from the same by the number of the axis
pub EachApart-from : (W : ℕ → ℕ) (ns : List ℕ) (ss : List ℤ) → ((k : ℕ) → 1 < get_or ns k 0 → W (magnitude_at ss k) < get_or ns k 0 * magnitude_at ss k) → EachApart W ns ss
EachApart-from W [] ss h = tt
EachApart-from W (n ∷ ns) [] h = tt
EachApart-from W (n ∷ ns) (s ∷ ss) h = (h 0, EachApart-from W ns ss (λ k. h (suc k)))

-- and back
pub EachApart-at : (W : ℕ → ℕ) (ns : List ℕ) (ss : List ℤ) → length ss ≡ length ns → EachApart W ns ss → (k : ℕ) → 1 < get_or ns k 0 → W (magnitude_at ss k) < get_or ns k 0 * magnitude_at ss k
EachApart-at W [] ss e h k long = absurd (omega arith)
EachApart-at W (n ∷ ns) [] e h k long = absurd (omega arith)
EachApart-at W (n ∷ ns) (s ∷ ss) e h zero long = h.0 long
EachApart-at W (n ∷ ns) (s ∷ ss) e h (suc k) long = EachApart-at W ns ss (omega arith) h.1 k long

-- lists one after the other
pub EachApart-append : (W : ℕ → ℕ) (cs : List ℕ) (ds : List ℤ) (ns : List ℕ) (ss : List ℤ) → length ds ≡ length cs → EachApart W cs ds → EachApart W ns ss → EachApart W (cs ++ ns) (ds ++ ss)
EachApart-append W [] [] ns ss e h q = q
EachApart-append W [] (d ∷ ds) ns ss e h q = absurd (omega arith)
EachApart-append W (c ∷ cs) [] ns ss e h q = absurd (omega arith)
EachApart-append W (c ∷ cs) (d ∷ ds) ns ss e h q = (h.0, EachApart-append W cs ds ns ss (omega arith) h.1 q)

-- the parts of such a list
pub EachApart-parts : (W : ℕ → ℕ) (cs : List ℕ) (ds : List ℤ) (ns : List ℕ) (ss : List ℤ) → length ds ≡ length cs → EachApart W (cs ++ ns) (ds ++ ss) → EachApart W cs ds × EachApart W ns ss
EachApart-parts W [] [] ns ss e h = (tt, h)
EachApart-parts W [] (d ∷ ds) ns ss e h = absurd (omega arith)
EachApart-parts W (c ∷ cs) [] ns ss e h = absurd (omega arith)
EachApart-parts W (c ∷ cs) (d ∷ ds) ns ss e h = let w = EachApart-parts W cs ds ns ss (omega arith) h.1 in ((h.0, w.0), w.1)

-- the counted span of lists one after the other
pub span_within-append : (g : ℕ) (cs : List ℕ) (ds : List ℤ) (ns : List ℕ) (ss : List ℤ) → length ds ≡ length cs → span_within g (cs ++ ns) (ds ++ ss) ≡ span_within g cs ds + span_within g ns ss
span_within-append g [] [] ns ss e = omega arith
span_within-append g [] (d ∷ ds) ns ss e = absurd (omega arith)
span_within-append g (c ∷ cs) [] ns ss e = absurd (omega arith)
span_within-append g (c ∷ cs) (d ∷ ds) ns ss e = omega (arith, span_within-append g cs ds ns ss (omega arith))

-- their span
pub span_of-append : (cs : List ℕ) (ds : List ℤ) (ns : List ℕ) (ss : List ℤ) → length ds ≡ length cs → span_of (cs ++ ns) (ds ++ ss) ≡ span_of cs ds + span_of ns ss
span_of-append [] [] ns ss e = omega arith
span_of-append [] (d ∷ ds) ns ss e = absurd (omega arith)
span_of-append (c ∷ cs) [] ns ss e = absurd (omega arith)
span_of-append (c ∷ cs) (d ∷ ds) ns ss e = omega (arith, span_of-append cs ds ns ss (omega arith))

-- an axis of a list whose count is at most B: what it reaches is counted from its magnitude on
abbrev pub Reaches : (ℕ → ℕ) → ℕ → ℕ → Type 0
Reaches B n x = (g : ℕ) → x ≤ g → (n - 1) * x ≤ B g

head_reaches : (B : ℕ → ℕ) (n : ℕ) (ns : List ℕ) (s : ℤ) (ss : List ℤ) → ((g : ℕ) → span_within g (n ∷ ns) (s ∷ ss) ≤ B g) → Reaches B n (nat_abs s)
head_reaches B n ns s ss all g h =
    ⊎_elim
    (λ in_g. omega (arith, in_g.1, all g))
    (λ out. absurd (omega arith))
    (counted_cases (nat_abs s) g ((n - 1) * nat_abs s))

-- another count that each axis passes where it passed the first
pub EachApart-weaker : (B W V : ℕ → ℕ) (ns : List ℕ) (ss : List ℤ) → ((g : ℕ) → span_within g ns ss ≤ B g) → ((n x : ℕ) → 1 < n → Reaches B n x → W x < n * x → V x < n * x) → EachApart W ns ss → EachApart V ns ss
EachApart-weaker B W V [] ss all step h = tt
EachApart-weaker B W V (n ∷ ns) [] all step h = tt
EachApart-weaker B W V (n ∷ ns) (s ∷ ss) all step h = (
  λ long. step n (nat_abs s) long (head_reaches B n ns s ss all) (h.0 long),
  EachApart-weaker B W V ns ss (λ g. omega (arith, all g)) step h.1,
)

-- no axis longer than 1 of a magnitude above low and up to high
pub EachApart-gap : (B W : ℕ → ℕ) (low high : ℕ) (ns : List ℕ) (ss : List ℤ) → ((g : ℕ) → span_within g ns ss ≤ B g) → ((n x : ℕ) → 1 < n → Reaches B n x → W x < n * x → low < x → x ≤ high → ⊥) → EachApart W ns ss → span_within high ns ss ≤ span_within low ns ss
EachApart-gap B W low high [] ss all none h = omega arith
EachApart-gap B W low high (n ∷ ns) [] all none h = omega arith
EachApart-gap B W low high (n ∷ ns) (s ∷ ss) all none h =
    let rest = EachApart-gap B W low high ns ss (λ g. omega (arith, all g)) none h.1 in
    let r = (n - 1) * nat_abs s in
    ⊎_elim
    (λ in_high. ⊎_elim
    (λ in_low. omega (arith, in_high.1, in_low.1))
    (λ out_low. ⊎_elim
    (λ (long : 1 < n). absurd (none n (nat_abs s) long (head_reaches B n ns s ss all) (h.0 long) out_low.0 in_high.0))
    (λ (short : n ≤ 1). let z : n - 1 ≡ 0 = omega arith in let zr : r ≡ 0 = ap (λ k. k * nat_abs s) z ∙ omega arith in omega (arith, in_high.1))
    (cases_lt 1 n))
    (counted_cases (nat_abs s) low r))
    (λ out_high. omega (arith, out_high.1))
    (counted_cases (nat_abs s) high r)

-- separation, so seen
pub EachApart-from_separated : (ns : List ℕ) (ss : List ℤ) → IsSeparated ns ss → EachApart (λ g. span_within g ns ss) ns ss
EachApart-from_separated ns ss apart = EachApart-from (λ g. span_within g ns ss) ns ss apart

-- and back
pub separated_from_each : (ns : List ℕ) (ss : List ℤ) → length ss ≡ length ns → EachApart (λ g. span_within g ns ss) ns ss → IsSeparated ns ss
separated_from_each ns ss e h = EachApart-at (λ g. span_within g ns ss) ns ss e h
