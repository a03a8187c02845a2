-- The steps by which axes are regrouped.
use Rattle.nd_layout.proofs.NamesFromOtherCrates.{ℕ, ⊎_elim, zero, suc, ◌+◌, ◌-◌, ◌*◌, ◌/◌, ◌%◌, ◌<◌, ◌≤◌, ◌≡◌, List, [], ◌∷◌, ◌++◌, length, leb, arith, refl, ap, sym, ◌∙◌, append_assoc, ℤ, pos, ◌+ℤ◌, ◌*ℤ◌, nat_abs, +ℤ_idl, mul_assoc, mul-le-mul_left, div-one, div-div-eq-div-mul, cases_lt, length-append, size_of, span_of, span_within, IsSeparated}
use lib.IntN.{+ℤ_assoc}
use Rattle.nd_layout.specs.RanksAndReshapeStrides.{at_rank, Regroups}
use Rattle.nd_layout.proofs.Integers.{abs-mul}
use Rattle.nd_layout.proofs.AxisChange.{counted_none}
use Rattle.nd_layout.proofs.NthElementInColumnMajor.{at_rank-one, glued}
use Rattle.nd_layout.proofs.SeparationByAxes.{counted, EachApart-gap, span_of-append}
use Rattle.nd_layout.proofs.reshape_lemmas.SeparationOfJoinedAxes.{stretch_changed, joined_reach, glue_others, glue_self, split_others, split_first, split_gap, split_second}

-- one step after another
pub Regroups-trans : (ns : List ℕ) (ss : List ℤ) (ms : List ℕ) (ts : List ℤ) (ls : List ℕ) (us : List ℤ) → Regroups ns ss ms ts → Regroups ms ts ls us → Regroups ns ss ls us
Regroups-trans ns ss ms ts ls us a b = record {
  as_many = b.as_many;
  same = λ r. b.same r ∙ a.same r;
  size = b.size ∙ a.size;
  span = b.span ∙ a.span;
  apart = λ es fs l h. b.apart es fs l (a.apart es fs l h);
}

-- ---- an axis of length 1
pub Regroups-one_out : (ns : List ℕ) (ss : List ℤ) (x : ℤ) → length ss ≡ length ns → Regroups (1 ∷ ns) (x ∷ ss) ns ss
Regroups-one_out ns ss x e = record {
  as_many = e;
  same = λ r. sym (at_rank-one ns x ss r);
  size = omega arith;
  span = omega arith;
  apart = λ es fs l h.
      stretch_changed es fs ns ss (1 ∷ []) (x ∷ []) [] [] l e refl refl
      (λ n y long reaches p _. let none = counted_none (leb (nat_abs x) y) (nat_abs x) in omega arith)
      (λ _ _ _. tt) h;
}

-- the same, put in
pub Regroups-one_in : (ns : List ℕ) (ss : List ℤ) (x : ℤ) → length ss ≡ length ns → Regroups ns ss (1 ∷ ns) (x ∷ ss)
Regroups-one_in ns ss x e = record {
  as_many = omega arith;
  same = λ r. at_rank-one ns x ss r;
  size = omega arith;
  span = omega arith;
  apart = λ es fs l h.
      stretch_changed es fs ns ss [] [] (1 ∷ []) (x ∷ []) l e refl refl
      (λ n y long reaches p _. let none = counted_none (leb (nat_abs x) y) (nat_abs x) in omega arith)
      (λ _ _ _. (λ long. absurd (omega arith), tt)) h;
}

-- ---- an axis that goes on where the one before it ends
pub Regroups-glued : (n m : ℕ) (s : ℤ) (ns : List ℕ) (ss : List ℤ) → length ss ≡ length ns → 1 < n → 1 < m → Regroups (n ∷ m ∷ ns) (s ∷ (pos n *ℤ s) ∷ ss) (n * m ∷ ns) (s ∷ ss)
Regroups-glued n m s ns ss e long long' = record {
  as_many = omega arith;
  same = λ r. sym (glued n m s ns ss r (omega arith) (omega arith));
  size = mul_assoc n m (size_of ns);
  span = let a = abs-mul n s in let j = joined_reach n m (nat_abs s) (omega arith) (omega arith) in rw a (omega arith);
  apart = λ es fs l h.
      let a = abs-mul n s in
      let E : ℕ → ℕ = λ g. span_within g es fs + span_within g ns ss in
      stretch_changed es fs ns ss (n ∷ m ∷ []) (s ∷ (pos n *ℤ s) ∷ []) (n * m ∷ []) (s ∷ []) l e refl refl
      (λ k x wide reaches p each.
      let each' = rw a at each in
      let p' = rw a at p in
      let before = each'.1.0 long' in
      let r = glue_others E n m (nat_abs s) long long' (omega arith) k x wide reaches (omega arith) in
      omega arith)
      (λ _ _ each. (
        λ all.
            let before = each.0 long in
            let r = glue_self E n m (nat_abs s) (counted (nat_abs s) m (nat_abs (pos n *ℤ s))) long long' (omega arith) in
            omega arith,
        tt,
      ))
      h;
}

-- ---- an axis split into its first m and what is left
split_same : (m q : ℕ) (s v : ℤ) (ns : List ℕ) (ss : List ℤ) (r : ℕ) → 1 < m → 0 < q → (1 < q → v ≡ pos m *ℤ s) → at_rank (m ∷ q ∷ ns) (s ∷ v ∷ ss) r ≡ at_rank (m * q ∷ ns) (s ∷ ss) r
split_same m q s v ns ss r long some is_v =
    ⊎_elim
    (λ (wide : 1 < q). rw (is_v wide) (glued m q s ns ss r (omega arith) some))
    (λ (narrow : q ≤ 1).
    let one : q ≡ 1 = omega arith in
    let all : m * q ≡ m = ap (λ k. m * k) one ∙ omega arith in
    rw (all, one) (ap (λ z. (pos (r % m) *ℤ s) +ℤ z) (at_rank-one ns v ss (r / m))))
    (cases_lt 1 q)

split_span : (m q a b : ℕ) → 1 < m → 0 < q → (1 < q → b ≡ m * a) → (m - 1) * a + (q - 1) * b ≡ (m * q - 1) * a
split_span m q a b long some is_b =
    ⊎_elim
    (λ (wide : 1 < q). rw (is_b wide) (joined_reach m q a (omega arith) some))
    (λ (narrow : q ≤ 1).
    let one : q ≡ 1 = omega arith in
    let all : m * q ≡ m = ap (λ k. m * k) one ∙ omega arith in
    rw (all, one) (omega arith))
    (cases_lt 1 q)

split_apart : (m q : ℕ) (s v : ℤ) (ns : List ℕ) (ss : List ℤ) → length ss ≡ length ns → 1 < m → 0 < q → (1 < q → nat_abs v ≡ m * nat_abs s) → (es : List ℕ) (fs : List ℤ) → length fs ≡ length es → IsSeparated (es ++ (m * q ∷ ns)) (fs ++ (s ∷ ss)) → IsSeparated (es ++ (m ∷ q ∷ ns)) (fs ++ (s ∷ v ∷ ss))
split_apart m q s v ns ss e long some is_b es fs l h =
    let a = nat_abs s in
    let b = nat_abs v in
    let E : ℕ → ℕ = λ g. span_within g es fs + span_within g ns ss in
    let W : ℕ → ℕ = λ g. E g + span_within g (m * q ∷ []) (s ∷ []) in
    let wide_all = mul-le-mul_left {m = 1} {n = q} m (omega arith) in
    stretch_changed es fs ns ss (m * q ∷ []) (s ∷ []) (m ∷ q ∷ []) (s ∷ v ∷ []) l e refl refl
    (λ k x wide reaches p each.
    let r = split_others E m q a b long some is_b k x (omega arith) in omega arith)
    (λ before after each.
    let own = each.0 (omega arith) in (
      λ _. let r = split_first E m q a b long some is_b (omega arith) in omega arith,
      (
        λ more.
            let none : (k x : ℕ) → 1 < k → ((g : ℕ) → x ≤ g → (k - 1) * x ≤ E g) → W x < k * x → a < x → x ≤ m * a → ⊥ =
            λ k x wide reaches p. split_gap E m q a long more k x wide reaches (omega arith) in
            let gap_es = EachApart-gap E W a (m * a) es fs (λ g. omega arith) none before in
            let gap_ns = EachApart-gap E W a (m * a) ns ss (λ g. omega arith) none after in
            let r = split_second E m q a long more (omega arith) (omega arith) in
            rw (is_b more) (omega arith),
        tt,
      ),
    ))
    h

-- the axis is split
pub Regroups-split : (m q : ℕ) (s v : ℤ) (ns : List ℕ) (ss : List ℤ) → length ss ≡ length ns → 1 < m → 0 < q → (1 < q → v ≡ pos m *ℤ s) → Regroups (m * q ∷ ns) (s ∷ ss) (m ∷ q ∷ ns) (s ∷ v ∷ ss)
Regroups-split m q s v ns ss e long some is_v =
    let is_b : 1 < q → nat_abs v ≡ m * nat_abs s = λ wide. ap nat_abs (is_v wide) ∙ abs-mul m s in
    record {
      as_many = omega arith;
      same = λ r. split_same m q s v ns ss r long some is_v;
      size = sym (mul_assoc m q (size_of ns));
      span = omega (arith, split_span m q (nat_abs s) (nat_abs v) long some is_b);
      apart = split_apart m q s v ns ss e long some is_b;
    }

-- ---- after axes that stay
pub size_of-append : (cs ns : List ℕ) → size_of (cs ++ ns) ≡ size_of cs * size_of ns
size_of-append [] ns = omega arith
size_of-append (c ∷ cs) ns = ap (λ v. c * v) (size_of-append cs ns) ∙ sym (mul_assoc c (size_of cs) (size_of ns))

-- the displacement of a rank over lists one after the other
pub at_rank-append : (cs : List ℕ) (ds : List ℤ) (ns : List ℕ) (ss : List ℤ) (r : ℕ) → length ds ≡ length cs → at_rank (cs ++ ns) (ds ++ ss) r ≡ at_rank cs ds r +ℤ at_rank ns ss (r / size_of cs)
at_rank-append [] [] ns ss r e = rw (div-one r) (sym (+ℤ_idl (at_rank ns ss r)))
at_rank-append [] (d ∷ ds) ns ss r e = absurd (omega arith)
at_rank-append (c ∷ cs) [] ns ss r e = absurd (omega arith)
at_rank-append (c ∷ cs) (d ∷ ds) ns ss r e =
    ap (λ v. (pos (r % c) *ℤ d) +ℤ v) (at_rank-append cs ds ns ss (r / c) (omega arith) ∙ ap (λ q. at_rank cs ds (r / c) +ℤ at_rank ns ss q) (div-div-eq-div-mul r c (size_of cs)))
    ∙ sym (+ℤ_assoc (pos (r % c) *ℤ d) (at_rank cs ds (r / c)) (at_rank ns ss (r / (c * size_of cs))))

-- a step after axes that stay
pub Regroups-prefix : (cs : List ℕ) (ds : List ℤ) (ns : List ℕ) (ss : List ℤ) (ms : List ℕ) (ts : List ℤ) → length ds ≡ length cs → Regroups ns ss ms ts → Regroups (cs ++ ns) (ds ++ ss) (cs ++ ms) (ds ++ ts)
Regroups-prefix cs ds ns ss ms ts e g = record {
  as_many = let m = g.as_many in simp length-append (omega arith);
  same = λ r. at_rank-append cs ds ms ts r e ∙ ap (λ v. at_rank cs ds r +ℤ v) (g.same (r / size_of cs)) ∙ sym (at_rank-append cs ds ns ss r e);
  size = size_of-append cs ms ∙ ap (λ v. size_of cs * v) g.size ∙ sym (size_of-append cs ns);
  span = span_of-append cs ds ms ts e ∙ ap (λ v. span_of cs ds + v) g.span ∙ sym (span_of-append cs ds ns ss e);
  apart = λ es fs l h.
      rw (← append_assoc es cs ms, ← append_assoc fs ds ts)
      (g.apart (es ++ cs) (fs ++ ds) (simp length-append (omega arith))
      (rw (append_assoc es cs ns, append_assoc fs ds ss) h));
}

-- an axis of length 1 after another
pub Regroups-one_second : (n : ℕ) (s x : ℤ) (ns : List ℕ) (ss : List ℤ) → length ss ≡ length ns → Regroups (n ∷ 1 ∷ ns) (s ∷ x ∷ ss) (n ∷ ns) (s ∷ ss)
Regroups-one_second n s x ns ss e = Regroups-prefix (n ∷ []) (s ∷ []) (1 ∷ ns) (x ∷ ss) ns ss refl (Regroups-one_out ns ss x e)

-- the factors of a positive product
pub both_positive : (x y : ℕ) → 0 < x * y → (0 < x) × (0 < y)
both_positive zero y h = absurd (omega arith)
both_positive (suc x) zero h = absurd (omega arith)
both_positive (suc x) (suc y) h = (omega arith, omega arith)
