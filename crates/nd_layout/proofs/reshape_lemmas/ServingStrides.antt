-- Which strides serve: along regrouped axes, one new length at a time.
use Rattle.nd_layout.proofs.NamesFromOtherCrates.{ℕ, ⊎_elim, ◌*◌, ◌/◌, ◌%◌, ◌<◌, ◌≤◌, ◌≡◌, List, [], ◌∷◌, ◌++◌, length, arith, refl, ap, sym, ◌∙◌, ℤ, pos, ◌+ℤ◌, ◌*ℤ◌, mul_assoc, mod-add-div, mul-mod_right, mul-le-mul_left, div-eq_of_lt, mul-lt-mul_of_pos_left, cases_lt, size_of}
use lib.IntN.{+ℤ_idr}
use Rattle.nd_layout.specs.RanksAndReshapeStrides.{at_rank, ServesRanks, Regroups}
use Rattle.nd_layout.proofs.Integers.{one-mul, add-mul}
use Rattle.nd_layout.proofs.NthElementInColumnMajor.{at_rank-zero, at_rank-multiple, at_rank-below}
use Rattle.nd_layout.proofs.reshape_lemmas.RegroupedAxes.{at_rank-append, size_of-append, both_positive}

-- the axes that serve after the first axes do serve the rest
pub at_rank-rest : (cs : List ℕ) (ds : List ℤ) (ns : List ℕ) (ss : List ℤ) (r : ℕ) → length ds ≡ length cs → 0 < size_of cs → at_rank (cs ++ ns) (ds ++ ss) (size_of cs * r) ≡ at_rank ns ss r
at_rank-rest [] [] ns ss r e some = let o : 1 * r ≡ r = omega arith in rw o refl
at_rank-rest [] (d ∷ ds) ns ss r e some = absurd (omega arith)
at_rank-rest (c ∷ cs) [] ns ss r e some = absurd (omega arith)
at_rank-rest (c ∷ cs) (d ∷ ds) ns ss r e some =
    let w = both_positive c (size_of cs) some in
    ap (λ k. at_rank (c ∷ (cs ++ ns)) (d ∷ (ds ++ ss)) k) (mul_assoc c (size_of cs) r)
    ∙ at_rank-multiple c d (cs ++ ns) (ds ++ ss) (size_of cs * r) w.0
    ∙ at_rank-rest cs ds ns ss r (omega arith) w.1

-- no strides serve a length that doesn't divide a closed group: one that no further axis goes on from
pub none_serves : (len : ℕ) (step : ℤ) (ns : List ℕ) (ss : List ℤ) (m : ℕ) (ms : List ℕ) (ts : List ℤ) → 1 < m → 0 < len % m → 0 < size_of ms → m * size_of ms ≡ len * size_of ns → (1 < size_of ns → 1 < len) → (1 < size_of ns → at_rank ns ss 1 ≡ pos len *ℤ step → ⊥) → ServesRanks (len ∷ ns) (step ∷ ss) (m ∷ ms) ts → ⊥
none_serves len step ns ss m ms [] long odd some sizes wide closed serves = absurd (omega (arith, serves.as_many))
none_serves len step ns ss m ms (t ∷ ts) long odd some sizes wide closed serves =
    ⊎_elim
    (λ (more : 1 < size_of ns).
    let len_wide = wide more in
    let q = len / m in
    let parts = mod-add-div len m in
    let more_m = mul-le-mul_left {m = 1} {n = size_of ms} m (omega arith) in
    let more_len = mul-le-mul_left {m = 2} {n = size_of ns} len (omega arith) in
    let whole : len * 1 ≡ len = omega arith in
    let at_one = serves.same 1 (omega arith) in
    let new_one = at_rank-below m t ms ts 1 long ∙ one-mul t in
    let old_one = at_rank-below len step ns ss 1 len_wide ∙ one-mul step in
    let t_is : t ≡ step = sym new_one ∙ at_one ∙ old_one in
    let at_multiple = serves.same (m * q) (omega arith) in
    let new_multiple = at_rank-multiple m t ms ts q (omega arith) in
    let old_multiple = at_rank-below len step ns ss (m * q) (omega arith) in
    let rest_is : at_rank ms ts q ≡ pos (m * q) *ℤ step = sym new_multiple ∙ at_multiple ∙ old_multiple in
    let at_len = serves.same len (omega arith) in
    let old_len = ap (λ k. at_rank (len ∷ ns) (step ∷ ss) k) (sym whole) ∙ at_rank-multiple len step ns ss 1 (omega arith) in
    let new_len : at_rank (m ∷ ms) (t ∷ ts) len ≡ pos len *ℤ step =
    ap (λ z. (pos (len % m) *ℤ z) +ℤ at_rank ms ts q) t_is
    ∙ ap (λ z. (pos (len % m) *ℤ step) +ℤ z) rest_is
    ∙ sym (add-mul (len % m) (m * q) step)
    ∙ ap (λ k. pos k *ℤ step) parts in
    closed more (sym old_len ∙ sym at_len ∙ new_len))
    (λ (none : size_of ns ≤ 1).
    ⊎_elim
    (λ (one : 0 < size_of ns).
    let o : size_of ns ≡ 1 = omega arith in
    let e : len ≡ m * size_of ms = sym (sizes ∙ ap (λ k. len * k) o ∙ omega arith) in
    let z = ap (λ k. k % m) e ∙ mul-mod_right m (size_of ms) in
    absurd (omega arith))
    (λ (no : size_of ns ≤ 0).
    let o : size_of ns ≡ 0 = omega arith in
    let z : m * size_of ms ≡ 0 = sizes ∙ ap (λ k. len * k) o ∙ omega arith in
    let more_m = mul-le-mul_left {m = 1} {n = size_of ms} m (omega arith) in
    absurd (omega arith))
    (cases_lt 0 (size_of ns)))
    (cases_lt 1 (size_of ns))

-- where the first lengths cs have strides ds, and the rest of the old axes is ns, ss: what serves the whole
-- serves the rest
pub serves_rest : (os : List ℕ) (ps : List ℤ) (cs : List ℕ) (ds : List ℤ) (ns : List ℕ) (ss : List ℤ) (ms : List ℕ) (us vs : List ℤ) → length ds ≡ length cs → length us ≡ length cs → 0 < size_of cs → Regroups os ps (cs ++ ns) (ds ++ ss) → ServesRanks os ps (cs ++ ms) (us ++ vs) → length vs ≡ length ms → ServesRanks ns ss ms vs
serves_rest os ps cs ds ns ss ms us vs e f some g serves l = record {
  as_many = l;
  same = λ r h.
      let within : size_of cs * r < size_of (cs ++ ms) = let p = size_of-append cs ms in let q = mul-lt-mul_of_pos_left {k = size_of cs} h some in omega arith in
      sym (at_rank-rest cs us ms vs r f some) ∙ serves.same (size_of cs * r) within ∙ sym (g.same (size_of cs * r)) ∙ at_rank-rest cs ds ns ss r e some;
}

-- at the end, where only axes of length 1 are left, the strides found serve
pub serves_all : (os : List ℕ) (ps : List ℤ) (ms : List ℕ) (ts : List ℤ) (ns : List ℕ) (ss : List ℤ) → length ts ≡ length ms → Regroups os ps (ms ++ ns) (ts ++ ss) → ServesRanks os ps ms ts
serves_all os ps ms ts ns ss e g = record {
  as_many = e;
  same = λ r h.
      let z : at_rank ns ss (r / size_of ms) ≡ pos 0 = ap (λ k. at_rank ns ss k) (div-eq_of_lt h) ∙ at_rank-zero ns ss in
      sym (at_rank-append ms ts ns ss r e ∙ ap (λ v. at_rank ms ts r +ℤ v) z ∙ +ℤ_idr (at_rank ms ts r)) ∙ g.same r;
}
