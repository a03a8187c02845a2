-- Steps of the search for groups of axes.
use Rattle.nd_layout.proofs.NamesFromOtherCrates.{ℕ, ◌+◌, ◌*◌, ◌%◌, ◌<◌, ◌≤◌, ◌≡◌, List, ◌∷◌, length, get_or, drop, arith, ap, sym, subst, ◌∙◌, ℤ, pos, ◌*ℤ◌, Option, Some, None, MatchOption, mul-le-mul_left, mul_assoc, mul_comm, le-mul_of_pos_right, drop_more, length-drop, size_of}
use Rattle.nd_layout.specs.declared.reshape.strides_that_serve.Group.{Group}
use Rattle.nd_layout.specs.RanksAndReshapeStrides.{at_rank, ServesRanks, Regroups}
use Rattle.nd_layout.specs.ReshapeAxisGroups.{IsClosed, TakesLength, SplitsOff}
use Rattle.nd_layout.proofs.reshape_lemmas.ServingStrides.{none_serves}
use Rattle.nd_layout.proofs.Integers.{one-mul, mul-mul}
use Rattle.nd_layout.proofs.NthElementInColumnMajor.{at_rank-below}
use Rattle.nd_layout.proofs.reshape_lemmas.RegroupedAxes.{Regroups-trans, Regroups-split, both_positive}

-- a group and the next axis have at most the whole size together
pub group_product : (len n rest size : ℕ) → len * (n * rest) ≡ size → 0 < size → (0 < len * n) × (len * n ≤ size)
group_product len n rest size e some =
    let a = mul_assoc len n rest in
    let w = both_positive (len * n) rest (omega arith) in
    let l = le-mul_of_pos_right {m = rest} (len * n) w.1 in
    (w.0, omega arith)

-- one more axis joins the group
pub grouped_more : (os : List ℕ) (ps : List ℤ) (ns : List ℕ) (ss : List ℤ) (next : ℕ) (len len' : ℕ) (step step' : ℤ) → length ss ≡ length ns → next < length ns
    → ((ms : List ℕ) (ts : List ℤ) → length ts ≡ length ms → Regroups (len ∷ get_or ns next 0 ∷ ms) (step ∷ get_or ss next (pos 0) ∷ ts) (len' ∷ ms) (step' ∷ ts))
    → Regroups os ps (len ∷ drop next ns) (step ∷ drop next ss) → Regroups os ps (len' ∷ drop (next + 1) ns) (step' ∷ drop (next + 1) ss)
grouped_more os ps ns ss next len len' step step' e h joins before =
    let h' : next < length ss = omega arith in
    let l : length (drop (next + 1) ss) ≡ length (drop (next + 1) ns) = simp length-drop (omega arith) in
    Regroups-trans os ps (len ∷ get_or ns next 0 ∷ drop (next + 1) ns) (step ∷ get_or ss next (pos 0) ∷ drop (next + 1) ss) (len' ∷ drop (next + 1) ns) (step' ∷ drop (next + 1) ss)
    (rw (drop_more ns next 0 h, drop_more ss next (pos 0) h') at before)
    (joins (drop (next + 1) ns) (drop (next + 1) ss) l)

-- the group's length times the next axis's is positive and at most the size
pub grouped_size : (os : List ℕ) (ps : List ℤ) (ns : List ℕ) (ss : List ℤ) (next : ℕ) (len : ℕ) (step : ℤ) → next < length ns → 0 < size_of os → Regroups os ps (len ∷ drop next ns) (step ∷ drop next ss) → (0 < len * get_or ns next 0) × (len * get_or ns next 0 ≤ size_of os)
grouped_size os ps ns ss next len step h some g =
    let size = rw (drop_more ns next 0 h) at g.size in
    group_product len (get_or ns next 0) (size_of (drop (next + 1) ns)) (size_of os) size some

-- the displacement at rank 1 is the next axis's stride, where that axis is longer than 1
pub at_rank-next : (ns : List ℕ) (ss : List ℤ) (next : ℕ) → length ss ≡ length ns → next < length ns → 1 < get_or ns next 0 → at_rank (drop next ns) (drop next ss) 1 ≡ get_or ss next (pos 0)
at_rank-next ns ss next e h long =
    let h' : next < length ss = omega arith in
    let s = get_or ss next (pos 0) in
    rw (drop_more ns next 0 h, drop_more ss next (pos 0) h')
    (at_rank-below (get_or ns next 0) s (drop (next + 1) ns) (drop (next + 1) ss) 1 long ∙ one-mul s)

-- what serves over the axes before they are regrouped serves over the regrouped ones
pub ServesRanks-regrouped : (ns : List ℕ) (ss : List ℤ) (ms : List ℕ) (ts : List ℤ) (ls : List ℕ) (us : List ℤ) → Regroups ns ss ms ts → ServesRanks ns ss ls us → ServesRanks ms ts ls us
ServesRanks-regrouped ns ss ms ts ls us g serves = record { as_many = serves.as_many; same = λ r h. serves.same r h ∙ sym (g.same r) }

-- after the group is filled and split, or couldn't be
pub taken : (ns : List ℕ) (ss : List ℤ) (g full : Group) (len : ℕ) (r : Option (ℤ × Group))
    → length ss ≡ length ns → 1 < len → 0 < len * (g.length * size_of (drop g.next ns))
    → Regroups (g.length ∷ drop g.next ns) (g.step ∷ drop g.next ss) (full.length ∷ drop full.next ns) (full.step ∷ drop full.next ss)
    → IsClosed full ns ss → (1 < size_of (drop full.next ns) → 1 < full.length)
    → MatchOption r (0 < full.length % len) (λ w. SplitsOff full len w.0 w.1)
    → full.next ≤ length ns
    → MatchOption r ((ms : List ℕ) (ts : List ℤ) → len * size_of ms ≡ g.length * size_of (drop g.next ns) → ServesRanks (g.length ∷ drop g.next ns) (g.step ∷ drop g.next ss) (len ∷ ms) ts → ⊥) (λ w. TakesLength ns ss g len w.0 w.1 × (w.1.next ≤ length ns) × IsClosed w.1 ns ss)
taken ns ss g full len None e long some grouped closed wide odd on =
    λ ms ts sizes serves.
    let c = mul_comm len (g.length * size_of (drop g.next ns)) in
    let w = both_positive (g.length * size_of (drop g.next ns)) len (omega arith) in
    let v = both_positive (size_of ms) len (let d = mul_comm len (size_of ms) in omega arith) in
    none_serves full.length full.step (drop full.next ns) (drop full.next ss) len ms ts long odd v.0 (sizes ∙ sym grouped.size) wide (λ more. closed (wide more) more)
    (ServesRanks-regrouped (g.length ∷ drop g.next ns) (g.step ∷ drop g.next ss) (full.length ∷ drop full.next ns) (full.step ∷ drop full.next ss) (len ∷ ms) ts grouped serves)
taken ns ss g full len (Some (t, h)) e long some grouped closed wide (t_is, product, step_is, next_is) on =
    let R = drop full.next ns in
    let S = drop full.next ss in
    let q = h.length in
    let l : length S ≡ length R = simp length-drop (omega arith) in
    let c = mul_comm len (g.length * size_of (drop g.next ns)) in
    let w = both_positive (g.length * size_of (drop g.next ns)) len (omega arith) in
    let all = both_positive full.length (size_of R) (let d = grouped.size in omega arith) in
    let parts = both_positive q len (let d = mul_comm len q in omega arith) in
    let split = Regroups-split len q full.step h.step R S l long parts.0 step_is in
    let whole : Regroups (g.length ∷ drop g.next ns) (g.step ∷ drop g.next ss) (len * q ∷ R) (full.step ∷ S) =
    subst (λ (k : ℕ). Regroups (g.length ∷ drop g.next ns) (g.step ∷ drop g.next ss) (k ∷ R) (full.step ∷ S)) product grouped in
    rw (t_is, next_is) (
      Regroups-trans (g.length ∷ drop g.next ns) (g.step ∷ drop g.next ss) (len * q ∷ R) (full.step ∷ S) (len ∷ q ∷ R) (full.step ∷ h.step ∷ S) whole split,
      on,
      λ more wider is.
          let bigger = mul-le-mul_left {m = 2} {n = q} len (omega arith) in
          closed (omega arith) wider
          (is ∙ ap (λ z. pos q *ℤ z) (step_is more) ∙ mul-mul q len full.step ∙ ap (λ k. pos k *ℤ full.step) (mul_comm q len ∙ sym product)),
    )
