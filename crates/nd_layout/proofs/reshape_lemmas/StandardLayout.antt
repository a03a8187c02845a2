-- Standard layout, one axis at a time from the fastest on.
use Rattle.nd_layout.proofs.NamesFromOtherCrates.{ℕ, ⊎_elim, suc, ◌+◌, ◌*◌, ◌/◌, ◌%◌, ◌<◌, ◌≤◌, ◌≡◌, List, [], ◌∷◌, length, get_or, drop, arith, ap, sym, ◌∙◌, ℤ, pos, ◌+ℤ◌, ◌*ℤ◌, mul_comm, mul_assoc, mod-add-div, div-lt_iff_lt-mul, mul-le-mul_left, le-mul_of_pos_right, cases_lt, drop_more, size_of, row_rank, RowMajor, Order}
use Rattle.nd_layout.specs.RanksAndReshapeStrides.{fastest_first, at_rank, IsStandard, StepsBy}
use Rattle.nd_layout.proofs.Integers.{one-mul}
use Rattle.nd_layout.proofs.NthElementInColumnMajor.{at_rank-one, at_rank-multiple, at_rank-below}
use Rattle.nd_layout.proofs.reshape_lemmas.RegroupedAxes.{both_positive}
use Rattle.nd_layout.proofs.reshape_lemmas.AxesFromFastest.{displacement-at_rank, rank_in-below, index_of_rank, size_of-ordered, length-ordered}

-- the first axis steps by p, and the rest by p times its length
pub StepsBy-first : (p n : ℕ) (s : ℤ) (ns : List ℕ) (ss : List ℤ) → 0 < size_of ns → 1 < n → StepsBy p (n ∷ ns) (s ∷ ss) → s ≡ pos p
StepsBy-first p n s ns ss some long steps =
    let more = mul-le-mul_left {m = 1} {n = size_of ns} n (omega arith) in
    sym (at_rank-below n s ns ss 1 long ∙ one-mul s) ∙ steps 1 (omega arith) ∙ ap pos (omega arith)

-- the rest of the axes
pub StepsBy-rest : (p n : ℕ) (s : ℤ) (ns : List ℕ) (ss : List ℤ) → 0 < n → StepsBy p (n ∷ ns) (s ∷ ss) → StepsBy (p * n) ns ss
StepsBy-rest p n s ns ss some steps = λ r h.
    let more = mul-le-mul_left {m = suc r} {n = size_of ns} n h in
    sym (at_rank-multiple n s ns ss r some) ∙ steps (n * r) (omega arith) ∙ ap pos (sym (mul_assoc p n r))

steps_sum : (p n r : ℕ) → r % n * p + p * n * (r / n) ≡ p * r
steps_sum p n r =
    let a = mul_comm (r % n) p in
    let b = mul_assoc p n (r / n) in
    let c : p * (r % n + n * (r / n)) ≡ p * r = ap (λ v. p * v) (mod-add-div r n) in
    omega arith

-- both together
pub StepsBy-from : (p n : ℕ) (s : ℤ) (ns : List ℕ) (ss : List ℤ) → 0 < n → (1 < n → s ≡ pos p) → StepsBy (p * n) ns ss → StepsBy p (n ∷ ns) (s ∷ ss)
StepsBy-from p n s ns ss some first rest = λ r h.
    let within : r / n < size_of ns = (div-lt_iff_lt-mul some).1 (omega (arith, mul_comm n (size_of ns))) in
    ⊎_elim
    (λ (long : 1 < n).
    ap (λ z. (pos (r % n) *ℤ z) +ℤ at_rank ns ss (r / n)) (first long)
    ∙ ap (λ z. pos (r % n * p) +ℤ z) (rest (r / n) within)
    ∙ ap pos (steps_sum p n r))
    (λ (short : n ≤ 1).
    let one : n ≡ 1 = omega arith in
    let same : at_rank (n ∷ ns) (s ∷ ss) r ≡ at_rank ns ss r = ap (λ k. at_rank (k ∷ ns) (s ∷ ss) r) one ∙ at_rank-one ns s ss r in
    let below : r < size_of ns = let e = ap (λ k. k * size_of ns) one in omega arith in
    same ∙ rest r below ∙ ap pos (ap (λ k. p * k * r) one ∙ ap (λ k. k * r) (omega arith)))
    (cases_lt 1 n)

-- no axes
pub StepsBy-none : (p : ℕ) (ss : List ℤ) → StepsBy p [] ss
StepsBy-none p ss = λ r h. let z : r ≡ 0 = omega arith in ap pos (sym (ap (λ k. p * k) z ∙ omega arith))

-- standard layout is a step of 1
pub StepsBy-from_standard : (ns : List ℕ) (ss : List ℤ) → length ss ≡ length ns → IsStandard ns ss → StepsBy 1 (fastest_first RowMajor ns) (fastest_first RowMajor ss)
StepsBy-from_standard ns ss e standard = λ r h.
    let w = index_of_rank RowMajor ns r (omega (arith, size_of-ordered RowMajor ns)) in
    ap (λ x. at_rank (fastest_first RowMajor ns) (fastest_first RowMajor ss) x) (sym w.2) ∙ displacement-at_rank RowMajor ns ss w.0 e w.1 ∙ standard w.0 w.1 ∙ ap pos (w.2 ∙ omega arith)

-- and a step of 1 is standard layout
pub standard_from_StepsBy : (ns : List ℕ) (ss : List ℤ) → length ss ≡ length ns → StepsBy 1 (fastest_first RowMajor ns) (fastest_first RowMajor ss) → IsStandard ns ss
standard_from_StepsBy ns ss e steps = λ i h.
    sym (displacement-at_rank RowMajor ns ss i e h) ∙ steps (row_rank ns i) (omega (arith, rank_in-below RowMajor ns i h, size_of-ordered RowMajor ns)) ∙ ap pos (omega arith)

-- ---- at the nth of whole lists
pub StepsBy-at : (p : ℕ) (ns : List ℕ) (ss : List ℤ) (nth : ℕ) → length ss ≡ length ns → nth < length ns → 0 < size_of (drop nth ns) → StepsBy p (drop nth ns) (drop nth ss) → (1 < get_or ns nth 0 → get_or ss nth (pos 0) ≡ pos p) × StepsBy (p * get_or ns nth 0) (drop (nth + 1) ns) (drop (nth + 1) ss)
StepsBy-at p ns ss nth e h some steps =
    let h' : nth < length ss = omega arith in
    let size = ap size_of (drop_more ns nth 0 h) in
    let w = both_positive (get_or ns nth 0) (size_of (drop (nth + 1) ns)) (omega arith) in
    let here = rw (drop_more ns nth 0 h, drop_more ss nth (pos 0) h') at steps in (
      λ long. StepsBy-first p (get_or ns nth 0) (get_or ss nth (pos 0)) (drop (nth + 1) ns) (drop (nth + 1) ss) w.1 long here,
      StepsBy-rest p (get_or ns nth 0) (get_or ss nth (pos 0)) (drop (nth + 1) ns) (drop (nth + 1) ss) w.0 here,
    )

-- the same, back
pub StepsBy-back : (p : ℕ) (ns : List ℕ) (ss : List ℤ) (nth : ℕ) → length ss ≡ length ns → nth < length ns → 0 < size_of (drop nth ns) → (1 < get_or ns nth 0 → get_or ss nth (pos 0) ≡ pos p) → StepsBy (p * get_or ns nth 0) (drop (nth + 1) ns) (drop (nth + 1) ss) → StepsBy p (drop nth ns) (drop nth ss)
StepsBy-back p ns ss nth e h some first rest =
    let h' : nth < length ss = omega arith in
    let size = ap size_of (drop_more ns nth 0 h) in
    let w = both_positive (get_or ns nth 0) (size_of (drop (nth + 1) ns)) (omega arith) in
    rw (drop_more ns nth 0 h, drop_more ss nth (pos 0) h')
    (StepsBy-from p (get_or ns nth 0) (get_or ss nth (pos 0)) (drop (nth + 1) ns) (drop (nth + 1) ss) w.0 first rest)

-- a part of the size, and the part with the next length
pub part_of_size : (ns : List ℕ) (part nth size : ℕ) → nth < length ns → 0 < size → part * size_of (drop nth ns) ≡ size → (part ≤ size) × (part * get_or ns nth 0 ≤ size) × (0 < size_of (drop nth ns)) × (0 < get_or ns nth 0) × (part * get_or ns nth 0 * size_of (drop (nth + 1) ns) ≡ size)
part_of_size ns part nth size h some e =
    let f = ap size_of (drop_more ns nth 0 h) in
    let n = get_or ns nth 0 in
    let w = both_positive part (size_of (drop nth ns)) (omega arith) in
    let v = both_positive n (size_of (drop (nth + 1) ns)) (omega arith) in
    let l = le-mul_of_pos_right {m = size_of (drop nth ns)} part w.1 in
    let k = le-mul_of_pos_right {m = size_of (drop (nth + 1) ns)} (part * n) v.1 in
    let a = mul_assoc part n (size_of (drop (nth + 1) ns)) in
    let b : part * size_of (drop nth ns) ≡ part * (n * size_of (drop (nth + 1) ns)) = ap (λ x. part * x) f in
    (omega arith, omega arith, w.1, v.0, omega arith)

-- the same of a shape in an order of its axes
pub part_in_order : (o : Order) (ns : List ℕ) (part nth : ℕ) → nth < length ns → 0 < size_of ns → part * size_of (drop nth (fastest_first o ns)) ≡ size_of (fastest_first o ns)
    → (part ≤ size_of ns) × (part * get_or (fastest_first o ns) nth 0 ≤ size_of ns) × (0 < size_of (drop nth (fastest_first o ns))) × (0 < get_or (fastest_first o ns) nth 0) × (part * get_or (fastest_first o ns) nth 0 * size_of (drop (nth + 1) (fastest_first o ns)) ≡ size_of (fastest_first o ns))
part_in_order o ns part nth within some e =
    let z = size_of-ordered o ns in
    let long = length-ordered o ns in
    let p = part_of_size (fastest_first o ns) part nth (size_of (fastest_first o ns)) (omega (arith, within, long)) (omega (arith, some, z)) e in
    (omega (arith, p.0, z), omega (arith, p.1, z), p.2, p.3, p.4)
