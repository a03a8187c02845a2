-- The diagonal: all axes at one coordinate become one axis, whose stride is the sum of all strides.
use Rattle.nd_layout.proofs.NamesFromOtherCrates.{ℕ, ⊎_elim, zero, suc, ◌+◌, ◌-◌, ◌*◌, ◌<◌, ◌≤◌, ◌≡◌, List, [], ◌∷◌, length, get_or, replicate, true, arith, ap, sym, ◌∙◌, ℤ, pos, ◌+ℤ◌, ◌*ℤ◌, nat_abs, mul-le-mul_left, mul-le-mul_right, cases_lt, le-leb, length-replicate, get_or-replicate, in_box, displacement_of, span_of, IsSeparated, in_box-from_coordinates, first_same}
use borrow.Author.Differences.{abs_is}
use Rattle.nd_layout.specs.StridesAfterLayoutCalls.{sum_of}
use Rattle.nd_layout.proofs.Integers.{sums, mul-sum}
use Rattle.nd_layout.proofs.ReachSumLoops.{mul-pred}
use Rattle.nd_layout.proofs.AxisChange.{on_axis}
use Rattle.nd_layout.proofs.DistinctPlaces.{same_index}

zero_of : (k : ℕ) → pos k *ℤ pos 0 ≡ pos 0
zero_of k = let e : k * 0 ≡ 0 = omega arith in ap pos e

-- the displacement of the index with k at each axis
pub displacement_of-diagonal : (ss : List ℤ) (k : ℕ) → displacement_of ss (replicate (length ss) k) ≡ pos k *ℤ sum_of ss
displacement_of-diagonal [] k = sym (zero_of k)
displacement_of-diagonal (s ∷ ss) k = ap (λ v. (pos k *ℤ s) +ℤ v) (displacement_of-diagonal ss k) ∙ sym (mul-sum k s (sum_of ss))

-- that index is in the box where each length is above k
pub in_box-diagonal : (ns : List ℕ) (k : ℕ) → ((a : ℕ) → a < length ns → k < get_or ns a 0) → in_box ns (replicate (length ns) k) ≡ true
in_box-diagonal ns k below =
    in_box-from_coordinates ns (replicate (length ns) k) (length-replicate (length ns) k)
    (λ a h. let e = get_or-replicate (length ns) a k 0 h in let b = below a h in omega arith)

pub abs-sum : (a b : ℤ) → nat_abs (a +ℤ b) ≤ nat_abs a + nat_abs b
abs-sum a b = omega (arith, sums, abs_is (a +ℤ b), abs_is a, abs_is b)

-- the diagonal reaches no further than the whole: m is at most the least length
pub diagonal-le-span : (ns : List ℕ) (ss : List ℤ) (m : ℕ) → length ss ≡ length ns → ((a : ℕ) → a < length ns → m ≤ get_or ns a 0) → (m - 1) * nat_abs (sum_of ss) ≤ span_of ns ss
diagonal-le-span [] [] m e least = omega arith
diagonal-le-span [] (s ∷ ss) m e least = absurd (omega arith)
diagonal-le-span (n ∷ ns) [] m e least = absurd (omega arith)
diagonal-le-span (n ∷ ns) (s ∷ ss) m e least =
    let rest = diagonal-le-span ns ss m (omega arith) (λ a h. least (suc a) (omega arith)) in
    let both = mul-le-mul_left (m - 1) (abs-sum s (sum_of ss)) in
    let first : m ≤ n = least 0 (omega arith) in
    let part = mul-le-mul_right {m = m - 1} {n = n - 1} (nat_abs s) (omega arith) in
    omega arith

replicate_differ : (n : ℕ) → 0 < n → replicate {A = ℕ} n 1 ≡ replicate n 0 → ⊥
replicate_differ zero some same = omega arith
replicate_differ (suc n) some same = omega (arith, first_same 1 0 (replicate n 1) (replicate n 0) same)

-- in separated strides the diagonal of two elements or more has a stride other than 0
pub diagonal-moves : (ns : List ℕ) (ss : List ℤ) → length ss ≡ length ns → 0 < length ns → ((a : ℕ) → a < length ns → 1 < get_or ns a 0) → IsSeparated ns ss → 0 < nat_abs (sum_of ss)
diagonal-moves ns ss e some long apart =
    ⊎_elim
    (λ (h : 0 < nat_abs (sum_of ss)). h)
    (λ (none : nat_abs (sum_of ss) ≤ 0).
    let z : sum_of ss ≡ pos 0 = omega (arith, sums, abs_is (sum_of ss)) in
    let off : (k : ℕ) → displacement_of ss (replicate (length ns) k) ≡ pos 0 =
    λ k. ap (λ n. displacement_of ss (replicate n k)) (sym e) ∙ displacement_of-diagonal ss k ∙ ap (λ v. pos k *ℤ v) z ∙ zero_of k in
    let one = in_box-diagonal ns 1 long in
    let nought = in_box-diagonal ns 0 (λ a h. let b = long a h in omega arith) in
    let same = same_index ns ss (replicate (length ns) 1) (replicate (length ns) 0) e apart one nought (off 1 ∙ sym (off 0)) in
    absurd (replicate_differ (length ns) some same))
    (cases_lt 0 (nat_abs (sum_of ss)))

-- one axis is separated where its stride isn't 0
pub one_axis-separated : (m : ℕ) (s : ℤ) → (1 < m → 0 < nat_abs s) → IsSeparated (m ∷ []) (s ∷ [])
one_axis-separated m s moves zero long =
    rw (le-leb (nat_abs s) (nat_abs s) (omega arith))
    (let some = moves long in let all = mul-pred m (nat_abs s) (omega arith) in omega arith)
one_axis-separated m s moves (suc k) long = absurd (omega (arith, on_axis (m ∷ []) (suc k) long))
