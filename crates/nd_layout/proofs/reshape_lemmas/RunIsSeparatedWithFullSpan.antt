-- A run has separated strides and a span of one less than its size.
use Rattle.nd_layout.proofs.NamesFromOtherCrates.{ℕ, ⊎_elim, zero, suc, ◌+◌, ◌-◌, ◌*◌, ◌<◌, ◌≤◌, ◌≡◌, ◌⊎◌, inl, inr, List, [], ◌∷◌, length, get_or, set, replicate, ltb, leb, cond, Bool, true, false, arith, refl, ap, sym, ◌∙◌, ℤ, pos, negsuc, nat_abs, mul-le-mul_right, cases_lt, cases_eq, lt-leb, ltb-true, lt-ltb, and_parts, and_from, false≢true, length-set, length-replicate, get_or-set_same, get_or-set_other, set-get_or, in_box, size_of, displacement_of, span_of, span_within, magnitude_at, IsSeparated, length-in_box, positive_at, coordinate_below, in_box-from_coordinates, in_box-set}
use borrow.Author.Differences.{up, down}
use Rattle.nd_layout.specs.StridesAfterLayoutCalls.{reach_down}
use Rattle.nd_layout.specs.RanksAndReshapeStrides.{IsRun}
use Rattle.nd_layout.proofs.Integers.{sums}
use Rattle.nd_layout.proofs.ReachSumLoops.{mul-pred}
use Rattle.nd_layout.proofs.AxisChange.{on_axis, separated_by_others}
use Rattle.nd_layout.proofs.reshape_lemmas.RegroupedAxes.{both_positive}
use Rattle.nd_layout.proofs.steps.StepsKeepValidLayouts.{origin_in_box, zero_at}

-- ---- displacements from the lowest place, by coordinates counted from the low end of each axis
abbrev pub dot : List ℤ → List ℕ → ℕ
dot [] i = 0
dot (s ∷ ss) [] = 0
dot (s ∷ ss) (k ∷ i) = k * nat_abs s + dot ss i

-- the coordinates counted from the low end: from the far end where the stride is negative
abbrev pub flip : List ℕ → List ℤ → List ℕ → List ℕ
flip [] ss i = i
flip (n ∷ ns) [] i = i
flip (n ∷ ns) (s ∷ ss) [] = []
flip (n ∷ ns) (pos s ∷ ss) (k ∷ i) = k ∷ flip ns ss i
flip (n ∷ ns) (negsuc s ∷ ss) (k ∷ i) = (n - 1 - k) ∷ flip ns ss i

pub in_box-flip : (ns : List ℕ) (ss : List ℤ) (i : List ℕ) → in_box ns i ≡ true → in_box ns (flip ns ss i) ≡ true
in_box-flip [] ss i h = h
in_box-flip (n ∷ ns) [] i h = h
in_box-flip (n ∷ ns) (s ∷ ss) [] h = h
in_box-flip (n ∷ ns) (pos s ∷ ss) (k ∷ i) h =
    let w = and_parts (ltb k n) (in_box ns i) h in and_from (ltb k n) (in_box ns (flip ns ss i)) w.0 (in_box-flip ns ss i w.1)
in_box-flip (n ∷ ns) (negsuc s ∷ ss) (k ∷ i) h =
    let w = and_parts (ltb k n) (in_box ns i) h in
    let b = ltb-true k n w.0 in
    and_from (ltb (n - 1 - k) n) (in_box ns (flip ns ss i)) (lt-ltb (n - 1 - k) n (omega arith)) (in_box-flip ns ss i w.1)

flip-flip : (ns : List ℕ) (ss : List ℤ) (i : List ℕ) → in_box ns i ≡ true → flip ns ss (flip ns ss i) ≡ i
flip-flip [] ss i h = refl
flip-flip (n ∷ ns) [] i h = refl
flip-flip (n ∷ ns) (s ∷ ss) [] h = absurd (false≢true h)
flip-flip (n ∷ ns) (pos s ∷ ss) (k ∷ i) h = let w = and_parts (ltb k n) (in_box ns i) h in ap (λ x. k ∷ x) (flip-flip ns ss i w.1)
flip-flip (n ∷ ns) (negsuc s ∷ ss) (k ∷ i) h =
    let w = and_parts (ltb k n) (in_box ns i) h in
    let b = ltb-true k n w.0 in
    let e : n - 1 - (n - 1 - k) ≡ k = omega arith in
    rw e (ap (λ x. k ∷ x) (flip-flip ns ss i w.1))

far_part : (n k s : ℕ) → k < n → (n - 1 - k) * s + k * s ≡ (n - 1) * s
far_part n k s h = let e : n - 1 ≡ (n - 1 - k) + k = omega arith in sym (ap (λ x. x * s) e ∙ omega arith)

pub displacement_of-flip : (ns : List ℕ) (ss : List ℤ) (i : List ℕ) → length ss ≡ length ns → in_box ns i ≡ true → up (displacement_of ss (flip ns ss i)) + reach_down ns ss ≡ down (displacement_of ss (flip ns ss i)) + dot ss i
displacement_of-flip [] [] i e h = omega arith
displacement_of-flip [] (s ∷ ss) i e h = absurd (omega arith)
displacement_of-flip (n ∷ ns) [] i e h = absurd (omega arith)
displacement_of-flip (n ∷ ns) (s ∷ ss) [] e h = absurd (false≢true h)
displacement_of-flip (n ∷ ns) (pos s ∷ ss) (k ∷ i) e h =
    let w = and_parts (ltb k n) (in_box ns i) h in
    let rest = displacement_of-flip ns ss i (omega arith) w.1 in
    omega (arith, sums)
displacement_of-flip (n ∷ ns) (negsuc s ∷ ss) (k ∷ i) e h =
    let w = and_parts (ltb k n) (in_box ns i) h in
    let rest = displacement_of-flip ns ss i (omega arith) w.1 in
    let far = far_part n k (suc s) (ltb-true k n w.0) in
    omega (arith, sums)

-- ---- the numbers of a run
dot-set : (ss : List ℤ) (i : List ℕ) (k x : ℕ) → length i ≡ length ss → k < length ss → dot ss (set i k x) + get_or i k 0 * magnitude_at ss k ≡ dot ss i + x * magnitude_at ss k
dot-set [] i k x e h = absurd (omega arith)
dot-set (s ∷ ss) [] k x e h = absurd (omega arith)
dot-set (s ∷ ss) (y ∷ i) zero x e h = omega arith
dot-set (s ∷ ss) (y ∷ i) (suc k) x e h = omega (arith, dot-set ss i k x (omega arith) (omega arith))

-- the first index
pub dot-zeros : (ss : List ℤ) (n : ℕ) → dot ss (replicate n 0) ≡ 0
dot-zeros [] n = refl
dot-zeros (s ∷ ss) zero = refl
dot-zeros (s ∷ ss) (suc n) = omega (arith, dot-zeros ss n)

-- a positive number comes from some axis
dot-some : (ss : List ℤ) (i : List ℕ) → 0 < dot ss i → (j : ℕ) × (j < length ss) × (0 < get_or i j 0) × (0 < magnitude_at ss j)
dot-some [] i h = absurd (omega arith)
dot-some (s ∷ ss) [] h = absurd (omega arith)
dot-some (s ∷ ss) (k ∷ i) h =
    ⊎_elim
    (λ (rest : 0 < dot ss i). let w = dot-some ss i rest in (suc w.0, (let p = w.1 in omega arith), w.2, w.3))
    (λ (none : dot ss i ≤ 0). let w = both_positive k (nat_abs s) (omega arith) in (0, omega arith, w.0, w.1))
    (cases_lt 0 (dot ss i))

dot-le-span : (ns : List ℕ) (ss : List ℤ) (i : List ℕ) → in_box ns i ≡ true → dot ss i ≤ span_of ns ss
dot-le-span [] [] i h = omega arith
dot-le-span [] (s ∷ ss) [] h = omega arith
dot-le-span [] (s ∷ ss) (k ∷ i) h = absurd (false≢true h)
dot-le-span (n ∷ ns) [] i h = omega arith
dot-le-span (n ∷ ns) (s ∷ ss) [] h = absurd (false≢true h)
dot-le-span (n ∷ ns) (s ∷ ss) (k ∷ i) h =
    let w = and_parts (ltb k n) (in_box ns i) h in
    let b = ltb-true k n w.0 in
    let part = mul-le-mul_right {m = k} {n = n - 1} (nat_abs s) (omega arith) in
    omega (arith, dot-le-span ns ss i w.1)

-- the index with the last coordinate at each axis of magnitude g at most, and 0 at the others
abbrev top : ℕ → List ℕ → List ℤ → List ℕ
top g [] ss = []
top g (n ∷ ns) [] = []
top g (n ∷ ns) (s ∷ ss) = cond (leb (nat_abs s) g) (n - 1) 0 ∷ top g ns ss

length-top : (g : ℕ) (ns : List ℕ) (ss : List ℤ) → length ss ≡ length ns → length (top g ns ss) ≡ length ns
length-top g [] ss e = refl
length-top g (n ∷ ns) [] e = absurd (omega arith)
length-top g (n ∷ ns) (s ∷ ss) e = omega (arith, length-top g ns ss (omega arith))

top_le : (b : Bool) (x : ℕ) → cond b x 0 ≤ x
top_le true x = omega arith
top_le false x = omega arith

top-le : (g : ℕ) (ns : List ℕ) (ss : List ℤ) (a : ℕ) → get_or (top g ns ss) a 0 ≤ get_or ns a 0 - 1
top-le g [] ss a = omega arith
top-le g (n ∷ ns) [] a = omega arith
top-le g (n ∷ ns) (s ∷ ss) zero = top_le (leb (nat_abs s) g) (n - 1)
top-le g (n ∷ ns) (s ∷ ss) (suc a) = top-le g ns ss a

top_times : (b : Bool) (x y : ℕ) → cond b x 0 * y ≡ cond b (x * y) 0
top_times true x y = refl
top_times false x y = omega arith

dot-top : (g : ℕ) (ns : List ℕ) (ss : List ℤ) → length ss ≡ length ns → dot ss (top g ns ss) ≡ span_within g ns ss
dot-top g [] [] e = refl
dot-top g [] (s ∷ ss) e = absurd (omega arith)
dot-top g (n ∷ ns) [] e = absurd (omega arith)
dot-top g (n ∷ ns) (s ∷ ss) e = omega (arith, top_times (leb (nat_abs s) g) (n - 1) (nat_abs s), dot-top g ns ss (omega arith))

top_within : (x g n : ℕ) → 0 < cond (leb x g) n 0 → x ≤ g
top_within x g n h =
    ⊎_elim
    (λ (over : g < x). let f = lt-leb x g over in let h' = rw f at h in absurd (omega arith))
    (λ (in_g : x ≤ g). in_g)
    (cases_lt g x)

top-within : (g : ℕ) (ns : List ℕ) (ss : List ℤ) (j : ℕ) → 0 < get_or (top g ns ss) j 0 → magnitude_at ss j ≤ g
top-within g [] ss j h = absurd (omega arith)
top-within g (n ∷ ns) [] j h = absurd (omega arith)
top-within g (n ∷ ns) (s ∷ ss) zero h = top_within (nat_abs s) g (n - 1) h
top-within g (n ∷ ns) (s ∷ ss) (suc j) h = top-within g ns ss j h

in_box-top : (g : ℕ) (ns : List ℕ) (ss : List ℤ) (k : ℕ) → length ss ≡ length ns → 0 < size_of ns → in_box ns (top g (set ns k 1) ss) ≡ true
in_box-top g ns ss k e some =
    in_box-from_coordinates ns (top g (set ns k 1) ss) (length-top g (set ns k 1) ss (e ∙ sym (length-set ns k 1)) ∙ length-set ns k 1)
    (λ a h.
    let p = (positive_at ns a h some).0 in
    let t = top-le g (set ns k 1) ss a in
    ⊎_elim
    (λ (is : a ≡ k). let s : get_or (set ns k 1) a 0 ≡ 1 = ap (λ j. get_or (set ns k 1) j 0) is ∙ get_or-set_same ns k 1 0 (omega arith) in omega arith)
    (λ (other : a ≡ k → ⊥). let s = get_or-set_other ns k a 1 0 other in omega arith)
    (cases_eq a k))

in_box-moved : (ns i : List ℕ) (k x : ℕ) → in_box ns i ≡ true → k < length ns → x < get_or ns k 0 → in_box ns (set i k x) ≡ true
in_box-moved ns i k x h within below =
    let b = in_box-set ns i k (get_or ns k 0) x h below in
    rw (set-get_or ns k 0) at b

-- a run, in numbers from 0 on
pub record DotRun (ns : List ℕ) (ss : List ℤ) : Type 0 where
  pub below : (i : List ℕ) → in_box ns i ≡ true → dot ss i < size_of ns
  pub each : (v : ℕ) → v < size_of ns → (i : List ℕ) × (in_box ns i ≡ true) × (dot ss i ≡ v)
  pub once : (i j : List ℕ) → in_box ns i ≡ true → in_box ns j ≡ true → dot ss i ≡ dot ss j → i ≡ j

-- the run's lowest displacement is the lowest place, so it is a run of these numbers
pub DotRun-from_run : (ns : List ℕ) (ss : List ℤ) → length ss ≡ length ns → 0 < size_of ns → IsRun ns ss → DotRun ns ss
DotRun-from_run ns ss e some run =
    let first = origin_in_box ns some in
    let start = run.within (flip ns ss (replicate (length ns) 0)) (in_box-flip ns ss (replicate (length ns) 0) first) in
    let start_at = displacement_of-flip ns ss (replicate (length ns) 0) e first in
    let z = dot-zeros ss (length ns) in
    let lowest = run.each 0 some in
    let back = flip-flip ns ss lowest.0 lowest.1 in
    let lowest_in = in_box-flip ns ss lowest.0 lowest.1 in
    let lowest_at = rw back at (displacement_of-flip ns ss (flip ns ss lowest.0) e lowest_in) in
    let low_is : up run.low + reach_down ns ss ≡ down run.low = omega (arith, sums, start.2, lowest.2) in
    record {
      below = λ i h.
          let w = run.within (flip ns ss i) (in_box-flip ns ss i h) in
          let at = displacement_of-flip ns ss i e h in
          let v : dot ss i ≡ w.0 = omega (arith, sums, w.2) in
          (let b = w.1 in omega arith);
      each = λ v h.
          let w = run.each v h in
          let inside = in_box-flip ns ss w.0 w.1 in
          let at = rw (flip-flip ns ss w.0 w.1) at (displacement_of-flip ns ss (flip ns ss w.0) e inside) in
          (flip ns ss w.0, inside, omega (arith, sums, w.2));
      once = λ i j h q same.
          let at_i = displacement_of-flip ns ss i e h in
          let at_j = displacement_of-flip ns ss j e q in
          let f : displacement_of ss (flip ns ss i) ≡ displacement_of ss (flip ns ss j) = omega (arith, sums) in
          let g = run.once (flip ns ss i) (flip ns ss j) (in_box-flip ns ss i h) (in_box-flip ns ss j q) f in
          sym (flip-flip ns ss i h) ∙ ap (flip ns ss) g ∙ flip-flip ns ss j q;
    }

-- the last index
abbrev pub lasts : List ℕ → List ℕ
lasts [] = []
lasts (n ∷ ns) = (n - 1) ∷ lasts ns

pub in_box-lasts : (ns : List ℕ) → 0 < size_of ns → in_box ns (lasts ns) ≡ true
in_box-lasts [] some = refl
in_box-lasts (n ∷ ns) some =
    let w = both_positive n (size_of ns) some in
    and_from (ltb (n - 1) n) (in_box ns (lasts ns)) (lt-ltb (n - 1) n (let p = w.0 in omega arith)) (in_box-lasts ns w.1)

pub dot-lasts : (ns : List ℕ) (ss : List ℤ) → length ss ≡ length ns → dot ss (lasts ns) ≡ span_of ns ss
dot-lasts [] [] e = refl
dot-lasts [] (s ∷ ss) e = absurd (omega arith)
dot-lasts (n ∷ ns) [] e = absurd (omega arith)
dot-lasts (n ∷ ns) (s ∷ ss) e = omega (arith, dot-lasts ns ss (omega arith))

-- the span is one less than the size
pub span-from_run : (ns : List ℕ) (ss : List ℤ) → length ss ≡ length ns → 0 < size_of ns → DotRun ns ss → span_of ns ss + 1 ≡ size_of ns
span-from_run ns ss e some run =
    let last = run.below (lasts ns) (in_box-lasts ns some) in
    let is = dot-lasts ns ss e in
    let w = run.each (size_of ns - 1) (omega arith) in
    let most = dot-le-span ns ss w.0 w.1 in
    let there = w.2 in
    omega arith

-- an axis longer than 1 has a step
step_positive : (ns : List ℕ) (ss : List ℤ) (k : ℕ) → length ss ≡ length ns → 0 < size_of ns → DotRun ns ss → 1 < get_or ns k 0 → 0 < magnitude_at ss k
step_positive ns ss k e some run long =
    let n = length ns in
    let within = on_axis ns k long in
    let first = origin_in_box ns some in
    let second = in_box-moved ns (replicate n 0) k 1 first within long in
    let moved = dot-set ss (replicate n 0) k 1 (length-replicate n 0 ∙ sym e) (omega arith) in
    let z = zero_at n k in
    ⊎_elim
    (λ (h : 0 < magnitude_at ss k). h)
    (λ (none : magnitude_at ss k ≤ 0).
    let o : magnitude_at ss k ≡ 0 = omega arith in
    let same : dot ss (set (replicate n 0) k 1) ≡ dot ss (replicate n 0) = zero_step (dot ss (set (replicate n 0) k 1)) (dot ss (replicate n 0)) (get_or (replicate n 0) k 0) (magnitude_at ss k) o moved in
    let equal = run.once (set (replicate n 0) k 1) (replicate n 0) second first same in
    let there : get_or (set (replicate n 0) k 1) k 0 ≡ 1 = get_or-set_same (replicate n 0) k 1 0 (let l = length-replicate {A = ℕ} n 0 in omega arith) in
    let both : 1 ≡ 0 = sym there ∙ (ap (λ (x : List ℕ). get_or x k 0) equal ∙ z) in
    absurd (omega (arith, both)))
    (cases_lt 0 (magnitude_at ss k))
  where
    zero_step : (a b c m : ℕ) → m ≡ 0 → a + c * m ≡ b + 1 * m → a ≡ b
    zero_step a b c m none e = let p : c * m ≡ 0 = ap (λ x. c * x) none ∙ omega arith in omega arith

-- An index with 0 at axis k, of axes of at most k's step, lies below k's step: else one coordinate less, or a
-- second index with one step of k at the same place.
descent : (ns : List ℕ) (ss : List ℤ) (k : ℕ) → length ss ≡ length ns → 0 < size_of ns → DotRun ns ss → 1 < get_or ns k 0 → (d : ℕ) (x : List ℕ) → in_box ns x ≡ true → get_or x k 0 ≡ 0 → ((j : ℕ) → 0 < get_or x j 0 → magnitude_at ss j ≤ magnitude_at ss k) → dot ss x ≤ d → magnitude_at ss k ≤ dot ss x → ⊥
descent ns ss k e some run long zero x h none kept few much = omega (arith, step_positive ns ss k e some run long)
descent ns ss k e some run long (suc d) x h none kept few much =
    let a = magnitude_at ss k in
    let within = on_axis ns k long in
    let l = length-in_box ns x h in
    let positive = step_positive ns ss k e some run long in
    let j = dot-some ss x (omega arith) in
    let one_less = dot-set ss x j.0 (get_or x j.0 0 - 1) (l ∙ sym e) j.1 in
    let x' = set x j.0 (get_or x j.0 0 - 1) in
    let b = magnitude_at ss j.0 in
    let p = j.2 in
    let r = j.3 in
    let j_in = j.1 in
    let back : dot ss x' + b ≡ dot ss x = let m = mul-pred (get_or x j.0 0) b p in omega arith in
    let smaller = kept j.0 p in
    ⊎_elim
    (λ (still : a ≤ dot ss x').
    let j_not : k ≡ j.0 → ⊥ = λ is. let f : get_or x k 0 ≡ get_or x j.0 0 = ap (λ n. get_or x n 0) is in omega arith in
    let coordinate = coordinate_below ns x j.0 h (omega arith) in
    let inside = in_box-moved ns x j.0 (get_or x j.0 0 - 1) h (omega arith) (omega arith) in
    descent ns ss k e some run long d x' inside (get_or-set_other x j.0 k (get_or x j.0 0 - 1) 0 j_not ∙ none)
    (λ i more. ⊎_elim
    (λ (is : i ≡ j.0). let f : magnitude_at ss i ≡ b = ap (magnitude_at ss) is in omega arith)
    (λ (other : i ≡ j.0 → ⊥). kept i (let g = get_or-set_other x j.0 i (get_or x j.0 0 - 1) 0 other in omega arith))
    (cases_eq i j.0))
    (omega arith) still)
    (λ (below : dot ss x' < a).
    let v = dot ss x - a in
    let v_in = run.below x h in
    let y = run.each v (omega arith) in
    let y_is = y.2 in
    let y_l = length-in_box ns y.0 y.1 in
    let cleared = dot-set ss y.0 k 0 (y_l ∙ sym e) (omega arith) in
    let moved = dot-set ss y.0 k 1 (y_l ∙ sym e) (omega arith) in
    let inside = in_box-moved ns y.0 k 1 y.1 within long in
    ⊎_elim
    (λ (more : 0 < get_or y.0 k 0).
    let m = mul-le-mul_right {m = 1} {n = get_or y.0 k 0} a more in
    absurd (omega arith))
    (λ (nought : get_or y.0 k 0 ≤ 0).
    let o : get_or y.0 k 0 ≡ 0 = omega arith in
    let product : get_or y.0 k 0 * a ≡ 0 = ap (λ n. n * a) o ∙ omega arith in
    let equal = run.once (set y.0 k 1) x inside h (omega arith) in
    let there : get_or (set y.0 k 1) k 0 ≡ 1 = get_or-set_same y.0 k 1 0 (omega arith) in
    let here : get_or (set y.0 k 1) k 0 ≡ get_or x k 0 = ap (λ (n : List ℕ). get_or n k 0) equal in
    absurd (omega arith))
    (cases_lt 0 (get_or y.0 k 0)))
    (cases_lt' a (dot ss x'))
  where
    cases_lt' : (m n : ℕ) → (m ≤ n) ⊎ (n < m)
    cases_lt' m n = ⊎_elim inr inl (cases_lt n m)

-- so each axis longer than 1 steps further than the others of at most its step reach
pub IsSeparated-from_run : (ns : List ℕ) (ss : List ℤ) → length ss ≡ length ns → 0 < size_of ns → DotRun ns ss → IsSeparated ns ss
IsSeparated-from_run ns ss e some run =
    separated_by_others ns ss e
    (λ k long.
    let a = magnitude_at ss k in
    let within = on_axis ns k long in
    let x = top a (set ns k 1) ss in
    let l = length-set ns k 1 in
    let is = dot-top a (set ns k 1) ss (e ∙ sym l) in
    let nought : get_or x k 0 ≡ 0 = let t = top-le a (set ns k 1) ss k in let o : get_or (set ns k 1) k 0 ≡ 1 = get_or-set_same ns k 1 0 within in omega arith in
    ⊎_elim
    (λ (h : span_within a (set ns k 1) ss < a). h)
    (λ (much : a ≤ span_within a (set ns k 1) ss).
    absurd (descent ns ss k e some run long (dot ss x) x (in_box-top a ns ss k e some) nought (λ j. top-within a (set ns k 1) ss j) (omega arith) (omega arith)))
    (cases_lt (span_within a (set ns k 1) ss) a))
