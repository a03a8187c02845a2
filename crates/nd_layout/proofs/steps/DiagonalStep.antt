-- The diagonal is a layout step: all axes at one coordinate become one axis.
use Rattle.nd_layout.proofs.NamesFromOtherCrates.{◌≡◌, ℕ, zero, suc, ◌+◌, ◌-◌, ◌*◌, ◌<◌, ◌≤◌, Bool, true, false, min, cond, eqb, leb, List, [], ◌∷◌, length, get_or, drop, replicate, ℤ, pos, ◌+ℤ◌, ◌*ℤ◌, nat_abs, refl, ap, sym, ◌∙◌, subst, arith, nat_tests, ints, drop_more, drop_all, +ℤ_idr, +ℤ_assoc, in_box, HasCheckedSize, displacement_of, span_of, coordinate_below, least_of, diagonal_length, diagonal_index}
use Rattle.nd_layout.specs.StridesAfterLayoutCalls.{sum_of, diagonal_stride}
use Rattle.nd_layout.proofs.Integers.{zero-mul}
use Rattle.nd_layout.proofs.ReachSumLoops.{span_of-drop}
use Rattle.nd_layout.proofs.SizesOfChangedAxes.{length-le-product}
use Rattle.nd_layout.proofs.DiagonalAxis.{displacement_of-diagonal, in_box-diagonal, diagonal-le-span, diagonal-moves, one_axis-separated, abs-sum}
use Rattle.nd_layout.specs.ValidLayoutsAndSteps.{IsStep}
use Rattle.nd_layout.proofs.reshape_lemmas.SeparationOfJoinedAxes.{le_reach}

least-le : (m : ℕ) (ns : List ℕ) → least_of m ns ≤ m
least-le m [] = omega arith
least-le m (n ∷ ns) = let rest = least-le (min m n) ns in omega (arith, rest)

least-le-each : (m : ℕ) (ns : List ℕ) (a : ℕ) → a < length ns → least_of m ns ≤ get_or ns a 0
least-le-each m [] a h = absurd (omega arith)
least-le-each m (n ∷ ns) zero h = let rest = least-le (min m n) ns in omega (arith, rest)
least-le-each m (n ∷ ns) (suc a) h = least-le-each (min m n) ns a (omega arith)

-- the diagonal is no longer than any axis
pub diagonal-le : (ns : List ℕ) (a : ℕ) → a < length ns → diagonal_length ns ≤ get_or ns a 0
diagonal-le [] a h = absurd (omega arith)
diagonal-le (n ∷ ns) zero h = least-le n ns
diagonal-le (n ∷ ns) (suc a) h = least-le-each n ns a (omega arith)

one_axis_few : (m : ℕ) → m < 9223372036854775808 → HasCheckedSize (m ∷ [])
one_axis_few zero h = omega arith
one_axis_few (suc m) h = omega (arith, h)

few_diagonal : (ns : List ℕ) → HasCheckedSize ns → diagonal_length ns < 9223372036854775808
few_diagonal [] few = omega arith
few_diagonal (n ∷ ns) few =
    let least = least-le n ns in
    let below = length-le-product (n ∷ ns) 0 (omega arith) in
    omega (arith, least, below, few)

by_length : (m : ℕ) (s : ℤ) (P : ℤ → Type 0) → (m ≤ 1 → P (pos 0)) → (1 < m → P s) → P (cond (leb m 1) (pos 0) s)
by_length m s P short long = at (leb m 1) refl
  where
    at : (b : Bool) → leb m 1 ≡ b → P (cond b (pos 0) s)
    at true e = short (grind (arith, nat_tests, e))
    at false e = long (grind (arith, nat_tests, e))

some_axis : (ns : List ℕ) → 1 < diagonal_length ns → 0 < length ns
some_axis [] h = absurd (omega arith)
some_axis (n ∷ ns) h = omega arith

module _ (ns : List ℕ) (ss : List ℤ) (many : length ss ≡ length ns) where
  diagonal_coordinate : (i : List ℕ) → in_box (diagonal_length ns ∷ []) i ≡ true → get_or i 0 0 < diagonal_length ns
  diagonal_coordinate i h = coordinate_below (diagonal_length ns ∷ []) i 0 h (omega arith)

  one_coordinate : (m : ℕ) (s : ℤ) (i : List ℕ) → in_box (m ∷ []) i ≡ true → displacement_of (s ∷ []) i ≡ pos (get_or i 0 0) *ℤ s
  one_coordinate m s [] h = cc
  one_coordinate m s (c ∷ i) h = +ℤ_idr (pos c *ℤ s)

  diagonal_displacement : (i : List ℕ) → in_box (diagonal_length ns ∷ []) i ≡ true → displacement_of (diagonal_stride ns ss ∷ []) i ≡ displacement_of ss (diagonal_index ns i)
  diagonal_displacement i h =
      let m = diagonal_length ns in
      let c = get_or i 0 0 in
      let below = diagonal_coordinate i h in
      let whole : displacement_of ss (diagonal_index ns i) ≡ pos c *ℤ sum_of ss = subst (λ l. displacement_of ss (replicate l c) ≡ pos c *ℤ sum_of ss) many (displacement_of-diagonal ss c) in
      by_length m (sum_of ss) (λ t. displacement_of (t ∷ []) i ≡ displacement_of ss (diagonal_index ns i))
      (λ short. let none : c ≡ 0 = omega (arith, below, short) in
      one_coordinate m (pos 0) i h ∙ (ap (λ k. pos k *ℤ pos 0) none ∙ (zero-mul (pos 0) ∙ (sym (zero-mul (sum_of ss)) ∙ (ap (λ k. pos k *ℤ sum_of ss) (sym none) ∙ sym whole)))))
      (λ _. one_coordinate m (sum_of ss) i h ∙ sym whole)

  pub diagonal_is_step : (offset : ℕ) → IsStep offset ns ss offset (diagonal_length ns ∷ []) (diagonal_stride ns ss ∷ []) (diagonal_index ns)
  diagonal_is_step offset =
      let m = diagonal_length ns in
      record {
        within = λ i h. let below = diagonal_coordinate i h in in_box-diagonal ns (get_or i 0 0) (λ a on. let le = diagonal-le ns a on in omega (arith, below, le));
        same = λ i h. ap (λ z. pos offset +ℤ z) (diagonal_displacement i h);
        as_many = refl;
        spread =
            let whole = diagonal-le-span ns ss m many (diagonal-le ns) in
            by_length m (sum_of ss) (λ t. span_of (m ∷ []) (t ∷ []) ≤ span_of ns ss)
            (λ short. let none : m - 1 ≡ 0 = omega (arith, short) in let e = ap (λ k. k * 0) none in omega (arith, e))
            (λ _. omega (arith, whole));
        checked = λ few. one_axis_few m (few_diagonal ns few);
        separated = λ apart. one_axis-separated m (diagonal_stride ns ss) (λ long.
            by_length m (sum_of ss) (λ t. 0 < nat_abs t)
            (λ short. absurd (omega (arith, short, long)))
            (λ _. diagonal-moves ns ss many (some_axis ns long) (λ a on. let le = diagonal-le ns a on in omega (arith, le, long)) apart));
      }

-- ---- the loops that find the least length and the sum of the strides
pub some_length : (n : ℕ) → eqb n 0 ≡ false → 0 < n
some_length zero e = cc
some_length (suc n) e = omega arith

pub diagonal_starts : (ns : List ℕ) → 0 < length ns → least_of (get_or ns 0 0) (drop 1 ns) ≡ diagonal_length ns
diagonal_starts [] h = absurd (omega arith)
diagonal_starts (n ∷ ns) h = refl

pub least_next : (m : ℕ) (ns : List ℕ) (k : ℕ) → k < length ns → least_of (min m (get_or ns k 0)) (drop (k + 1) ns) ≡ least_of m (drop k ns)
least_next m ns k h = rw (drop_more ns k 0 h) refl

pub least_ends : (m : ℕ) (ns : List ℕ) (k : ℕ) → length ns ≤ k → least_of m (drop k ns) ≡ m
least_ends m ns k h = rw (drop_all k ns h) refl

-- the strides below k have been added up, and the others can still be added to that sum
pub record IsSumBelow (ns : List ℕ) (ss : List ℤ) (sum : ℤ) (k : ℕ) : Type 0 where
  pub total : sum +ℤ sum_of (drop k ss) ≡ sum_of ss
  pub within : nat_abs sum + span_of (drop k ns) (drop k ss) ≤ span_of ns ss

pub sum_none : (ns : List ℕ) (ss : List ℤ) → IsSumBelow ns ss (pos 0) 0
sum_none ns ss = record { total = omega (arith, ints); within = omega arith }

pub sum_bound : (ns : List ℕ) (ss : List ℤ) (sum : ℤ) (k : ℕ) → length ss ≡ length ns → k < length ns → 1 < get_or ns k 0 → IsSumBelow ns ss sum k → nat_abs (sum +ℤ get_or ss k (pos 0)) + span_of (drop (k + 1) ns) (drop (k + 1) ss) ≤ span_of ns ss
sum_bound ns ss sum k many on long below =
    let s = get_or ss k (pos 0) in
    let part = span_of-drop ns ss k many on in
    let step = le_reach (get_or ns k 0) (nat_abs s) long in
    let sum_le = abs-sum sum s in
    omega (arith, part, step, sum_le, below.within)

pub sum_more : (ns : List ℕ) (ss : List ℤ) (sum next : ℤ) (k : ℕ) → length ss ≡ length ns → k < length ns → 1 < get_or ns k 0 → next ≡ sum +ℤ get_or ss k (pos 0) → IsSumBelow ns ss sum k → IsSumBelow ns ss next (k + 1)
sum_more ns ss sum next k many on long is below =
    rw is
    (record {
      total = +ℤ_assoc sum (get_or ss k (pos 0)) (sum_of (drop (k + 1) ss)) ∙ (ap (λ l. sum +ℤ sum_of l) (sym (drop_more ss k (pos 0) (omega (arith, many, on)))) ∙ below.total);
      within = sum_bound ns ss sum k many on long below;
    })

pub sum_all : (ns : List ℕ) (ss : List ℤ) (sum : ℤ) (k : ℕ) → length ss ≤ k → IsSumBelow ns ss sum k → sum ≡ sum_of ss
sum_all ns ss sum k all below =
    let none = drop_all k ss all in
    sym (+ℤ_idr sum) ∙ (ap (λ l. sum +ℤ sum_of l) (sym none) ∙ below.total)
