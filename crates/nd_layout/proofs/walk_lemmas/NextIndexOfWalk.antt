-- An index that goes on to the next one in row-major order: axes at their end start again, and one advances.
use Rattle.nd_layout.proofs.NamesFromOtherCrates.{◌≡◌, ℕ, zero, suc, ◌+◌, ◌*◌, ◌<◌, ◌≤◌, true, add-one, List, [], ◌∷◌, length, take, drop, replicate, get_or, set, refl, ap, sym, subst, ◌∙◌, arith, inl, inr, ℤ, pos, negsuc, ◌+ℤ◌, ◌-ℤ◌, ◌*ℤ◌, drop_all, set-get_or, get_or-set_other, eq-or-lt_of_le, ◌⊎◌, nat_tests, in_box, size_of, row_rank, index_at, displacement_of, place_of, in_box-cons, length-in_box, displacement_of-origin, coordinate_below, size_of-drop, index_at-row_rank, ints}
use Rattle.nd_layout.specs.ValidMemoryPlaces.{is_place, is_usize, ReachesPlaces, ReachesUsizes}
use Rattle.nd_layout.specs.RowMajorWalk.{place_at_rank, StandsAt, IsMovedOn}
use Rattle.nd_layout.proofs.steps.StepsKeepValidLayouts.{origin_in_box}
use Rattle.nd_layout.proofs.DisplacementChanges.{displacement_of-set}
use Rattle.nd_layout.proofs.Integers.{sums, zero-mul, suc-mul}

-- places are numbers that a `usize` holds
pub reaches_usizes : (first : ℕ) (ns : List ℕ) (ss : List ℤ) → ReachesPlaces first ns ss → ReachesUsizes first ns ss
reaches_usizes first ns ss reach i h = by_sign (place_of first ss i) (reach i h)
  where
    by_sign : (z : ℤ) → is_place z ≡ true → is_usize z ≡ true
    by_sign (pos p) small = grind (arith, nat_tests, small)
    by_sign (negsuc p) small = cc

-- ---- one coordinate changed
-- the index stays in the box
pub in_box-set : (ns is : List ℕ) (k x : ℕ) → in_box ns is ≡ true → x < get_or ns k 0 → in_box ns (set is k x) ≡ true
in_box-set [] [] k x h below = refl
in_box-set [] (i ∷ is) k x h below = cc
in_box-set (n ∷ ns) [] k x h below = cc
in_box-set (n ∷ ns) (i ∷ is) zero x h below = let rest = (in_box-cons n ns i is h).1 in grind (arith, nat_tests, rest, below)
in_box-set (n ∷ ns) (i ∷ is) (suc k) x h below =
    let parts = in_box-cons n ns i is h in
    let rest = in_box-set ns is k x parts.1 below in
    grind (arith, nat_tests, parts.0, rest)

-- its rank moves by as many indexes as the later axes have, for each coordinate
pub row_rank-set : (ns is : List ℕ) (k x : ℕ) → k < length ns → length is ≡ length ns → row_rank ns (set is k x) + get_or is k 0 * size_of (drop (k + 1) ns) ≡ row_rank ns is + x * size_of (drop (k + 1) ns)
row_rank-set [] is k x h e = absurd (omega arith)
row_rank-set (n ∷ ns) [] k x h e = absurd (omega arith)
row_rank-set (n ∷ ns) (i ∷ is) zero x h e = omega arith
row_rank-set (n ∷ ns) (i ∷ is) (suc k) x h e =
    let next : suc k + 1 ≡ suc (k + 1) = omega arith in
    let rest = row_rank-set ns is k x (omega arith) (omega arith) in
    rw next (omega (arith, rest))

-- its displacement by the stride, for each coordinate
pub displacement_of-put : (ss : List ℤ) (is : List ℕ) (k x : ℕ) → length is ≡ length ss → k < length ss → displacement_of ss (set is k x) +ℤ (pos (get_or is k 0) *ℤ get_or ss k (pos 0)) ≡ displacement_of ss is +ℤ (pos x *ℤ get_or ss k (pos 0))
displacement_of-put ss is k x e h =
    let whole = displacement_of-set ss is k (get_or ss k (pos 0)) x e h in
    rw (set-get_or ss k (pos 0)) at whole

-- ---- the place
pub place_number : (z : ℤ) → is_place z ≡ true → (p : ℕ) × (z ≡ pos p) × (p < 9223372036854775808)
place_number (pos p) h = (p, refl, grind (arith, nat_tests))
place_number (negsuc p) h = cc

pub place_small : (p : ℕ) (z : ℤ) → pos p ≡ z → is_place z ≡ true → p < 9223372036854775808
place_small p z e h = let here : is_place (pos p) ≡ true = ap is_place e ∙ h in grind (arith, nat_tests, here)

one_more : (p c : ℕ) (a s : ℤ) (d e : ℤ) → pos p ≡ a +ℤ d → e +ℤ (pos c *ℤ s) ≡ d +ℤ (pos (c + 1) *ℤ s) → pos p +ℤ s ≡ a +ℤ e
one_more p c a s d e h f =
    let more : pos (c + 1) *ℤ s ≡ (pos c *ℤ s) +ℤ s = ap (λ n. pos n *ℤ s) (add-one c) ∙ suc-mul c s in
    omega (arith, sums, h, f, more)

all_back : (p c : ℕ) (a s : ℤ) (d e : ℤ) → pos p ≡ a +ℤ d → e +ℤ (pos c *ℤ s) ≡ d +ℤ (pos 0 *ℤ s) → pos p -ℤ (pos c *ℤ s) ≡ a +ℤ e
all_back p c a s d e h f =
    let none : pos 0 *ℤ s ≡ pos 0 = zero-mul s in
    omega (arith, sums, h, f, none)

-- what an axis and those after it have gone
gone_more : (ss : List ℤ) (is : List ℕ) (k : ℕ) → k < length ss → length is ≡ length ss → displacement_of (drop k ss) (drop k is) ≡ (pos (get_or is k 0) *ℤ get_or ss k (pos 0)) +ℤ displacement_of (drop (k + 1) ss) (drop (k + 1) is)
gone_more [] is k h e = absurd (omega arith)
gone_more (s ∷ ss) [] k h e = absurd (omega arith)
gone_more (s ∷ ss) (i ∷ is) zero h e = refl
gone_more (s ∷ ss) (i ∷ is) (suc k) h e = let next : suc k + 1 ≡ suc (k + 1) = omega arith in rw next (gone_more ss is k (omega arith) (omega arith))

-- from whatever first place the index had its place, the next one has its own
pub from_any : (first other place next : ℕ) (ss : List ℤ) (old new : List ℕ) → pos place ≡ place_of first ss old → pos next ≡ place_of first ss new → pos place ≡ place_of other ss old → pos next ≡ place_of other ss new
from_any first other place next ss old new = by_sums first other place next (displacement_of ss old) (displacement_of ss new)
  where
    by_sums : (first other place next : ℕ) (d e : ℤ) → pos place ≡ pos first +ℤ d → pos next ≡ pos first +ℤ e → pos place ≡ pos other +ℤ d → pos next ≡ pos other +ℤ e
    by_sums first other place next d e p q r = omega (arith, sums, p, q, r)

module _ (first : ℕ) (ns : List ℕ) (ss : List ℤ) (old : List ℕ) (start : ℕ) where
  -- the axes from this one on have started again: to advance the axis before by one is to go on by one rank
  pub record IsSteppingBack (axis place : ℕ) (now : List ℕ) : Type 0 where
    pub within : axis ≤ length ns
    pub many : length now ≡ length ns
    pub inside : in_box ns now ≡ true
    pub rank : row_rank ns now + size_of (drop axis ns) ≡ row_rank ns old + 1
    pub lies : pos place ≡ place_of first ss now
    pub ends : (k : ℕ) → axis ≤ k → k < length ns → get_or old k 0 + 1 ≡ get_or ns k 0
    pub old_many : length old ≡ length ns
    pub before : (k : ℕ) → k < axis → get_or now k 0 ≡ get_or old k 0
    pub back : pos place ≡ pos start -ℤ displacement_of (drop axis ss) (drop axis old)

  pub stepping_none : length ss ≡ length ns → in_box ns old ≡ true → pos start ≡ place_of first ss old → IsSteppingBack (length ns) start old
  stepping_none many h e = record {
    within = omega arith;
    many = length-in_box ns old h;
    inside = h;
    rank = let none : drop (length ns) ns ≡ [] = drop_all (length ns) ns (omega arith) in rw none refl;
    lies = e;
    ends = λ k past under. absurd (omega (arith, past, under));
    old_many = length-in_box ns old h;
    before = λ k under. refl;
    back = let none : drop (length ns) ss ≡ [] = drop_all (length ns) ss (omega (arith, many)) in rw none (nothing start);
  }
    where
      nothing : (p : ℕ) → pos p ≡ pos p -ℤ pos 0
      nothing p = omega (arith, ints)

  module _ (as_many : length ss ≡ length ns) (reach : ReachesUsizes first ns ss) (axis k place : ℕ) (now : List ℕ) (next : axis ≡ k + 1) (so_far : IsSteppingBack axis place now) where
    on : k < length ns
    on = omega (arith, so_far.within, next)

    many : length now ≡ length ns
    many = so_far.many

    pub stepping_below : get_or now k 0 < get_or ns k 0
    stepping_below = coordinate_below ns now k so_far.inside on

    strided : k < length ss
    strided = omega (arith, on, as_many)

    later : size_of (drop axis ns) ≡ size_of (drop (k + 1) ns)
    later = ap (λ a. size_of (drop a ns)) next

    -- this axis isn't at its end: it advances
    pub advances_inside : get_or now k 0 + 1 < get_or ns k 0 → in_box ns (set now k (get_or now k 0 + 1)) ≡ true
    advances_inside below = in_box-set ns now k (get_or now k 0 + 1) so_far.inside below

    pub advances_rank : row_rank ns (set now k (get_or now k 0 + 1)) ≡ row_rank ns old + 1
    advances_rank = let moved = row_rank-set ns now k (get_or now k 0 + 1) on many in one_rank (row_rank ns (set now k (get_or now k 0 + 1))) (get_or now k 0) (size_of (drop (k + 1) ns)) (row_rank ns now) (row_rank ns old) moved (ap (λ s. row_rank ns now + s) (sym later) ∙ so_far.rank)
      where
        one_rank : (r c s q p : ℕ) → r + c * s ≡ q + (c + 1) * s → q + s ≡ p + 1 → r ≡ p + 1
        one_rank r c s q p h e = let more : (c + 1) * s ≡ c * s + s = grind arith in omega (arith, h, e, more)

    pub advances_lies : pos place +ℤ get_or ss k (pos 0) ≡ place_of first ss (set now k (get_or now k 0 + 1))
    advances_lies = one_more place (get_or now k 0) (pos first) (get_or ss k (pos 0)) (displacement_of ss now) (displacement_of ss (set now k (get_or now k 0 + 1))) so_far.lies (displacement_of-put ss now k (get_or now k 0 + 1) (many ∙ sym as_many) strided)

    pub advances_to : get_or now k 0 + 1 < get_or ns k 0 → is_usize (pos place +ℤ get_or ss k (pos 0)) ≡ true
    advances_to below = ap is_usize advances_lies ∙ reach (set now k (get_or now k 0 + 1)) (advances_inside below)

    -- the coordinate that it had at first
    begun : get_or now k 0 ≡ get_or old k 0
    begun = so_far.before k (omega (arith, next))

    old_many : length old ≡ length ns
    old_many = so_far.old_many

    -- the place goes on by its stride from where the axes after it began again
    pub advances_on : (q : ℕ) → get_or now k 0 + 1 < get_or ns k 0 → pos q ≡ pos place +ℤ get_or ss k (pos 0) → IsMovedOn ns ss old start q
    advances_on q below e = (
      k,
      (on, subst (λ c. c + 1 < get_or ns k 0) begun below, (λ j past under. so_far.ends j (omega (arith, past, next)) under)),
      e ∙ moved place start (get_or ss k (pos 0)) (displacement_of (drop axis ss) (drop axis old)) so_far.back ∙ ap (λ a. (pos start +ℤ get_or ss k (pos 0)) -ℤ displacement_of (drop a ss) (drop a old)) next,
    )
      where
        moved : (p q : ℕ) (s d : ℤ) → pos p ≡ pos q -ℤ d → pos p +ℤ s ≡ (pos q +ℤ s) -ℤ d
        moved p q s d h = omega (arith, sums, h)

    -- it is at its end: it starts again
    starts_inside : in_box ns (set now k 0) ≡ true
    starts_inside = in_box-set ns now k 0 so_far.inside (omega (arith, coordinate_below ns now k so_far.inside on))

    pub starts_lies : pos place -ℤ (pos (get_or now k 0) *ℤ get_or ss k (pos 0)) ≡ place_of first ss (set now k 0)
    starts_lies = all_back place (get_or now k 0) (pos first) (get_or ss k (pos 0)) (displacement_of ss now) (displacement_of ss (set now k 0)) so_far.lies (displacement_of-put ss now k 0 (many ∙ sym as_many) strided)

    pub starts_to : is_usize (pos place -ℤ (pos (get_or now k 0) *ℤ get_or ss k (pos 0))) ≡ true
    starts_to = ap is_usize starts_lies ∙ reach (set now k 0) starts_inside

    pub stepping_more : (q : ℕ) → (get_or now k 0 + 1 < get_or ns k 0 → ⊥) → pos q ≡ pos place -ℤ (pos (get_or now k 0) *ℤ get_or ss k (pos 0)) → IsSteppingBack k q (set now k 0)
    stepping_more q end e = record {
      within = omega (arith, on);
      many = length-in_box ns (set now k 0) starts_inside;
      inside = starts_inside;
      rank =
          let moved = row_rank-set ns now k 0 on many in
          let whole = size_of-drop ns k on in
          let below = coordinate_below ns now k so_far.inside on in
          back_rank (row_rank ns (set now k 0)) (get_or now k 0) (get_or ns k 0) (size_of (drop (k + 1) ns)) (size_of (drop k ns)) (row_rank ns now) (row_rank ns old) moved (ap (λ s. row_rank ns now + s) (sym later) ∙ so_far.rank) whole (omega (arith, below, end));
      lies = e ∙ starts_lies;
      ends = λ j past under. by_either j past under (stepping_below);
      before = λ j under. get_or-set_other now k j 0 0 (λ same. absurd (omega (arith, under, same))) ∙ so_far.before j (omega (arith, under, next));
      back =
          let more = gone_more ss old k strided (so_far.old_many ∙ sym as_many) in
          e ∙ gone place start (get_or now k 0) (get_or ss k (pos 0)) (displacement_of (drop axis ss) (drop axis old)) so_far.back
          ∙ ap (λ d. pos start -ℤ d) (ap (λ c. (pos c *ℤ get_or ss k (pos 0)) +ℤ displacement_of (drop axis ss) (drop axis old)) begun ∙ ap (λ a. (pos (get_or old k 0) *ℤ get_or ss k (pos 0)) +ℤ displacement_of (drop a ss) (drop a old)) next ∙ sym more);
      old_many = so_far.old_many;
    }
      where
        by_either : (j : ℕ) → k ≤ j → j < length ns → get_or now k 0 < get_or ns k 0 → get_or old j 0 + 1 ≡ get_or ns j 0
        by_either j past under below = by_order (eq-or-lt_of_le past)
          where
            by_order : (k ≡ j) ⊎ (k < j) → get_or old j 0 + 1 ≡ get_or ns j 0
            by_order (inl same) = let first_of : get_or old k 0 + 1 ≡ get_or ns k 0 = subst (λ c. c + 1 ≡ get_or ns k 0) begun (omega (arith, below, end)) in subst (λ i. get_or old i 0 + 1 ≡ get_or ns i 0) same first_of
            by_order (inr later) = so_far.ends j (omega (arith, later, next)) under

        gone : (p q c : ℕ) (s d : ℤ) → pos p ≡ pos q -ℤ d → pos p -ℤ (pos c *ℤ s) ≡ pos q -ℤ ((pos c *ℤ s) +ℤ d)
        gone p q c s d h = omega (arith, sums, h)

        back_rank : (r c n s w q p : ℕ) → r + c * s ≡ q + 0 * s → q + s ≡ p + 1 → w ≡ n * s → n ≡ c + 1 → r + w ≡ p + 1
        back_rank r c n s w q p h e whole is =
            let more : n * s ≡ c * s + s = ap (λ m. m * s) is ∙ grind arith in
            omega (arith, h, e, whole, more)

-- ---- the walk's start
take-replicate : (n m : ℕ) → n ≤ m → take {A = ℕ} n (replicate m 0) ≡ replicate n 0
take-replicate zero m h = refl
take-replicate (suc n) zero h = absurd (omega arith)
take-replicate (suc n) (suc m) h = ap (λ t. 0 ∷ t) (take-replicate n m (omega arith))

pub row_rank-origin : (ns : List ℕ) → row_rank ns (replicate (length ns) 0) ≡ 0
row_rank-origin [] = refl
row_rank-origin (n ∷ ns) = rw (row_rank-origin ns) (omega arith)

pub stands_first : (first : ℕ) (ns : List ℕ) (ss : List ℤ) (index : List ℕ) → length ns ≤ 32 → index ≡ replicate 32 0 → 0 < size_of ns → StandsAt first ns ss 0 first index
stands_first first ns ss index few zeros some =
    let start : take (length ns) index ≡ replicate (length ns) 0 = ap (take (length ns)) zeros ∙ take-replicate (length ns) 32 few in
    record {
      inside = rw start (origin_in_box ns some);
      ranked = rw start (row_rank-origin ns);
      lies = rw start (sym (ap (λ d. pos first +ℤ d) (displacement_of-origin ss (length ns)) ∙ nothing first));
    }
  where
    nothing : (p : ℕ) → pos p +ℤ pos 0 ≡ pos p
    nothing p = omega (arith, ints)

-- it has the place of its rank
pub stands_there : (first : ℕ) (ns : List ℕ) (ss : List ℤ) (rank place : ℕ) (index : List ℕ) → StandsAt first ns ss rank place index → pos place ≡ place_at_rank first ns ss rank
stands_there first ns ss rank place index at =
    at.lies ∙ ap (place_of first ss) (sym (index_at-row_rank ns (take (length ns) index) at.inside) ∙ ap (index_at ns) at.ranked)

pub index_there : (first : ℕ) (ns : List ℕ) (ss : List ℤ) (rank place : ℕ) (index : List ℕ) → StandsAt first ns ss rank place index → take (length ns) index ≡ index_at ns rank
index_there first ns ss rank place index at = sym (index_at-row_rank ns (take (length ns) index) at.inside) ∙ ap (index_at ns) at.ranked
