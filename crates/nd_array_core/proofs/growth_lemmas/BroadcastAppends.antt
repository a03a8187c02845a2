-- An array broadcast to come after another along an axis.
use Rattle.nd_array_core.proofs.NamesFromOtherCrates.{◌≡◌, ℕ, suc, ◌+◌, ◌-◌, ◌*◌, ◌<◌, ◌≤◌, ◌^◌, Bool, true, false, cond, eqb, ltb, ◌&&◌, ◌||◌, List, [], ◌∷◌, length, drop, get_or, set, refl, ap, sym, subst, ◌∙◌, arith, ⊎_elim, nat_lt, nat_le, and_parts, cases_eq, eq-eqb, eqb-true, lt-ltb, le-leb, or_right, drop_all, drop_more, length-set, set-set, set-get_or, get_or-set_same, size_of, HasCheckedSize, nonzero_product, axes_added, broadcasts, stretches, zero_factor, size_of-set, HasCheckedSize-set, Meaning, inside}
use Rattle.nd_array_core.specs.ConcatenationAndSplit.{broadcast_after, concatenated, concatenated_shape, appended_shape}
use Rattle.nd_array_core.specs.LayoutLaws.{NothingOutside}
use Rattle.nd_array_core.specs.growth.Append.{CanComeAfter, FitsAfter, IsAlikeOnOtherAxes, elements_after}
use Rattle.nd_array_core.proofs.law_lemmas.LayoutLaws.{same_meaning}
use Rattle.nd_array_core.proofs.law_lemmas.BroadcastToOwnShape.{itself_at}

-- ---- shapes that stretch
pub stretches_long : (ms to : List ℕ) → stretches ms to ≡ true → length ms ≡ length to
stretches_long [] [] h = refl
stretches_long [] (n ∷ to) h = absurd cc
stretches_long (m ∷ ms) [] h = absurd cc
stretches_long (m ∷ ms) (n ∷ to) h = ap suc (stretches_long ms to (and_parts (eqb m n || eqb m 1) (stretches ms to) h).1)

-- one axis more
pub stretched_more : (ms to : List ℕ) (k : ℕ) → k < length ms → length ms ≡ length to → stretches (drop k ms) (drop k to) ≡ ((eqb (get_or ms k 0) (get_or to k 0) || eqb (get_or ms k 0) 1) && stretches (drop (k + 1) ms) (drop (k + 1) to))
stretched_more ms to k below long = (λ i. stretches (drop_more ms k 0 below i) (drop_more to k 0 (omega (arith, below, long)) i))

pub fits_as_it_is : (m n : ℕ) → m ≡ n → (eqb m n || eqb m 1) ≡ true
fits_as_it_is m n same = ap (λ b. b || eqb m 1) (eq-eqb m n same)

pub fits_as_one : (m n : ℕ) → m ≡ 1 → (eqb m n || eqb m 1) ≡ true
fits_as_one m n one = or_right (eqb m n) (eqb m 1) (eq-eqb m 1 one)

pub stretched_next : (ms to : List ℕ) (k : ℕ) (all : Bool) → k < length ms → length ms ≡ length to → (eqb (get_or ms k 0) (get_or to k 0) || eqb (get_or ms k 0) 1) ≡ true
    → stretches (drop k ms) (drop k to) ≡ all → stretches (drop (k + 1) ms) (drop (k + 1) to) ≡ all
stretched_next ms to k all below long fits so_far = sym (stretched_more ms to k below long ∙ ap (λ b. b && stretches (drop (k + 1) ms) (drop (k + 1) to)) fits) ∙ so_far

pub not_stretched : (ms to : List ℕ) (k n : ℕ) → k < length ms → length ms ≡ length to → n ≡ get_or to k 0 → ¬ (get_or ms k 0 ≡ n) → ¬ (get_or ms k 0 ≡ 1) → stretches (drop k ms) (drop k to) ≡ true → ⊥
not_stretched ms to k n below long is apart above h = by_test (eqb m t) refl (and_parts (eqb m t || eqb m 1) (stretches (drop (k + 1) ms) (drop (k + 1) to)) (sym (stretched_more ms to k below long) ∙ h)).0
  where
    m : ℕ
    m = get_or ms k 0

    t : ℕ
    t = get_or to k 0

    by_test : (b : Bool) → eqb m t ≡ b → (b || eqb m 1) ≡ true → ⊥
    by_test true e fits = apart (eqb-true m t e ∙ sym is)
    by_test false e fits = above (eqb-true m 1 fits)

pub stretched_all : (ms to : List ℕ) (k : ℕ) → length ms ≤ k → length ms ≡ length to → stretches (drop k ms) (drop k to) ≡ stretches ms to → stretches ms to ≡ true
stretched_all ms to k all long so_far = sym so_far ∙ (λ i. stretches (drop_all k ms all i) (drop_all k to (omega (arith, all, long)) i))

-- a shape without elements stretches to none with any
stretched_none : (ms to : List ℕ) → stretches ms to ≡ true → size_of ms ≡ 0 → size_of to ≡ 0
stretched_none [] [] h none = none
stretched_none [] (n ∷ to) h none = absurd cc
stretched_none (m ∷ ms) [] h none = absurd cc
stretched_none (m ∷ ms) (n ∷ to) h none =
    let fit = and_parts (eqb m n || eqb m 1) (stretches ms to) h in
    ⊎_elim
    (λ (gone : m ≡ 0). by_first m n (size_of to) gone fit.0)
    (λ (there : m ≡ 0 → ⊥). let rest = stretched_none ms to fit.1 (zero_factor m (size_of ms) none there) in ap (λ s. n * s) rest ∙ omega arith)
    (cases_eq m 0)
  where
    by_first : (m n s : ℕ) → m ≡ 0 → (eqb m n || eqb m 1) ≡ true → n * s ≡ 0
    by_first m n s gone same = at (eqb m n) refl (eqb m 1) refl same
      where
        at : (b : Bool) → eqb m n ≡ b → (d : Bool) → eqb m 1 ≡ d → (b || d) ≡ true → n * s ≡ 0
        at true e d f h = let none : n ≡ 0 = sym (eqb-true m n e) ∙ gone in ap (λ k. k * s) none ∙ omega arith
        at false e true f h = absurd (let one = eqb-true m 1 f in omega (arith, one, gone))
        at false e false f h = absurd cc

-- ---- shapes that fit after one
module _ (ns ms : List ℕ) (a : ℕ) (on : a < length ns) where
  pub length_after : length (appended_shape ns ms a) ≡ length ns
  length_after = length-set ns a (get_or ms a 0)

  pub fits_on : FitsAfter ns ms a → a < length ms
  fits_on fits = let same = stretches_long ms (appended_shape ns ms a) fits.1 in let long = length_after in omega (arith, same, long, on)

  pub axis_after : get_or (appended_shape ns ms a) a 0 ≡ get_or ms a 0
  axis_after = get_or-set_same ns a (get_or ms a 0) 0 on

  pub size_after : size_of (appended_shape ns ms a) ≡ elements_after ns ms a
  size_after = size_of-set ns a (get_or ms a 0) on

  pub none_after : FitsAfter ns ms a → size_of ms ≡ 0 → elements_after ns ms a ≡ 0
  none_after fits none = sym size_after ∙ stretched_none ms (appended_shape ns ms a) fits.1 none

  -- it is alike on the other axes once it is broadcast
  pub alike_after : (vs : List ℕ) → FitsAfter ns ms a → vs ≡ appended_shape ns ms a → IsAlikeOnOtherAxes ns vs a
  alike_after vs fits is = (
    fits.0,
    ap (λ s. set s a (get_or ns a 0)) is ∙ (set-set ns a (get_or ms a 0) (get_or ns a 0) ∙ set-get_or ns a 0),
  )

  checked_after : HasCheckedSize (concatenated_shape ns ms a) → HasCheckedSize (appended_shape ns ms a)
  checked_after checked =
      let whole = concatenated_shape ns ms a in
      let long : length whole ≡ length ns = length-set ns a (get_or ns a 0 + get_or ms a 0) in
      let here : get_or whole a 0 ≡ get_or ns a 0 + get_or ms a 0 = get_or-set_same ns a (get_or ns a 0 + get_or ms a 0) 0 on in
      subst HasCheckedSize (set-set ns a (get_or ns a 0 + get_or ms a 0) (get_or ms a 0))
      (HasCheckedSize-set whole a (get_or ms a 0) (omega (arith, on, long)) (omega (arith, here)) checked)

  pub broadcasts_after : (to : List ℕ) → to ≡ appended_shape ns ms a → CanComeAfter ns ms a → broadcasts ms to ≡ true
  broadcasts_after to is comes =
      let at = appended_shape ns ms a in
      let long = stretches_long ms at comes.0.1 in
      let checked = checked_after comes.1 in
      let small : nat_lt (nonzero_product at) (2 ^ 63) ≡ true = lt-ltb (nonzero_product at) (2 ^ 63) checked in
      let few : nat_le (length ms) (length at) ≡ true = le-leb (length ms) (length at) (omega (arith, long)) in
      let none : axes_added ms at ≡ 0 = omega (arith, long) in
      ap (broadcasts ms) is ∙ rw (small, few, none) comes.0.1

-- the lengths of the axis that have come don't matter
pub fits_grown : (ns ms : List ℕ) (a x : ℕ) → FitsAfter ns ms a → FitsAfter (set ns a x) ms a
fits_grown ns ms a x fits =
    let long = length-set ns a x in
    let some = fits.0 in
    (omega (arith, long, some), subst (λ s. stretches ms s ≡ true) (sym (set-set ns a x (get_or ms a 0))) fits.1)

pub fits_ungrown : (ns ms : List ℕ) (a x : ℕ) → FitsAfter (set ns a x) ms a → FitsAfter ns ms a
fits_ungrown ns ms a x fits =
    let long = length-set ns a x in
    let some = fits.0 in
    (omega (arith, long, some), subst (λ s. stretches ms s ≡ true) (set-set ns a x (get_or ms a 0)) fits.1)

-- ---- what comes after
module _ {A : Type 0} where
  -- one array after another, by what of it comes after
  abbrev pub with_after : ℕ → Meaning A → ℕ → Meaning A → Meaning A
  with_after a m k w = record {
    shape = set m.shape a (get_or m.shape a 0 + k);
    at = λ i. inside (set m.shape a (get_or m.shape a 0 + k)) i (cond (ltb (get_or i a 0) (get_or m.shape a 0)) (m.at i) (w.at (set i a (get_or i a 0 - get_or m.shape a 0))));
  }

  -- one that is alike on the other axes
  pub after_itself : (a : ℕ) (m n : Meaning A) → IsAlikeOnOtherAxes m.shape n.shape a → NothingOutside n → broadcast_after a m n ≡ n
  after_itself a m n alike nothing =
      same_meaning n (appended_shape m.shape n.shape a) (broadcast_after a m n).at own (itself_at n (appended_shape m.shape n.shape a) nothing own)
    where
      own : appended_shape m.shape n.shape a ≡ n.shape
      own =
          ap (λ l. set l a (get_or n.shape a 0)) (sym alike.1)
          ∙ (set-set n.shape a (get_or m.shape a 0) (get_or n.shape a 0) ∙ set-get_or n.shape a 0)

  pub with_itself : (a : ℕ) (m n : Meaning A) → IsAlikeOnOtherAxes m.shape n.shape a → NothingOutside n → concatenated a m n ≡ with_after a m (get_or n.shape a 0) n
  with_itself a m n alike nothing = ap (with_after a m (get_or n.shape a 0)) (after_itself a m n alike nothing)

  nothing_after : (a : ℕ) (m n : Meaning A) → NothingOutside (broadcast_after a m n)
  nothing_after a m n i outside = rw outside refl

  -- one that was broadcast already
  pub joined_after : (a : ℕ) (m n v : Meaning A) → a < length m.shape → FitsAfter m.shape n.shape a → v ≡ broadcast_after a m n → concatenated a m v ≡ concatenated a m n
  joined_after a m n v on fits is =
      let long : get_or v.shape a 0 ≡ get_or n.shape a 0 = ap (λ x. get_or x.shape a 0) is ∙ axis_after m.shape n.shape a on in
      let alike = alike_after m.shape n.shape a on v.shape fits (ap (λ x. x.shape) is) in
      let nothing : NothingOutside v = subst NothingOutside (sym is) (nothing_after a m n) in
      let seen : broadcast_after a m v ≡ broadcast_after a m n = after_itself a m v alike nothing ∙ is in
      (λ i. with_after a m (long i) (seen i))
