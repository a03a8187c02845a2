-- Axes joined, from the last to the first.
use Rattle.nd_layout.proofs.NamesFromOtherCrates.{◌≡◌, ℕ, zero, suc, ◌+◌, ◌-◌, ◌*◌, ◌/◌, ◌%◌, ◌<◌, ◌≤◌, true, false, List, [], ◌∷◌, length, drop, get_or, set, inl, inr, ⊎_elim, refl, ap, sym, ◌∙◌, subst, arith, ℤ, pos, ◌+ℤ◌, ◌*ℤ◌, nat_abs, mul_assoc, mul_comm, div-div-eq-div-mul, div-eq_of_lt, mod-eq_of_lt, mod-mul, div-mul-add, mod-mul-add, mod_below, div-add-mod', cases_eq, false≢true, drop_more, drop-set, drop-set-lt, length-set, get_or-set_same, get_or-set_other, size_of, index_at, row_rank, HasCheckedSize, displacement_of, place_of, span_of, positive-cons, row_rank_below, size_of-drop-le, nonzero_product-size_of, in_box-index_at, index_at-row_rank, row_rank-index_at}
use Rattle.nd_layout.specs.ValidMemoryPlaces.{is_place, ReachesPlaces}
use Rattle.nd_layout.specs.RowMajorWalk.{place_at_rank, IsRejoined, IsJoint, IsRearranged}
use Rattle.nd_layout.proofs.Integers.{sums, zero-mul, add-mul, mul-mul, abs-mul}

pub rejoined_itself : (ns : List ℕ) (ss : List ℤ) → IsRejoined ns ss ns ss
rejoined_itself ns ss = record { size = refl; same = λ r h. refl; span = refl }

pub rejoined_again : (ns : List ℕ) (ss : List ℤ) (ms : List ℕ) (ts : List ℤ) (ls : List ℕ) (us : List ℤ) → IsRejoined ns ss ms ts → IsRejoined ms ts ls us → IsRejoined ns ss ls us
rejoined_again ns ss ms ts ls us a b = record {
  size = b.size ∙ a.size;
  same = λ r h. b.same r (omega (arith, h, a.size)) ∙ a.same r h;
  span = b.span ∙ a.span;
}

-- after one more axis
pub rejoined_cons : (n : ℕ) (s : ℤ) (ns : List ℕ) (ss : List ℤ) (ms : List ℕ) (ts : List ℤ) → IsRejoined ns ss ms ts → IsRejoined (n ∷ ns) (s ∷ ss) (n ∷ ms) (s ∷ ts)
rejoined_cons n s ns ss ms ts a = record {
  size = ap (λ k. n * k) a.size;
  same = λ r h.
      let some : 0 < size_of ns = (positive-cons n ns (omega (arith, h))).1 in
      rw a.size (ap (λ z. (pos (r / size_of ns) *ℤ s) +ℤ z) (a.same (r % size_of ns) (mod_below r (size_of ns) some)));
  span = ap (λ k. (n - 1) * nat_abs s + k) a.span;
}

-- an axis of length 1 put in front
pub rejoined_one : (t : ℤ) (ns : List ℕ) (ss : List ℤ) → IsRejoined ns ss (1 ∷ ns) (t ∷ ss)
rejoined_one t ns ss = record {
  size = omega arith;
  same = λ r h.
      let q = div-eq_of_lt h in
      let d = mod-eq_of_lt h in
      rw (q, d) (nothing t (displacement_of ss (index_at ns r)));
  span = omega arith;
}
  where
    nothing : (t z : ℤ) → (pos 0 *ℤ t) +ℤ z ≡ z
    nothing t z = let none = zero-mul t in omega (arith, sums, none)

pub rejoined_back : (ns : List ℕ) (ss : List ℤ) (ms : List ℕ) (ts : List ℤ) → IsRejoined ns ss ms ts → IsRejoined ms ts ns ss
rejoined_back ns ss ms ts a = record {
  size = sym a.size;
  same = λ r h. sym (a.same r (omega (arith, h, a.size)));
  span = sym a.span;
}

-- two axes of which the second goes on where the first's step ends
pub rejoined_glued : (n m : ℕ) (t : ℤ) (ns : List ℕ) (ss : List ℤ) → 0 < size_of (n ∷ m ∷ ns) → IsRejoined (n ∷ m ∷ ns) ((pos m *ℤ t) ∷ t ∷ ss) (n * m ∷ ns) (t ∷ ss)
rejoined_glued n m t ns ss some =
    let outer = positive-cons n (m ∷ ns) some in
    let inner = positive-cons m ns outer.1 in
    record {
      size = mul_assoc n m (size_of ns);
      same = λ r h.
          let c = size_of ns in
          let q : r / (m * c) ≡ r / c / m = ap (λ k. r / k) (mul_comm m c) ∙ sym (div-div-eq-div-mul r c m) in
          let d : r % (m * c) ≡ r / c % m * c + r % c = mod-mul r inner.0 inner.1 in
          let low = mod_below r c inner.1 in
          let head : r % (m * c) / c ≡ r / c % m = ap (λ k. k / c) d ∙ div-mul-add (r / c % m) c (r % c) low in
          let tail : r % (m * c) % c ≡ r % c = ap (λ k. k % c) d ∙ mod-mul-add (r / c % m) c (r % c) low in
          let whole : r / c ≡ r / c / m * m + r / c % m = sym (div-add-mod' (r / c) m) in
          let product = mul-mul (r / c / m) m t in
          let parts : pos (r / c) *ℤ t ≡ (pos (r / c / m * m) *ℤ t) +ℤ (pos (r / c % m) *ℤ t) = ap (λ k. pos k *ℤ t) whole ∙ add-mul (r / c / m * m) (r / c % m) t in
          rw (head, tail, q) (omega (arith, sums, product, parts));
      span = reaches n m (nat_abs t) (nat_abs (pos m *ℤ t)) (span_of ns ss) outer.0 inner.0 (abs-mul m t);
    }
  where
    reaches : (n m a b s : ℕ) → 0 < n → 0 < m → b ≡ m * a → (n * m - 1) * a + s ≡ (n - 1) * b + ((m - 1) * a + s)
    reaches zero m a b s h k e = absurd (omega (arith, h))
    reaches (suc n) zero a b s h k e = absurd (omega (arith, k))
    reaches (suc n) (suc m) a b s h k e =
        let first : suc n * suc m - 1 ≡ n * suc m + m = grind arith in
        let less : suc n - 1 ≡ n = omega arith in
        let fewer : suc m - 1 ≡ m = omega arith in
        rw (first, less, fewer, e) (grind arith)

-- ---- a joint
pub joint_kept : (s : ℤ) (at m : ℕ) (t : ℤ) → IsJoint 1 s at m t at m t
joint_kept s at m t = inl (refl, λ ns ss some. rejoined_back (m ∷ ns) (t ∷ ss) (1 ∷ m ∷ ns) (s ∷ t ∷ ss) (rejoined_one s (m ∷ ns) (t ∷ ss)))

pub joint_taken : (n : ℕ) (s : ℤ) (at : ℕ) (t : ℤ) → IsJoint n s at 1 t at n s
joint_taken n s at t = inl (refl, λ ns ss some. rejoined_cons n s (1 ∷ ns) (t ∷ ss) ns ss (rejoined_back ns ss (1 ∷ ns) (t ∷ ss) (rejoined_one t ns ss)))

pub joint_glued : (n : ℕ) (s : ℤ) (at m : ℕ) (t : ℤ) → s ≡ pos m *ℤ t → IsJoint n s at m t at (n * m) t
joint_glued n s at m t e = inl (refl, λ ns ss some. rw e (rejoined_glued n m t ns ss some))

-- axes of length 1 in front change nothing
pub ones_in_front : (at : ℕ) (ms : List ℕ) (ts : List ℤ) → length ts ≡ length ms → at < length ms → ((k : ℕ) → k < at → get_or ms k 0 ≡ 1) → IsRejoined (drop at ms) (drop at ts) ms ts
ones_in_front zero ms ts e on ones = rejoined_itself ms ts
ones_in_front (suc at) [] ts e on ones = absurd (omega (arith, on))
ones_in_front (suc at) (m ∷ ms) [] e on ones = absurd (omega (arith, e))
ones_in_front (suc at) (m ∷ ms) (t ∷ ts) e on ones =
    let first : m ≡ 1 = ones 0 (omega arith) in
    rw first (rejoined_again (drop at ms) (drop at ts) ms ts (1 ∷ ms) (t ∷ ts) (ones_in_front at ms ts (omega (arith, e)) (omega (arith, on)) (λ k h. ones (suc k) (omega (arith, h)))) (rejoined_one t ms ts))

-- ---- the loop: the axes from this one on are joined, and stand from `at` on; between both are axes of length 1
module _ (ns : List ℕ) (ss : List ℤ) where
  pub record IsJoinedFrom (axis at : ℕ) (ms : List ℕ) (ts : List ℤ) : Type 0 where
    pub on : at < length ns
    pub within : axis ≤ at
    pub many : length ms ≡ length ns
    pub many_strides : length ts ≡ length ns
    pub before : (k : ℕ) → k < axis → (get_or ms k 0 ≡ get_or ns k 0) × (get_or ts k (pos 0) ≡ get_or ss k (pos 0))
    pub later : IsRejoined (drop axis ns) (drop axis ss) (drop at ms) (drop at ts)
    pub ones : (k : ℕ) → axis ≤ k → k < at → get_or ms k 0 ≡ 1

  module _ (many_ss : length ss ≡ length ns) (some : 0 < size_of ns) (axis k at : ℕ) (ms : List ℕ) (ts : List ℤ) (next : axis ≡ k + 1) (so_far : IsJoinedFrom axis at ms ts) where
    at_ms : drop at ms ≡ get_or ms at 0 ∷ drop (at + 1) ms
    at_ms = drop_more ms at 0 (omega (arith, so_far.on, so_far.many))

    at_ts : drop at ts ≡ get_or ts at (pos 0) ∷ drop (at + 1) ts
    at_ts = drop_more ts at (pos 0) (omega (arith, so_far.on, so_far.many_strides))

    here : (get_or ms k 0 ≡ get_or ns k 0) × (get_or ts k (pos 0) ≡ get_or ss k (pos 0))
    here = so_far.before k (omega (arith, next))

    -- this axis, and what the later ones are by now
    pub one_before : IsRejoined (drop k ns) (drop k ss) (get_or ms k 0 ∷ drop at ms) (get_or ts k (pos 0) ∷ drop at ts)
    one_before =
        let n : drop k ns ≡ get_or ns k 0 ∷ drop (k + 1) ns = drop_more ns k 0 (omega (arith, so_far.on, so_far.within, next)) in
        let s : drop k ss ≡ get_or ss k (pos 0) ∷ drop (k + 1) ss = drop_more ss k (pos 0) (omega (arith, so_far.on, so_far.within, next, many_ss)) in
        let later : IsRejoined (drop (k + 1) ns) (drop (k + 1) ss) (drop at ms) (drop at ts) = subst (λ a. IsRejoined (drop a ns) (drop a ss) (drop at ms) (drop at ts)) next so_far.later in
        rw (n, s, here.0, here.1) (rejoined_cons (get_or ns k 0) (get_or ss k (pos 0)) (drop (k + 1) ns) (drop (k + 1) ss) (drop at ms) (drop at ts) later)

    size_here : size_of (get_or ms k 0 ∷ drop at ms) ≤ size_of ns
    size_here = let le = size_of-drop-le ns k some in omega (arith, le, one_before.size)

    some_here : 0 < size_of (get_or ms k 0 ∷ drop at ms)
    some_here = let more = positive_drop ns k some in omega (arith, more, one_before.size)
      where
        positive_drop : (ns : List ℕ) (k : ℕ) → 0 < size_of ns → 0 < size_of (drop k ns)
        positive_drop ns zero h = h
        positive_drop [] (suc k) h = h
        positive_drop (n ∷ ns) (suc k) h = positive_drop ns k (positive-cons n ns h).1

    -- the product of both lengths
    pub joint_fits : get_or ms k 0 * get_or ms at 0 ≤ size_of ns
    joint_fits = fits_in (get_or ms k 0) (get_or ms at 0) (size_of (drop (at + 1) ms)) (rw at_ms at size_here) (rw at_ms at some_here)
      where
        fits_in : (n m c : ℕ) → n * (m * c) ≤ size_of ns → 0 < n * (m * c) → n * m ≤ size_of ns
        fits_in n m zero h p = absurd (let none : n * (m * 0) ≡ 0 = grind arith in omega (arith, none, p))
        fits_in n m (suc c) h p =
            let parts : n * (m * suc c) ≡ n * m * c + n * m = grind arith in
            omega (arith, parts, h)

    pub later_fits : get_or ms at 0 ≤ size_of ns
    later_fits = fits_in (get_or ms k 0) (get_or ms at 0) (size_of (drop (at + 1) ms)) (rw at_ms at size_here) (rw at_ms at some_here)
      where
        fits_in : (n m c : ℕ) → n * (m * c) ≤ size_of ns → 0 < n * (m * c) → m ≤ size_of ns
        fits_in zero m c h p = absurd (omega (arith, p))
        fits_in (suc n) m zero h p = absurd (let none : suc n * (m * 0) ≡ 0 = grind arith in omega (arith, none, p))
        fits_in (suc n) m (suc c) h p =
            let parts : suc n * (m * suc c) ≡ n * (m * suc c) + (m * c + m) = grind arith in
            omega (arith, parts, h)

    module _ (new_at len : ℕ) (stride : ℤ) where
      abbrev pub new_ms : List ℕ
      new_ms = set (set ms k 1) new_at len

      abbrev pub new_ts : List ℤ
      new_ts = set ts new_at stride

      built : k ≤ new_at → new_at ≤ at → IsRejoined (drop k ns) (drop k ss) (len ∷ drop (new_at + 1) ms) (stride ∷ drop (new_at + 1) ts) → IsJoinedFrom k new_at new_ms new_ts
      built from upto joined =
          let first_long = length-set ms k 1 in
          let ms_long : length new_ms ≡ length ms = length-set (set ms k 1) new_at len ∙ first_long in
          let ts_long : length new_ts ≡ length ts = length-set ts new_at stride in
          let there : drop new_at new_ms ≡ len ∷ drop (new_at + 1) ms = drop-set (set ms k 1) new_at len (omega (arith, upto, so_far.on, so_far.many, first_long)) ∙ ap (λ l. len ∷ l) (drop-set-lt (new_at + 1) ms k 1 (omega (arith, from))) in
          let step : drop new_at new_ts ≡ stride ∷ drop (new_at + 1) ts = drop-set ts new_at stride (omega (arith, upto, so_far.on, so_far.many_strides)) in
          record {
            on = omega (arith, upto, so_far.on);
            within = from;
            many = ms_long ∙ so_far.many;
            many_strides = ts_long ∙ so_far.many_strides;
            before = λ i h. (
              get_or-set_other (set ms k 1) new_at i len 0 (omega (arith, h, from)) ∙ (get_or-set_other ms k i 1 0 (omega (arith, h)) ∙ (so_far.before i (omega (arith, h, next))).0),
              get_or-set_other ts new_at i stride (pos 0) (omega (arith, h, from)) ∙ (so_far.before i (omega (arith, h, next))).1,
            );
            later = rw (there, step) joined;
            ones = λ i low high. get_or-set_other (set ms k 1) new_at i len 0 (omega (arith, high)) ∙ one_at i low high upto;
          }
        where
          one_at : (i : ℕ) → k ≤ i → i < new_at → new_at ≤ at → get_or (set ms k 1) i 0 ≡ 1
          one_at i low high upto = ⊎_elim
              (λ (e : i ≡ k). ap (λ j. get_or (set ms k 1) j 0) e ∙ get_or-set_same ms k 1 0 (omega (arith, low, high, upto, so_far.on, so_far.many)))
              (λ (other : i ≡ k → ⊥). get_or-set_other ms k i 1 0 other ∙ so_far.ones i (omega (arith, low, other, next)) (omega (arith, high, upto)))
              (cases_eq i k)

      pub joined_more : IsJoint (get_or ms k 0) (get_or ts k (pos 0)) at (get_or ms at 0) (get_or ts at (pos 0)) new_at len stride → IsJoinedFrom k new_at new_ms new_ts
      joined_more (inl (e, glue)) =
          let whole = rw (at_ms, at_ts) at one_before in
          let glued = rejoined_again (drop k ns) (drop k ss) (get_or ms k 0 ∷ get_or ms at 0 ∷ drop (at + 1) ms) (get_or ts k (pos 0) ∷ get_or ts at (pos 0) ∷ drop (at + 1) ts) (len ∷ drop (at + 1) ms) (stride ∷ drop (at + 1) ts) whole (glue (drop (at + 1) ms) (drop (at + 1) ts) (rw at_ms at some_here)) in
          built (omega (arith, e, so_far.within, next)) (omega (arith, e)) (subst (λ a. IsRejoined (drop k ns) (drop k ss) (len ∷ drop (a + 1) ms) (stride ∷ drop (a + 1) ts)) (sym e) glued)
      joined_more (inr own) =
          let whole = subst (λ a. IsRejoined (drop k ns) (drop k ss) (get_or ms k 0 ∷ drop a ms) (get_or ts k (pos 0) ∷ drop a ts)) (sym own.0) one_before in
          built (omega (arith, own.0, so_far.within, next)) (omega (arith, own.0)) (rw (own.1, own.2) whole)

  pub joined_all : (at : ℕ) (ms : List ℕ) (ts : List ℤ) → IsJoinedFrom 0 at ms ts → IsRejoined ns ss ms ts
  joined_all at ms ts all =
      rejoined_again ns ss (drop at ms) (drop at ts) ms ts all.later (ones_in_front at ms ts (omega (arith, all.many, all.many_strides)) (omega (arith, all.on, all.many)) (λ k h. all.ones k (omega arith) h))

-- ---- what it leaves of a layout
module _ (offset : ℕ) (ns : List ℕ) (ss : List ℤ) (ms : List ℕ) (ts : List ℤ) (joined : IsRejoined ns ss ms ts) where
  pub joined_rank : (r : ℕ) → r < size_of ms → place_at_rank offset ms ts r ≡ place_at_rank offset ns ss r
  joined_rank r h = ap (λ d. pos offset +ℤ d) (joined.same r (omega (arith, h, joined.size)))

  pub joined_reach : ReachesPlaces offset ns ss → ReachesPlaces offset ms ts
  joined_reach reach i h =
      let r = row_rank ms i in
      let below = row_rank_below ms i h in
      let same : place_of offset ts i ≡ place_at_rank offset ns ss r = ap (place_of offset ts) (sym (index_at-row_rank ms i h)) ∙ joined_rank r below in
      ap is_place same ∙ reach (index_at ns r) (in_box-index_at ns r (omega (arith, below, joined.size)))

  pub joined_checked : 0 < size_of ns → HasCheckedSize ns → HasCheckedSize ms
  joined_checked some checked =
      let whole = nonzero_product-size_of ms (omega (arith, some, joined.size)) in
      let limit = nonzero_product-size_of ns some in
      omega (arith, whole, limit, joined.size, checked)

  pub joined_order : IsRearranged offset ns ss offset ms ts
  joined_order = record {
    index_of = index_at ns;
    rank_of = row_rank ns;
    within = λ r h. in_box-index_at ns r (omega (arith, h, joined.size));
    below = λ i h. let below = row_rank_below ns i h in omega (arith, below, joined.size);
    there = λ r h. row_rank-index_at ns r (omega (arith, h, joined.size));
    back = λ i h. index_at-row_rank ns i h;
    same = λ r h. joined_rank r h;
  }

pub some_size : (n : ℕ) → (n ≡ 0 → false ≡ true) → 0 < n
some_size zero h = absurd (false≢true (h refl))
some_size (suc n) h = omega arith
