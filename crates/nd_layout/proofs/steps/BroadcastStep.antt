-- A broadcast shows the same places: grown and new axes have stride 0, and lead nowhere.
use Rattle.nd_layout.proofs.NamesFromOtherCrates.{◌≡◌, ℕ, zero, suc, ◌+◌, ◌-◌, ◌*◌, ◌<◌, ◌≤◌, Bool, true, false, eqb, ltb, leb, cond, ◌&&◌, ◌||◌, List, [], ◌∷◌, ◌++◌, length, drop, replicate, get_or, ℤ, pos, ◌+ℤ◌, ◌*ℤ◌, nat_abs, refl, ap, sym, ◌∙◌, arith, +ℤ_idl, and_parts, and_from, lt-ltb, ltb-true, leb-true, get_or-drop, get_or-append_right, length-replicate, length-append, length-drop, nat_tests, in_box, nonzero_product, HasCheckedSize, displacement_of, span_of, length-in_box, axes_added, stretches, broadcasts, stretched_index, broadcast_index, in_box-drop}
use Rattle.nd_layout.proofs.Integers.{zero-mul}
use Rattle.nd_layout.specs.ValidLayoutsAndSteps.{IsValid, IsViewStep}
use Rattle.nd_layout.specs.StridesAfterLayoutCalls.{stretched_strides, broadcast_strides}
use Rattle.nd_layout.proofs.steps.StepsKeepValidLayouts.{seen_reaches}

-- ---- one axis: it has the length asked for, or it is 1
one_axis : (P : Bool → Type 0) (n m : ℕ) → (eqb n m || eqb n 1) ≡ true → (n ≡ m → P true) → (n ≡ 1 → P false) → P (eqb n m)
one_axis P n m h same one = at (eqb n m) refl
  where
    at : (b : Bool) → eqb n m ≡ b → P b
    at true e = same (grind (arith, nat_tests))
    at false e = one (grind (arith, nat_tests))

-- ---- axes side by side
pub ungrown_within : (ns ms is : List ℕ) → stretches ns ms ≡ true → in_box ms is ≡ true → in_box ns (stretched_index ns ms is) ≡ true
ungrown_within [] [] is h k = refl
ungrown_within [] (m ∷ ms) is h k = cc
ungrown_within (n ∷ ns) [] is h k = cc
ungrown_within (n ∷ ns) (m ∷ ms) [] h k = cc
ungrown_within (n ∷ ns) (m ∷ ms) (i ∷ is) h k =
    let fit = and_parts (eqb n m || eqb n 1) (stretches ns ms) h in
    let below = and_parts (ltb i m) (in_box ms is) k in
    let lt = ltb-true i m below.0 in
    and_from (ltb (cond (eqb n m) i 0) n) (in_box ns (stretched_index ns ms is))
    (one_axis (λ b. ltb (cond b i 0) n ≡ true) n m fit.0 (λ e. lt-ltb i n (omega arith)) (λ e. lt-ltb 0 n (omega arith)))
    (ungrown_within ns ms is fit.1 below.1)

grown_term : (b : Bool) (i : ℕ) (s : ℤ) → pos i *ℤ cond b s (pos 0) ≡ pos (cond b i 0) *ℤ s
grown_term true i s = refl
grown_term false i s = times_zero i ∙ sym (zero-mul s)
  where
    times_zero : (i : ℕ) → pos i *ℤ pos 0 ≡ pos 0
    times_zero i = ap pos (omega arith)

pub displacement_of-grown : (ns ms is : List ℕ) (ss : List ℤ) → length ss ≡ length ns → stretches ns ms ≡ true → in_box ms is ≡ true → displacement_of (stretched_strides ns ss ms) is ≡ displacement_of ss (stretched_index ns ms is)
displacement_of-grown [] ms is [] e h k = refl
displacement_of-grown [] ms is (s ∷ ss) e h k = absurd (omega arith)
displacement_of-grown (n ∷ ns) ms is [] e h k = absurd (omega arith)
displacement_of-grown (n ∷ ns) [] is (s ∷ ss) e h k = cc
displacement_of-grown (n ∷ ns) (m ∷ ms) [] (s ∷ ss) e h k = cc
displacement_of-grown (n ∷ ns) (m ∷ ms) (i ∷ is) (s ∷ ss) e h k =
    let fit = and_parts (eqb n m || eqb n 1) (stretches ns ms) h in
    let below = and_parts (ltb i m) (in_box ms is) k in
    let rest = displacement_of-grown ns ms is ss (omega arith) fit.1 below.1 in
    rw (grown_term (eqb n m) i s, rest) refl

pub span_of-grown : (ns ms : List ℕ) (ss : List ℤ) → span_of ms (stretched_strides ns ss ms) ≤ span_of ns ss
span_of-grown [] [] ss = omega arith
span_of-grown [] (m ∷ ms) ss = omega arith
span_of-grown (n ∷ ns) [] [] = omega arith
span_of-grown (n ∷ ns) [] (s ∷ ss) = omega arith
span_of-grown (n ∷ ns) (m ∷ ms) [] = omega arith
span_of-grown (n ∷ ns) (m ∷ ms) (s ∷ ss) = at (eqb n m) refl (span_of-grown ns ms ss)
  where
    at : (b : Bool) → eqb n m ≡ b → span_of ms (stretched_strides ns ss ms) ≤ span_of ns ss → (m - 1) * nat_abs (cond b s (pos 0)) + span_of ms (stretched_strides ns ss ms) ≤ (n - 1) * nat_abs s + span_of ns ss
    at true e rest = let is : n ≡ m = grind (arith, nat_tests) in rw is (omega (arith, rest))
    at false e rest = omega (arith, rest)

pub length-grown : (ns ms : List ℕ) (ss : List ℤ) → length ss ≡ length ns → length ms ≡ length ns → length (stretched_strides ns ss ms) ≡ length ns
length-grown [] ms ss e h = refl
length-grown (n ∷ ns) ms [] e h = absurd (omega arith)
length-grown (n ∷ ns) [] (s ∷ ss) e h = absurd (omega arith)
length-grown (n ∷ ns) (m ∷ ms) (s ∷ ss) e h = ap suc (length-grown ns ms ss (omega arith) (omega arith))

-- ---- new axes in front
pub displacement_of-added : (k : ℕ) (ts : List ℤ) (is : List ℕ) → k ≤ length is → displacement_of (replicate k (pos 0) ++ ts) is ≡ displacement_of ts (drop k is)
displacement_of-added zero ts is h = refl
displacement_of-added (suc k) ts [] h = absurd (omega arith)
displacement_of-added (suc k) ts (i ∷ is) h = ap (λ z. (pos i *ℤ pos 0) +ℤ z) (displacement_of-added k ts is (omega arith)) ∙ (ap (λ z. z +ℤ displacement_of ts (drop k is)) none ∙ +ℤ_idl (displacement_of ts (drop k is)))
  where
    none : pos i *ℤ pos 0 ≡ pos 0
    none = ap pos (omega arith)

pub span_of-added : (k : ℕ) (ts : List ℤ) (ms : List ℕ) → span_of ms (replicate k (pos 0) ++ ts) ≡ span_of (drop k ms) ts
span_of-added zero ts ms = refl
span_of-added (suc k) ts [] = refl
span_of-added (suc k) ts (m ∷ ms) = omega (arith, span_of-added k ts ms)

-- ---- the strides, one by one
grown_at : (ns ms : List ℕ) (ss : List ℤ) (j : ℕ) → length ss ≡ length ns → length ms ≡ length ns → j < length ns → get_or (stretched_strides ns ss ms) j (pos 0) ≡ cond (eqb (get_or ns j 0) (get_or ms j 0)) (get_or ss j (pos 0)) (pos 0)
grown_at [] ms ss j e h on = absurd (omega arith)
grown_at (n ∷ ns) ms [] j e h on = absurd (omega arith)
grown_at (n ∷ ns) [] (s ∷ ss) j e h on = absurd (omega arith)
grown_at (n ∷ ns) (m ∷ ms) (s ∷ ss) zero e h on = refl
grown_at (n ∷ ns) (m ∷ ms) (s ∷ ss) (suc j) e h on = grown_at ns ms ss j (omega arith) (omega arith) (omega arith)

module _ (ns ms : List ℕ) (ss : List ℤ) where
  module _ (many : length ss ≡ length ns) (more : length ns ≤ length ms) where
    aligned : length (drop (axes_added ns ms) ms) ≡ length ns
    aligned = let e = length-drop (axes_added ns ms) ms in omega (arith, e, more)

    pub stride_old : (j : ℕ) → axes_added ns ms ≤ j → j < length ms → get_or (broadcast_strides ns ss ms) j (pos 0) ≡ cond (eqb (get_or ns (j - axes_added ns ms) 0) (get_or ms j 0)) (get_or ss (j - axes_added ns ms) (pos 0)) (pos 0)
    stride_old j old on =
        let k = axes_added ns ms in
        let back : k + (j - k) ≡ j = omega (arith, old) in
        get_or-append_right (replicate k (pos 0)) (stretched_strides ns ss (drop k ms)) k j (pos 0) (length-replicate k (pos 0)) old
        ∙ (grown_at ns (drop k ms) ss (j - k) many aligned (omega (arith, old, on, more))
        ∙ ap (λ m. cond (eqb (get_or ns (j - k) 0) m) (get_or ss (j - k) (pos 0)) (pos 0)) (get_or-drop k ms (j - k) 0 ∙ ap (λ a. get_or ms a 0) back))

    pub length-broadcast : length (broadcast_strides ns ss ms) ≡ length ms
    length-broadcast =
        let k = axes_added ns ms in
        let front = length-replicate k (pos 0) in
        let rest = length-grown ns (drop k ms) ss many aligned in
        let both = length-append (replicate k (pos 0)) (stretched_strides ns ss (drop k ms)) in
        omega (arith, front, rest, both, more)

  pub span_of-broadcast : span_of ms (broadcast_strides ns ss ms) ≤ span_of ns ss
  span_of-broadcast =
      let k = axes_added ns ms in
      let front = span_of-added k (stretched_strides ns ss (drop k ms)) ms in
      let rest = span_of-grown ns (drop k ms) ss in
      omega (arith, front, rest)

-- ---- the whole
-- what the test says
pub broadcast_checked : (ns ms : List ℕ) → broadcasts ns ms ≡ true → HasCheckedSize ms
broadcast_checked ns ms h = ltb-true (nonzero_product ms) 9223372036854775808 (and_parts (ltb (nonzero_product ms) 9223372036854775808) (leb (length ns) (length ms) && stretches ns (drop (axes_added ns ms) ms)) h).0

broadcast_fit : (ns ms : List ℕ) → broadcasts ns ms ≡ true → (leb (length ns) (length ms) ≡ true) × (stretches ns (drop (axes_added ns ms) ms) ≡ true)
broadcast_fit ns ms h = and_parts (leb (length ns) (length ms)) (stretches ns (drop (axes_added ns ms) ms)) (and_parts (ltb (nonzero_product ms) 9223372036854775808) (leb (length ns) (length ms) && stretches ns (drop (axes_added ns ms) ms)) h).1

pub broadcast_more : (ns ms : List ℕ) → broadcasts ns ms ≡ true → length ns ≤ length ms
broadcast_more ns ms h = leb-true (length ns) (length ms) (broadcast_fit ns ms h).0

-- each new index names an old index that has the same place
pub broadcast_is_seen : (offset : ℕ) (ns ms : List ℕ) (ss : List ℤ) → length ss ≡ length ns → broadcasts ns ms ≡ true → IsViewStep offset ns ss offset ms (broadcast_strides ns ss ms) (broadcast_index ns ms)
broadcast_is_seen offset ns ms ss many h =
    let k = axes_added ns ms in
    let fit = (broadcast_fit ns ms h).1 in
    record {
      within = λ i in_ms. ungrown_within ns (drop k ms) (drop k i) fit (in_box-drop ms i k in_ms);
      same = λ i in_ms.
          let long = length-in_box ms i in_ms in
          ap (λ z. pos offset +ℤ z) (displacement_of-added k (stretched_strides ns ss (drop k ms)) i (omega (arith, long)) ∙ displacement_of-grown ns (drop k ms) (drop k i) ss many fit (in_box-drop ms i k in_ms));
    }

pub broadcast_is_valid : (offset : ℕ) (ns ms : List ℕ) (ss : List ℤ) → broadcasts ns ms ≡ true → IsValid offset ns ss → IsValid offset ms (broadcast_strides ns ss ms)
broadcast_is_valid offset ns ms ss h valid = record {
  as_many = length-broadcast ns ms ss valid.as_many (broadcast_more ns ms h);
  spread = let less = span_of-broadcast ns ms ss in let old = valid.spread in omega (arith, less, old);
  checked = broadcast_checked ns ms h;
  reach = seen_reaches (broadcast_is_seen offset ns ms ss valid.as_many h) valid.reach;
}
