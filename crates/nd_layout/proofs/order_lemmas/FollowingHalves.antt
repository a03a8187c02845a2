-- A shape cut at the first axis longer than 1: the ranks of the upper part go on after those of the lower one.
use Rattle.nd_layout.proofs.NamesFromOtherCrates.{◌≡◌, ℕ, zero, suc, ◌+◌, ◌-◌, ◌*◌, ◌/◌, ◌%◌, ◌<◌, ◌≤◌, List, [], ◌∷◌, length, get_or, set, ap, sym, refl, ◌∙◌, arith, sum, sum_by-set, div-add-mod', div-mul-add, mod-mul-add, mod_below, size_of, index_at, place_of, lower_shape, upper_shape, upper_index, in_box-index_at, positive-cons}
use Rattle.nd_layout.specs.LayoutStepsOfCalls.{Placement, IsStepOf}
use Rattle.nd_layout.specs.HalvedLayouts.{FollowEachOther}

-- what a rank of a shape with one coordinate before is
one_before : (ns : List ℕ) (r : ℕ) → r < size_of ns → index_at (1 ∷ ns) r ≡ 0 ∷ index_at ns r
one_before ns r below =
    let none : r ≡ 0 * size_of ns + r = omega arith in
    λ k. (ap (λ t. t / size_of ns) none ∙ div-mul-add 0 (size_of ns) r below) k ∷ ap (index_at ns) (ap (λ t. t % size_of ns) none ∙ mod-mul-add 0 (size_of ns) r below) k

-- so often and so often more; and once
both : (m d n s : ℕ) → m + d ≡ n → m * s + d * s ≡ n * s
both m d n s e = let whole : (m + d) * s ≡ n * s = ap (λ t. t * s) e in omega (arith, whole)

once : (n s : ℕ) → n ≡ 1 → n * s ≡ s
once n s one = ap (λ t. t * s) one ∙ omega arith

-- so many coordinates further along the first axis
shifted : (ns : List ℕ) (m r : ℕ) → 0 < size_of ns → (r / size_of ns + m) ∷ index_at ns (r % size_of ns) ≡ ((m * size_of ns + r) / size_of ns) ∷ index_at ns ((m * size_of ns + r) % size_of ns)
shifted ns m r some =
    let s = size_of ns in
    let low = mod_below r s some in
    let whole : m * s + r ≡ (r / s + m) * s + r % s = omega (arith, div-add-mod' r s) in
    λ k. (sym (div-mul-add (r / s + m) s (r % s) low) ∙ ap (λ t. t / s) (sym whole)) k ∷ ap (index_at ns) (sym (mod-mul-add (r / s + m) s (r % s) low) ∙ ap (λ t. t % s) (sym whole)) k

module _ (m : ℕ) where
  pub sizes : (ns : List ℕ) (a : ℕ) → a < length ns → m ≤ get_or ns a 0 → ((k : ℕ) → k < a → get_or ns k 0 ≡ 1) → size_of (lower_shape ns a m) + size_of (upper_shape ns a m) ≡ size_of ns
  sizes [] a on within ones = absurd (omega (arith, on))
  sizes (n ∷ ns) zero on within ones = let less : m ≤ n = within in both m (n - m) n (size_of ns) (omega (arith, less))
  sizes (n ∷ ns) (suc a) on within ones =
      let one : n ≡ 1 = ones 0 (omega arith) in
      let rest = sizes ns a (omega (arith, on)) within (λ k below. ones (suc k) (omega (arith, below))) in
      (λ k. once n (size_of (lower_shape ns a m)) one k + once n (size_of (upper_shape ns a m)) one k) ∙ rest ∙ sym (once n (size_of ns) one)

  pub early : (ns : List ℕ) (a r : ℕ) → a < length ns → m ≤ get_or ns a 0 → ((k : ℕ) → k < a → get_or ns k 0 ≡ 1) → r < size_of (lower_shape ns a m) → index_at (lower_shape ns a m) r ≡ index_at ns r
  early [] a r on within ones below = absurd (omega (arith, on))
  early (n ∷ ns) zero r on within ones below = refl
  early (n ∷ ns) (suc a) r on within ones below =
      let one : n ≡ 1 = ones 0 (omega arith) in
      let others = λ (k : ℕ) (less : k < a). ones (suc k) (omega (arith, less)) in
      let under : r < size_of (lower_shape ns a m) = let e = once n (size_of (lower_shape ns a m)) one in omega (arith, e, below) in
      let whole = sizes ns a (omega (arith, on)) within others in
      ap (λ t. index_at (t ∷ lower_shape ns a m) r) one
      ∙ one_before (lower_shape ns a m) r under
      ∙ ap (λ is. 0 ∷ is) (early ns a r (omega (arith, on)) within others under)
      ∙ sym (one_before ns r (omega (arith, under, whole)))
      ∙ ap (λ t. index_at (t ∷ ns) r) (sym one)

  pub late : (ns : List ℕ) (a r : ℕ) → a < length ns → m ≤ get_or ns a 0 → ((k : ℕ) → k < a → get_or ns k 0 ≡ 1) → r < size_of (upper_shape ns a m) → upper_index a m (index_at (upper_shape ns a m) r) ≡ index_at ns (size_of (lower_shape ns a m) + r)
  late [] a r on within ones below = absurd (omega (arith, on))
  late (n ∷ ns) zero r on within ones below = shifted ns m r (positive-cons (n - m) ns (omega (arith, below))).1
  late (n ∷ ns) (suc a) r on within ones below =
      let one : n ≡ 1 = ones 0 (omega arith) in
      let others = λ (k : ℕ) (less : k < a). ones (suc k) (omega (arith, less)) in
      let under : r < size_of (upper_shape ns a m) = let e = once n (size_of (upper_shape ns a m)) one in omega (arith, e, below) in
      let whole = sizes ns a (omega (arith, on)) within others in
      let low = size_of (lower_shape ns a m) in
      let wide : low + r ≡ n * low + r = let e = once n low one in omega (arith, e) in
      ap (λ t. upper_index (suc a) m (index_at (t ∷ upper_shape ns a m) r)) one
      ∙ ap (upper_index (suc a) m) (one_before (upper_shape ns a m) r under)
      ∙ ap (λ is. 0 ∷ is) (late ns a r (omega (arith, on)) within others under)
      ∙ sym (one_before ns (low + r) (omega (arith, under, whole)))
      ∙ ap (λ t. index_at (t ∷ ns) (low + r)) (sym one)
      ∙ ap (index_at (n ∷ ns)) wide

pub halves_follow : (a m : ℕ) (whole lower upper : Placement) → a < length whole.lengths → 0 < m → m < get_or whole.lengths a 0 → ((k : ℕ) → k < a → get_or whole.lengths k 0 ≡ 1)
    → lower.lengths ≡ lower_shape whole.lengths a m → upper.lengths ≡ upper_shape whole.lengths a m → IsStepOf whole lower (λ i. i) → IsStepOf whole upper (upper_index a m) → FollowEachOther whole lower upper
halves_follow a m whole lower upper on some within ones is_lower is_upper low high = record {
  size = (λ k. size_of (is_lower k) + size_of (is_upper k)) ∙ sizes m ns a on (omega (arith, within)) ones;
  early = λ r below.
      low.same (index_at lower.lengths r) (in_box-index_at lower.lengths r below)
      ∙ ap (place_of whole.offset whole.strides) (ap (λ ms. index_at ms r) is_lower ∙ early m ns a r on (omega (arith, within)) ones (let e = ap size_of is_lower in omega (arith, e, below)));
  late = λ r below.
      high.same (index_at upper.lengths r) (in_box-index_at upper.lengths r below)
      ∙ ap (place_of whole.offset whole.strides) (
      ap (λ ms. upper_index a m (index_at ms r)) is_upper
      ∙ late m ns a r on (omega (arith, within)) ones (let e = ap size_of is_upper in omega (arith, e, below))
      ∙ ap (λ ms. index_at ns (size_of ms + r)) (sym is_lower));
  first_smaller = let less = smaller m within in let e = ap sum is_lower in omega (arith, less, e);
  second_smaller = let less = smaller (get_or ns a 0 - m) (omega (arith, some, within)) in let e = ap sum is_upper in omega (arith, less, e);
}
  where
    ns : List ℕ
    ns = whole.lengths

    smaller : (t : ℕ) → t < get_or ns a 0 → sum (set ns a t) < sum ns
    smaller t less = let e = sum_by-set (λ x. x) ns a t 0 on in omega (arith, e, less)
