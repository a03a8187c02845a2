-- The order of fresh storage that is to grow along an axis, as the row-major order of a layout.
use Rattle.nd_layout.proofs.NamesFromOtherCrates.{◌≡◌, ℕ, max, zero, suc, ◌+◌, ◌*◌, ◌/◌, ◌%◌, ◌<◌, ◌≤◌, ◌^◌, Bool, true, false, eqb, cond, List, [], ◌∷◌, length, get_or, set, reverse, ℤ, pos, ◌+ℤ◌, ◌*ℤ◌, refl, ap, sym, subst, ◌∙◌, arith, remove, insert, swap, pos-*ℤ-pos, eqb-true, eqb-false, reverse-reverse, set-get_or, length-set, swap_is, length-insert, length-remove, get_or-insert_at, in_box, size_of, row_rank, column_rank, index_at, nonzero_product, HasCheckedSize, displacement_of, span_of, IsSeparated, row_strides, column_strides_from, RowMajor, length-in_box, row_rank_below, displacement_of-row, length-row_strides, nonzero_product-size_of, displacement_of-column, in_box-index_at, row_rank-index_at, index_at-row_rank, remove-inserted, insert-removed}
use Rattle.nd_layout.specs.GrowthAlongAxis.{growing_strides, must_move, IsInGrowingOrder}
use Rattle.nd_layout.specs.ValidLayoutsAndSteps.{IsStep, IsValid}
use Rattle.nd_layout.specs.RowMajorWalk.{IsRearranged}
use Rattle.nd_layout.proofs.growing_lemmas.GrowingStrides.{growing_strides-is, others_small}
use Rattle.nd_layout.proofs.growing_lemmas.GrownLayout.{base_full, laid_full, laid_ready}
use Rattle.nd_layout.proofs.SizesOfChangedAxes.{size_of-set, nonzero_product-set}
use Rattle.nd_layout.proofs.reshape_lemmas.RegroupedAxes.{both_positive}
use Rattle.nd_layout.proofs.reshape_lemmas.AxesFromFastest.{size_of-ordered, in_box-ordered, rank_in-ordered}
use Rattle.nd_layout.proofs.AxisRemovedOrInserted.{displacement_of-inserted, displacement_of-inserted_axis, in_box-inserted, size_of-removed, nonzero_product-removed, le-product}
use Rattle.nd_layout.proofs.steps.SwappedOrReversedAxes.{reverse_is_step}
use Rattle.nd_layout.proofs.steps.NewLayoutsInAnOrder.{IsRanked, ranked_is_valid}

-- ---- an axis moved to the front by exchanges
exchanged_once : {A : Type 0} (ys : List A) (k : ℕ) (x : A) → k < length ys → swap (insert ys (suc k) x) k (suc k) ≡ insert ys k x
exchanged_once [] k x h = absurd (omega arith)
exchanged_once (y ∷ ys) zero x h = refl
exchanged_once (y ∷ ys) (suc k) x h =
    let on : k < length ys = omega (arith, h) in
    let long = length-insert ys (suc k) x (omega (arith, on)) in
    ap (λ l. y ∷ l) (swap_is (insert ys (suc k) x) k (suc k) y (omega (arith, on, long)) (omega (arith, on, long)) ∙ exchanged_once ys k x on)

pub moved_forward : {A : Type 0} (ys : List A) (at before : ℕ) (x : A) → before + 1 ≡ at → at ≤ length ys → swap (insert ys at x) before at ≡ insert ys before x
moved_forward ys at before x e h =
    let next : at ≡ suc before = omega (arith, e) in
    ap (λ k. swap (insert ys k x) before k) next ∙ exchanged_once ys before x (omega (arith, e, h))

abbrev drop_one : List ℕ → List ℕ
drop_one [] = []
drop_one (x ∷ xs) = xs

-- ---- the axis in front of the others
module _ (ns : List ℕ) (ss : List ℤ) (a : ℕ) (many : length ss ≡ length ns) (on : a < length ns) where
  abbrev rest : List ℕ
  rest = remove ns a

  abbrev fronted : List ℕ
  fronted = get_or ns a 0 ∷ remove ns a

  abbrev into : List ℕ → List ℕ
  into i = get_or i a 0 ∷ remove i a

  long_rest : (j : List ℕ) → in_box (remove ns a) j ≡ true → a ≤ length j
  long_rest j h = let e = length-in_box (remove ns a) j h in let l = length-remove ns a on in omega (arith, e, l, on)

  on_index : (i : List ℕ) → in_box ns i ≡ true → a < length i
  on_index i h = let e = length-in_box ns i h in omega (arith, e, on)

  into_box : (i : List ℕ) → in_box ns i ≡ true → in_box fronted (into i) ≡ true
  into_box i h = sym (in_box-inserted ns (remove i a) a (get_or i a 0) on) ∙ (ap (in_box ns) (insert-removed i a 0 (on_index i h)) ∙ h)

  after_box : (c : ℕ) (j : List ℕ) → in_box fronted (c ∷ j) ≡ true → in_box (remove ns a) j ≡ true
  after_box c j h = grind (arith, h)

  abbrev fronted_order : (p : ℕ) → IsRearranged p ns ss p fronted (get_or ss a (pos 0) ∷ remove ss a)
  fronted_order p = record {
    index_of = λ r. insert (index_at (remove ns a) (r % size_of (remove ns a))) a (r / size_of (remove ns a));
    rank_of = λ i. row_rank fronted (into i);
    within = λ r h. in_box-inserted ns (index_at (remove ns a) (r % size_of (remove ns a))) a (r / size_of (remove ns a)) on ∙ in_box-index_at fronted r h;
    below = λ i h. row_rank_below fronted (into i) (into_box i h);
    there = λ r h.
        let j = index_at (remove ns a) (r % size_of (remove ns a)) in
        let c = r / size_of (remove ns a) in
        let wide = long_rest j (after_box c j (in_box-index_at fronted r h)) in
        ap (λ x. row_rank fronted (x ∷ remove (insert j a c) a)) (get_or-insert_at j a c 0 wide)
        ∙ ap (λ l. row_rank fronted (c ∷ l)) (remove-inserted j a c wide)
        ∙ row_rank-index_at fronted r h;
    back = λ i h.
        let there = index_at-row_rank fronted (into i) (into_box i h) in
        ap (λ l. insert (drop_one l) a (get_or l 0 0)) there ∙ insert-removed i a 0 (on_index i h);
    same = λ r h.
        let j = index_at (remove ns a) (r % size_of (remove ns a)) in
        let c = r / size_of (remove ns a) in
        let wide = long_rest j (after_box c j (in_box-index_at fronted r h)) in
        ap (λ z. pos p +ℤ z) (sym (displacement_of-inserted ss j a c (omega (arith, many, on)) wide));
  }

  front_is_growing : (p : ℕ) → growing_strides a ns ≡ insert (row_strides (remove ns a)) a (pos (size_of (remove ns a))) → IsInGrowingOrder a p ns ss p fronted (get_or ss a (pos 0) ∷ remove ss a)
  front_is_growing p is = record {
    order = fronted_order p;
    size = sym (size_of-removed ns a on);
    ranked = λ i h.
        let w = size_of (remove ns a) in
        let c = get_or i a 0 in
        let l = length-row_strides (remove ns a) in
        let m = length-remove ns a on in
        let inner = displacement_of-row (remove ns a) (remove i a) (after_box c (remove i a) (into_box i h)) in
        let step : pos c *ℤ pos w ≡ pos (c * w) = pos-*ℤ-pos c w in
        ap (λ ts. displacement_of ts i) is
        ∙ displacement_of-inserted_axis (row_strides (remove ns a)) i a (pos w) (omega (arith, l, m, on)) (on_index i h)
        ∙ (λ k. step k +ℤ inner k);
  }

-- ---- all axes the other way round
reversed_is_growing : (ns : List ℕ) (ss : List ℤ) (a p : ℕ) → length ss ≡ length ns → growing_strides a ns ≡ column_strides_from 1 ns → IsInGrowingOrder a p ns ss p (reverse ns) (reverse ss)
reversed_is_growing ns ss a p many is = record {
  order = record {
    index_of = λ r. reverse (index_at (reverse ns) r);
    rank_of = λ i. row_rank (reverse ns) (reverse i);
    within = λ r h. step.within (index_at (reverse ns) r) (in_box-index_at (reverse ns) r h);
    below = λ i h. row_rank_below (reverse ns) (reverse i) (turned_box i h);
    there = λ r h. ap (row_rank (reverse ns)) (reverse-reverse (index_at (reverse ns) r)) ∙ row_rank-index_at (reverse ns) r h;
    back = λ i h. ap reverse (index_at-row_rank (reverse ns) (reverse i) (turned_box i h)) ∙ reverse-reverse i;
    same = λ r h. step.same (index_at (reverse ns) r) (in_box-index_at (reverse ns) r h);
  };
  size = size_of-ordered RowMajor ns;
  ranked = λ i h.
      let turned = rank_in-ordered RowMajor (reverse ns) (reverse i) (length-in_box (reverse ns) (reverse i) (turned_box i h)) in
      ap (λ ts. displacement_of ts i) is
      ∙ displacement_of-column ns i h
      ∙ ap pos (ap (λ l. column_rank l i) (sym (reverse-reverse ns)) ∙ (ap (column_rank (reverse (reverse ns))) (sym (reverse-reverse i)) ∙ turned));
}
  where
    step : IsStep p ns ss p (reverse ns) (reverse ss) reverse
    step = reverse_is_step p ns ss many

    turned_box : (i : List ℕ) → in_box ns i ≡ true → in_box (reverse ns) (reverse i) ≡ true
    turned_box i h = in_box-ordered RowMajor ns i (length-in_box ns i h) ∙ h

-- ---- both, where the axis is another than the last, or the last
module _ (ns : List ℕ) (ss : List ℤ) (a p : ℕ) (many : length ss ≡ length ns) (on : a < length ns) where
  growing_by : (b : Bool) → eqb (a + 1) (length ns) ≡ b → growing_strides a ns ≡ cond b (column_strides_from 1 ns) (insert (row_strides (remove ns a)) a (pos (size_of (remove ns a))))
  growing_by b e = ap (λ t. cond t (column_strides_from 1 ns) (insert (row_strides (remove ns a)) a (pos (size_of (remove ns a))))) e

  pub ordered_in_front : (a + 1 ≡ length ns → ⊥) → IsInGrowingOrder a p ns ss p (get_or ns a 0 ∷ remove ns a) (get_or ss a (pos 0) ∷ remove ss a)
  ordered_in_front other = front_is_growing ns ss a many on p (growing_by false (by_case (eqb (a + 1) (length ns)) refl))
    where
      by_case : (b : Bool) → eqb (a + 1) (length ns) ≡ b → b ≡ false
      by_case true e = absurd (other (eqb-true (a + 1) (length ns) e))
      by_case false e = refl

  pub ordered_in_reverse : a + 1 ≡ length ns → IsInGrowingOrder a p ns ss p (reverse ns) (reverse ss)
  ordered_in_reverse last = reversed_is_growing ns ss a p many (growing_by true (by_case (eqb (a + 1) (length ns)) refl))
    where
      by_case : (b : Bool) → eqb (a + 1) (length ns) ≡ b → b ≡ true
      by_case true e = refl
      by_case false e = absurd (eqb-false (a + 1) (length ns) e last)

-- ---- the layout of the fresh storage
module _ (ns : List ℕ) (a : ℕ) (on : a < length ns) (some : 0 < size_of ns) where
  own_length : set ns a (get_or ns a 0) ≡ ns
  own_length = set-get_or ns a 0

  parts_there : (0 < get_or ns a 0) × (0 < size_of (remove ns a))
  parts_there = let e = size_of-removed ns a on in both_positive (get_or ns a 0) (size_of (remove ns a)) (omega arith)

  pub others_there : 0 < size_of (set ns a 1)
  others_there = let w = parts_there in let o = size_of-set ns a 1 on in omega arith

  pub others_fit : HasCheckedSize ns → size_of (set ns a 1) < 2 ^ 63
  others_fit checked =
      let same : get_or ns a 0 + 0 ≡ get_or ns a 0 = omega arith in
      others_small ns a 0 on (subst HasCheckedSize (sym (ap (set ns a) same ∙ own_length)) checked)

  pub others_checked : HasCheckedSize ns → HasCheckedSize (set ns a 1)
  others_checked checked =
      let one = nonzero_product-set ns a 1 on in
      let all = nonzero_product-removed ns a on in
      let least = le-product (max 1 (get_or ns a 0)) (nonzero_product (remove ns a)) (omega arith) in
      omega arith

  pub axis_long : 0 < get_or ns a 0
  axis_long = parts_there.0

  pub fresh_full : IsSeparated ns (growing_strides a ns) × (span_of ns (growing_strides a ns) + 1 ≡ size_of ns)
  fresh_full = subst (λ ms. IsSeparated ms (growing_strides a ns) × (span_of ms (growing_strides a ns) + 1 ≡ size_of ms)) own_length (laid_full ns a (get_or ns a 0) on others_there axis_long)

  pub fresh_apart : IsSeparated ns (growing_strides a ns)
  fresh_apart = fresh_full.0

  pub fresh_ready : must_move ns (growing_strides a ns) a ≡ false
  fresh_ready = subst (λ ms. must_move ms (growing_strides a ns) a ≡ false) own_length (laid_ready ns a (get_or ns a 0) on others_there)

  pub length-growing_strides : length (growing_strides a ns) ≡ length ns
  length-growing_strides =
      let os = set ns a 1 in
      let b = eqb (a + 1) (length ns) in
      let base = cond b (column_strides_from 1 os) (row_strides os) in
      ap length (growing_strides-is a ns on) ∙ length-set base a (pos (size_of os)) ∙ (base_full b os others_there).0 ∙ length-set ns a 1

  pub fresh_valid : HasCheckedSize ns → IsValid 0 ns (growing_strides a ns)
  fresh_valid checked = ranked_is_valid ranked checked
    where
      any_order : (b : Bool) → eqb (a + 1) (length ns) ≡ b → (rank : List ℕ → ℕ) × ((i : List ℕ) → in_box ns i ≡ true → (rank i < size_of ns) × (displacement_of (growing_strides a ns) i ≡ pos (rank i)))
      any_order true e =
          let r = ordered_in_reverse ns (growing_strides a ns) a 0 length-growing_strides on (eqb-true (a + 1) (length ns) e) in
          let size = r.size in
          (r.order.rank_of, λ i h. (let l = r.order.below i h in omega (arith, l, size), r.ranked i h))
      any_order false e =
          let r = ordered_in_front ns (growing_strides a ns) a 0 length-growing_strides on (eqb-false (a + 1) (length ns) e) in
          let size = r.size in
          (r.order.rank_of, λ i h. (let l = r.order.below i h in omega (arith, l, size), r.ranked i h))

      order : (rank : List ℕ → ℕ) × ((i : List ℕ) → in_box ns i ≡ true → (rank i < size_of ns) × (displacement_of (growing_strides a ns) i ≡ pos (rank i)))
      order = any_order (eqb (a + 1) (length ns)) refl

      small : span_of ns (growing_strides a ns) < 9223372036854775808
      small =
          let whole = fresh_full.1 in
          let size = nonzero_product-size_of ns some in
          let limit : nonzero_product ns < 9223372036854775808 = checked in
          omega (arith, whole, size, limit)

      ranked : IsRanked ns (growing_strides a ns) order.0
      ranked = record {
        as_many = length-growing_strides;
        spread = small;
        below = λ i h. (order.1 i h).0;
        at = λ i h. (order.1 i h).1;
        apart = λ _. fresh_apart;
      }
