-- The lanes of an axis: which index of the layout each of their places has.
use Rattle.nd_elements.proofs.NamesFromOtherCrates.{◌≡◌, ℕ, ◌*◌, ◌^◌, ◌<◌, ◌≤◌, true, List, length, get_or, set, ltb, ℤ, pos, ◌+ℤ◌, ◌*ℤ◌, refl, ap, sym, subst, ◌∙◌, arith, Option, insert, remove, mul_comm, and_from, lt-ltb, length-set, set-set, set-get_or, get_or-set_same, get_or-insert_at, length-remove, in_box, size_of, HasCheckedSize, row_rank, index_at, indexed_shape, indexed_index, collapsed_shape, collapsed_index, place_of, displacement_of, IsSeparated, coordinate_below, length-in_box, in_box-index_at, row_rank-index_at, remove-inserted, in_box-set, sums, zero-mul, displacement_of-at, displacement_of-inserted, in_box-inserted, size_of-set, size-le-product, is_place, ReachesPlaces, Placement, as_placement, IsStep, place_at_rank}
use Rattle.nd_elements.specs.ShapeAndElements.{inside}
use Rattle.nd_elements.specs.StoragePlaces.{stored_at, names_place, place_number, HoldsAll}
use Rattle.nd_elements.specs.WritesByIndex.{OthersStay}
use Rattle.nd_elements.specs.along.AxisLanes.{LanePlaces, lanes_from, lane_place, LanesReach, LanesDistinct, LieBy, LieAlong, LieThrough}
use Rattle.nd_elements.proofs.WriteAtOneIndex.{one_index}

-- what follows for lanes that lie so
module _ {shape : List ℕ} {index : ℕ → List ℕ → List ℕ} {axis : ℕ} {layout : Placement} {at : LanePlaces} (by : LieBy shape index axis layout at) where
  pub lanes_reach : ReachesPlaces layout.offset layout.lengths layout.strides → LanesReach at.place at.lanes at.count
  lanes_reach reach r k below within = ap is_place (by.placed r k below within) ∙ reach (index k (index_at shape r)) (by.inside r k below within)

  pub lanes_differ : length layout.strides ≡ length layout.lengths → (0 < size_of layout.lengths → IsSeparated layout.lengths layout.strides) → LanesDistinct at.place at.lanes at.count
  lanes_differ many apart r k q j on_r on_q on_k on_j same =
      by.alone r k q j on_r on_q on_k on_j
      (one_index layout.lengths layout.strides layout.offset (index k (index_at shape r)) (index j (index_at shape q)) many apart (by.inside r k on_r on_k) (by.inside q j on_q on_j)
      (sym (by.placed r k on_r on_k) ∙ (same ∙ by.placed q j on_q on_j)))

  module _ {A : Type 0} (stored : ℕ → Option A) where
    pub lanes_hold : HoldsAll stored layout.offset layout.lengths layout.strides → (r k : ℕ) → r < at.lanes → k < at.count → names_place stored (at.place r k) ≡ true
    lanes_hold holds r k below within = ap (names_place stored) (by.placed r k below within) ∙ holds (index k (index_at shape r)) (by.inside r k below within)

    -- what lies there is the element at the index
    pub lane_found : (r k : ℕ) → r < at.lanes → k < at.count → stored_at stored (at.place r k) ≡ inside layout.lengths (index k (index_at shape r)) (stored_at stored (place_of layout.offset layout.strides (index k (index_at shape r))))
    lane_found r k below within = rw (by.inside r k below within) (ap (stored_at stored) (by.placed r k below within))

  -- no place of another lane is one of the layout
  pub others_stayed : {A : Type 0} (old new : ℕ → Option A) → ((p : ℕ) → ((r k : ℕ) → r < at.lanes → k < at.count → at.place r k ≡ pos p → ⊥) → new p ≡ old p)
      → OthersStay (λ i. inside layout.lengths i (place_number (place_of layout.offset layout.strides i))) old new
  others_stayed old new left p nowhere =
      left p (λ r k below within e. nowhere (index k (index_at shape r)) (rw (by.inside r k below within) (ap place_number (sym (by.placed r k below within) ∙ e))))

-- in the words that a caller has for the lengths, the stride and the count
module _ (offset : ℕ) (ns : List ℕ) (ss : List ℤ) (a : ℕ) (on : a < length ns) (many : length ss ≡ length ns) (start : ℕ) (ls : List ℕ) (us : List ℤ) (s : ℤ) (count : ℕ) (e_s : s ≡ get_or ss a (pos 0)) (e_count : count ≡ get_or ns a 0) where
  abbrev lanes : LanePlaces
  lanes = lanes_from (as_placement start ls us) count s

  under : (k : ℕ) → k < count → k < get_or ns a 0
  under k within = subst (λ m. k < m) e_count within

  -- by the indexes of the other axes
  module _ (e_ls : ls ≡ indexed_shape ns a) (step : 0 < get_or ns a 0 → IsStep offset ns ss start ls us (indexed_index a 0)) where
    low : (r : ℕ) → r < size_of ls → a ≤ length (index_at ls r)
    low r below =
        omega (arith, on, length-in_box ls (index_at ls r) (in_box-index_at ls r below), ap length e_ls, length-remove ns a on)

    inside_at : (r k : ℕ) → r < size_of ls → k < count → in_box ns (insert (index_at ls r) a k) ≡ true
    inside_at r k below within =
        let o = index_at ls r in
        in_box-inserted ns o a k on ∙ and_from (ltb k (get_or ns a 0)) (in_box (remove ns a) o) (lt-ltb k (get_or ns a 0) (under k within)) (subst (λ ms. in_box ms o ≡ true) e_ls (in_box-index_at ls r below))

    placed_at : (r k : ℕ) → r < size_of ls → k < count → lane_place start ls us s r k ≡ place_of offset ss (insert (index_at ls r) a k)
    placed_at r k below within =
        let o = index_at ls r in
        let at_first : IsStep offset ns ss start ls us (indexed_index a 0) = step (omega (arith, under k within)) in
        let on_s : a < length ss = omega (arith, on, many) in
        let none = zero-mul (get_or ss a (pos 0)) in
        let first : place_at_rank start ls us r ≡ place_of offset ss (insert o a 0) = at_first.same o (in_box-index_at ls r below) in
        let at_0 = displacement_of-inserted ss o a 0 on_s (low r below) in
        let goes : place_at_rank start ls us r +ℤ (pos k *ℤ get_or ss a (pos 0)) ≡ place_of offset ss (insert o a k) = omega (arith, sums, first, at_0, displacement_of-inserted ss o a k on_s (low r below), none) in
        ap (λ z. place_at_rank start ls us r +ℤ (pos k *ℤ z)) e_s ∙ goes

    alone_at : (r k q j : ℕ) → r < size_of ls → q < size_of ls → insert (index_at ls r) a k ≡ insert (index_at ls q) a j → (r ≡ q) × (k ≡ j)
    alone_at r k q j on_r on_q one =
        let rows : index_at ls r ≡ index_at ls q = sym (remove-inserted (index_at ls r) a k (low r on_r)) ∙ (ap (λ i. remove i a) one ∙ remove-inserted (index_at ls q) a j (low q on_q)) in (
          sym (row_rank-index_at ls r on_r) ∙ (ap (row_rank ls) rows ∙ row_rank-index_at ls q on_q),
          sym (get_or-insert_at (index_at ls r) a k 0 (low r on_r)) ∙ (ap (λ i. get_or i a 0) one ∙ get_or-insert_at (index_at ls q) a j 0 (low q on_q)),
        )

    pub lie_along : LieAlong a (as_placement offset ns ss) lanes
    lie_along = subst (λ ms. LieBy ms (indexed_index a) a (as_placement offset ns ss) lanes) e_ls (record {
      lanes = refl;
      count = e_count;
      inside = inside_at;
      placed = placed_at;
      alone = λ r k q j on_r on_q on_k on_j one. alone_at r k q j on_r on_q one;
    })

  -- by indexes that are 0 at the axis
  module _ (e_ls : ls ≡ collapsed_shape ns a) (step : IsStep offset ns ss start ls us (collapsed_index a 0)) where
    as_long : (r : ℕ) → r < size_of ls → length (index_at ls r) ≡ length ns
    as_long r below = length-in_box ls (index_at ls r) (in_box-index_at ls r below) ∙ (ap length e_ls ∙ length-set ns a 1)

    inside_through : (r k : ℕ) → r < size_of ls → k < count → in_box ns (set (index_at ls r) a k) ≡ true
    inside_through r k below within =
        let back : set ls a (get_or ns a 0) ≡ ns = ap (λ ms. set ms a (get_or ns a 0)) e_ls ∙ (set-set ns a 1 (get_or ns a 0) ∙ set-get_or ns a 0) in
        subst (λ ms. in_box ms (set (index_at ls r) a k) ≡ true) back (in_box-set ls (index_at ls r) a (get_or ns a 0) k (in_box-index_at ls r below) (under k within))

    placed_through : (r k : ℕ) → r < size_of ls → lane_place start ls us s r k ≡ place_of offset ss (set (index_at ls r) a k)
    placed_through r k below =
        let stride = get_or ss a (pos 0) in
        let o = index_at ls r in
        let long = as_long r below in
        let on_s : a < length ss = omega (arith, on, many) in
        let whole : displacement_of ss (set o a k) ≡ (pos k *ℤ stride) +ℤ displacement_of ss (set o a 0) =
        displacement_of-at ss (set o a k) a (length-set o a k ∙ (long ∙ sym many)) on_s ∙ (λ i. (pos ((get_or-set_same o a k 0 (omega (arith, on, long))) i) *ℤ stride) +ℤ displacement_of ss (set-set o a k 0 i)) in
        let goes : place_at_rank start ls us r +ℤ (pos k *ℤ stride) ≡ place_of offset ss (set o a k) = omega (arith, sums, step.same o (in_box-index_at ls r below), whole) in
        ap (λ z. place_at_rank start ls us r +ℤ (pos k *ℤ z)) e_s ∙ goes

    first_back : (r : ℕ) → r < size_of ls → set (index_at ls r) a 0 ≡ index_at ls r
    first_back r below =
        let o = index_at ls r in
        let same : length ls ≡ length ns = ap length e_ls ∙ length-set ns a 1 in
        let zero_there : get_or o a 0 ≡ 0 = omega (arith, coordinate_below ls o a (in_box-index_at ls r below) (omega (arith, on, same)), ap (λ ms. get_or ms a 0) e_ls ∙ get_or-set_same ns a 1 0 on) in
        ap (set o a) (sym zero_there) ∙ set-get_or o a 0

    on_index : (r : ℕ) → r < size_of ls → a < length (index_at ls r)
    on_index r below = let long = as_long r below in omega (arith, on, long)

    alone_through : (r k q j : ℕ) → r < size_of ls → q < size_of ls → set (index_at ls r) a k ≡ set (index_at ls q) a j → (r ≡ q) × (k ≡ j)
    alone_through r k q j on_r on_q one =
        let rows : index_at ls r ≡ index_at ls q = sym (first_back r on_r) ∙ (sym (set-set (index_at ls r) a k 0) ∙ (ap (λ i. set i a 0) one ∙ (set-set (index_at ls q) a j 0 ∙ first_back q on_q))) in (
          sym (row_rank-index_at ls r on_r) ∙ (ap (row_rank ls) rows ∙ row_rank-index_at ls q on_q),
          sym (get_or-set_same (index_at ls r) a k 0 (on_index r on_r)) ∙ (ap (λ i. get_or i a 0) one ∙ get_or-set_same (index_at ls q) a j 0 (on_index q on_q)),
        )

    pub lie_through : LieThrough a (as_placement offset ns ss) lanes
    lie_through = subst (λ ms. LieBy ms (collapsed_index a) a (as_placement offset ns ss) lanes) e_ls (record {
      lanes = refl;
      count = e_count;
      inside = inside_through;
      placed = λ r k below within. placed_through r k below;
      alone = λ r k q j on_r on_q on_k on_j one. alone_through r k q j on_r on_q one;
    })

    -- together they are as many places as the layout has indexes
    lanes_size : size_of ls * count ≡ size_of ns
    lanes_size =
        let n = get_or ns a 0 in
        let whole : size_of ns ≡ n * size_of (remove ns a) = ap size_of (sym (set-get_or ns a 0)) ∙ size_of-set ns a n on in
        (λ i. (ap size_of e_ls ∙ (size_of-set ns a 1 on ∙ single (size_of (remove ns a)))) i * e_count i) ∙ (mul_comm (size_of (remove ns a)) n ∙ sym whole)
      where
        single : (m : ℕ) → 1 * m ≡ m
        single m = omega arith

    pub lanes_checked : HasCheckedSize ns → size_of ls * count < 2 ^ 63
    lanes_checked checked = let same = lanes_size in omega (arith, size-le-product ns, checked, same)
