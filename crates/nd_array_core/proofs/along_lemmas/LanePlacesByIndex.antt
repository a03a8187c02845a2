-- The lanes of an axis by the array's indexes: a lane's k-th place is that of the index with k at the axis.
use Rattle.nd_array_core.proofs.NamesFromOtherCrates.{◌≡◌, ℕ, ◌<◌, Bool, true, false, List, length, get_or, set, ℤ, ap, sym, ◌∙◌, subst, refl, arith, set-set, set-get_or, Option, is_some, in_box, size_of, row_rank, collapsed_shape, place_of, coordinate_below, row_rank_below, index_at-row_rank, in_box-set, Placement, inside, stored_at, HoldsAll, LanePlaces, LieThrough, rotated, rotated_index, AreMovedBy, rotated_below}

module _ {layout : Placement} {a : ℕ} {places : LanePlaces} (on : a < length layout.lengths) (by : LieThrough a layout places) where
  abbrev ns : List ℕ
  ns = layout.lengths

  abbrev n : ℕ
  n = get_or ns a 0

  abbrev place : List ℕ → ℤ
  place = place_of layout.offset layout.strides

  -- the lane of an index
  abbrev pub row_of : List ℕ → ℕ
  row_of i = row_rank (collapsed_shape ns a) (set i a 0)

  outer_in : (i : List ℕ) → in_box ns i ≡ true → in_box (collapsed_shape ns a) (set i a 0) ≡ true
  outer_in i h = in_box-set ns i a 1 0 h (omega arith)

  pub row_below : (i : List ℕ) → in_box ns i ≡ true → row_of i < size_of (collapsed_shape ns a)
  row_below i h = row_rank_below (collapsed_shape ns a) (set i a 0) (outer_in i h)

  pub in_its_lane : (i : List ℕ) (k : ℕ) → in_box ns i ≡ true → k < n → places.place (row_of i) k ≡ place (set i a k)
  in_its_lane i k h within =
      by.placed (row_of i) k (subst (λ m. row_of i < m) (sym by.lanes) (row_below i h)) (subst (λ m. k < m) (sym by.count) within)
      ∙ ap place (ap (λ o. set o a k) (index_at-row_rank (collapsed_shape ns a) (set i a 0) (outer_in i h)) ∙ set-set i a 0 k)

  pub in_lane : (i : List ℕ) → in_box ns i ≡ true → places.place (row_of i) (get_or i a 0) ≡ place i
  in_lane i h = in_its_lane i (get_or i a 0) h (coordinate_below ns i a h on) ∙ ap place (set-get_or i a 0)

  -- what was moved in each lane, by indexes
  module _ {A : Type 0} (k : ℕ) (within : k < n) (old new : ℕ → Option A) (moved : AreMovedBy old new places.place places.lanes places.count (rotated k places.count)) where
    from_below : (i : List ℕ) → in_box ns i ≡ true → rotated k n (get_or i a 0) < n
    from_below i h = rotated_below k n (get_or i a 0) within (coordinate_below ns i a h on)

    rotated_stored : (i : List ℕ) → in_box ns i ≡ true → stored_at new (place i) ≡ stored_at old (place (rotated_index ns a k i))
    rotated_stored i h =
        let all = subst (λ m. AreMovedBy old new places.place places.lanes m (rotated k m)) by.count moved in
        ap (stored_at new) (sym (in_lane i h))
        ∙ all.done (row_of i) (get_or i a 0) (subst (λ m. row_of i < m) (sym by.lanes) (row_below i h)) (coordinate_below ns i a h on)
        ∙ ap (stored_at old) (in_its_lane i (rotated k n (get_or i a 0)) h (from_below i h))

    rotated_inside : (i : List ℕ) → in_box ns i ≡ true → in_box ns (rotated_index ns a k i) ≡ true
    rotated_inside i h = subst (λ ms. in_box ms (rotated_index ns a k i) ≡ true) (set-get_or ns a 0) (in_box-set ns i a n (rotated k n (get_or i a 0)) h (from_below i h))

    pub rotated_holds : HoldsAll old layout.offset ns layout.strides → HoldsAll new layout.offset ns layout.strides
    rotated_holds holds i h = ap is_some (rotated_stored i h) ∙ holds (rotated_index ns a k i) (rotated_inside i h)

    pub rotated_element : (i : List ℕ) → inside ns i (stored_at new (place i)) ≡ inside ns i (inside ns (rotated_index ns a k i) (stored_at old (place (rotated_index ns a k i))))
    rotated_element i = by_test (in_box ns i) refl
      where
        by_test : (t : Bool) → in_box ns i ≡ t → inside ns i (stored_at new (place i)) ≡ inside ns i (inside ns (rotated_index ns a k i) (stored_at old (place (rotated_index ns a k i))))
        by_test true h = rw (h, rotated_inside i h) (rotated_stored i h)
        by_test false h = rw h refl
