-- The lane of an axis through an index of the other axes.
use Rattle.nd_elements.proofs.NamesFromOtherCrates.{◌≡◌, ◌∙◌, ℕ, ◌<◌, ◌*ℤ◌, ◌+ℤ◌, pos, true, List, ap, sym, subst, ℤ, in_box, row_rank, row_rank_below, index_at, index_at-row_rank, indexed_shape, indexed_index, place_of, Placement}
use Rattle.nd_elements.specs.along.AxisLanes.{LanePlaces, LieAlong, lanes_from}

-- by its number among the axis' lanes
module _ (axis : ℕ) (layout firsts : Placement) (count : ℕ) (stride : ℤ) (by : LieAlong axis layout (lanes_from firsts count stride)) (lengths : firsts.lengths ≡ indexed_shape layout.lengths axis) (i : List ℕ) (inbox : in_box (indexed_shape layout.lengths axis) i ≡ true) where
  abbrev at : LanePlaces
  at = lanes_from firsts count stride

  abbrev rank : ℕ
  rank = row_rank (indexed_shape layout.lengths axis) i

  on : rank < at.lanes
  on = subst (λ m. rank < m) (sym by.lanes) (row_rank_below (indexed_shape layout.lengths axis) i inbox)

  back : index_at (indexed_shape layout.lengths axis) rank ≡ i
  back = index_at-row_rank (indexed_shape layout.lengths axis) i inbox

  pub through_inside : (k : ℕ) → k < count → in_box layout.lengths (indexed_index axis k i) ≡ true
  through_inside k within = subst (λ j. in_box layout.lengths (indexed_index axis k j) ≡ true) back (by.inside rank k on within)

  pub through_placed : (place : ℕ) → pos place ≡ place_of firsts.offset firsts.strides i → (k : ℕ) → k < count → pos place +ℤ (pos k *ℤ stride) ≡ place_of layout.offset layout.strides (indexed_index axis k i)
  through_placed place from k within =
      let first : index_at firsts.lengths rank ≡ i = ap (λ ns. index_at ns rank) lengths ∙ back in
      ap (λ z. z +ℤ (pos k *ℤ stride)) (from ∙ ap (place_of firsts.offset firsts.strides) (sym first))
      ∙ (by.placed rank k on within ∙ ap (λ j. place_of layout.offset layout.strides (indexed_index axis k j)) back)
