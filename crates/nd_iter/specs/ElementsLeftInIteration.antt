-- The lanes that an iterator holds at its two ends, and the elements that are left.
use Rattle.std.specs.Prelude.{◌≡◌, ◌+◌, ◌-◌, ◌≤◌, ◌++◌, ℕ, List, length, Option, IfSome}
use Rattle.nd_shape_and_slice.specs.ShapesAndIndexOrders.{size_of}
use Rattle.nd_array_core.specs.ArrayMeaning.{Meaning}
use Rattle.nd_array_core.specs.along.LanesOfLastAxis.{lane_length, ListsFrom}
use Rattle.nd_iter.specs.IteratedElements.{elements_left}
use Rattle.nd_iter.specs.declared.elements_left.Ends.{Ends}
use Rattle.nd_iter.specs.declared.row_major_rank.LaneInHand.{LaneInHand}
use Rattle.nd_iter.specs.declared.elements_left_by_rows.RowEnds.{RowEnds}

-- Says that the lane, where there is one, has the row-major elements of `m` from its first rank on.
abbrev pub IsInHand : {A : Type 0} → Meaning A → Option (LaneInHand A) → Type 0
IsInHand m hand = IfSome hand (λ h. ListsFrom h.lane h.from m)

module _ {A : Type 0} (h : Ends A) where
  -- Returns the row-major rank of the first element that is left.
  abbrev pub first_rank : ℕ
  first_rank = h.front - lane_length h.ahead

  -- Returns the row-major rank after that of the last element that is left.
  abbrev pub rank_after : ℕ
  rank_after = h.back + lane_length h.after

  -- Says that the lanes at both ends are empty, so that the ranks alone tell which elements are left.
  abbrev pub IsByRanks : Type 0
  IsByRanks = (lane_length h.ahead ≡ 0) × (lane_length h.after ≡ 0)

-- Returns the elements of `m` that are left, in row-major order.
abbrev pub left_in : {A : Type 0} → Meaning A → Ends A → List A
left_in m h = elements_left m (first_rank h) (rank_after h)

-- Says that the lanes at the two ends have the row-major elements of `m` just before the rank `front`, and from the
-- rank `back` on.
pub record AreEndsOf {A : Type 0} (m : Meaning A) (h : Ends A) : Type 0 where
  pub ahead_fits : lane_length h.ahead ≤ h.front
  pub front_first : h.front ≤ h.back
  pub after_fits : rank_after h ≤ size_of m.shape
  pub lists_ahead : ListsFrom h.ahead (first_rank h) m
  pub lists_after : ListsFrom h.after h.back m

-- Returns the elements of `m` that are left: the slice ahead, those of the ranks from `front` up to `back`, and the
-- slice after them.
abbrev pub left_by_rows : {A : Type 0} → Meaning A → RowEnds A → List A
left_by_rows m h = h.ahead.now ++ (elements_left m h.front h.back ++ h.after.now)

-- Says that `front` is at most `back`, and that at least as many ranks lie before `front`, and from `back` on, as the
-- slices ahead and after have items.
pub record AreRowsOf {A : Type 0} (m : Meaning A) (h : RowEnds A) : Type 0 where
  pub ahead_fits : length h.ahead.now ≤ h.front
  pub front_first : h.front ≤ h.back
  pub after_fits : h.back + length h.after.now ≤ size_of m.shape
