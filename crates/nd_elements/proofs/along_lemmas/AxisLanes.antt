-- The lanes of an axis, by the ranks of their first places and by the array's indexes.
use Rattle.nd_elements.proofs.NamesFromOtherCrates.{◌≡◌, ℕ, ◌+◌, ◌<◌, ◌^◌, true, List, ℤ, pos, ◌+ℤ◌, ◌*ℤ◌, ap, sym, subst, ◌∙◌, arith, nat_tests, size_of, index_at, in_box-index_at, row_rank-index_at, sums, zero-mul, is_place, IsStandard, place_at_rank, Lane}
use Rattle.nd_elements.specs.declared.along.axis_lanes.AxisLanes.{AxisLanes}
use Rattle.nd_elements.specs.along.AxisLanes.{lane_place, IsLaneAt}
use Rattle.nd_elements.specs.along.PlacesOfAxisLanes.{lanes_in}

-- the first place of a lane is one
pub lane_starts : (place count : ℕ) (stride : ℤ) → ((k : ℕ) → k < count → is_place (pos place +ℤ (pos k *ℤ stride)) ≡ true) → 0 < count → place < 2 ^ 63
lane_starts place count stride reach some =
    let first : pos place +ℤ (pos 0 *ℤ stride) ≡ pos place = omega (arith, sums, zero-mul stride) in
    grind (arith, nat_tests, ap is_place (sym first) ∙ reach 0 some)

-- a lane in turn is that of the whole's next number
pub lane_in_turn : {turned whole : AxisLanes} {rank : ℕ} (lane : Lane) → turned ≡ whole → IsLaneAt (lanes_in turned) rank lane → IsLaneAt (lanes_in whole) rank lane
lane_in_turn {rank = rank} lane same is = subst (λ lanes. IsLaneAt (lanes_in lanes) rank lane) same is

-- in the standard layout the place of a rank is as far after the first
pub contiguous_rank : (offset : ℕ) (ns : List ℕ) (ss : List ℤ) → IsStandard ns ss → (k : ℕ) → k < size_of ns → place_at_rank offset ns ss k ≡ pos (offset + k)
contiguous_rank offset ns ss standard k below = omega (arith, sums, standard (index_at ns k) (in_box-index_at ns k below), row_rank-index_at ns k below)

-- so are those of lanes that begin at contiguous places
pub contiguous_goes : (offset : ℕ) (ns : List ℕ) (ss : List ℤ) (stride : ℤ) → IsStandard ns ss → (r k : ℕ) → r < size_of ns → pos (offset + r) +ℤ (pos k *ℤ stride) ≡ lane_place offset ns ss stride r k
contiguous_goes offset ns ss stride standard r k below = ap (λ z. z +ℤ (pos k *ℤ stride)) (sym (contiguous_rank offset ns ss standard r below))

-- the place of a run's element, by that of its first
pub parallel_place : (first p r k : ℕ) (stride : ℤ) → pos p ≡ pos first +ℤ (pos k *ℤ stride) → pos (p + r) ≡ pos (first + r) +ℤ (pos k *ℤ stride)
parallel_place first p r k stride at = omega (arith, sums, at)
