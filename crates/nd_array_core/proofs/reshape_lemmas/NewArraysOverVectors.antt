-- New arrays over vectors.
use Rattle.nd_array_core.proofs.NamesFromOtherCrates.{[], ◌∷◌, arith, vec_len, Vec, HasCheckedSize, lane_checked}

-- no vector has more items than an axis may have
pub vec_is_line : {A Z : Type 0} (v : Vec A Z) → HasCheckedSize (vec_len v ∷ [])
vec_is_line v = let long = v.ok.1 in let small = v.small in lane_checked (vec_len v) (omega (arith, long, small))
