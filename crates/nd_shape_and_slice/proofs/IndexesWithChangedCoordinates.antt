-- Indexes of a box that are made of others: one coordinate changed, stretched, or only two axes; a bound of a slice.
use Rattle.nd_shape_and_slice.proofs.NamesFromOtherCrates.{ltb, eqb, cond, ◌||◌, ◌&&◌, Bool, ◌≡◌, ℕ, zero, suc, ◌+◌, ◌-◌, ◌<◌, ◌≤◌, true, List, [], ◌∷◌, length, get_or, set, Some, pos, refl, ap, ◌∙◌, arith, and_from, and_parts, lt-ltb, le-leb, eq-eqb, get_or-set_same, set-set, set-get_or}
use Rattle.nd_shape_and_slice.specs.ShapesAndIndexOrders.{in_box}
use Rattle.nd_shape_and_slice.specs.LayoutIndexMaps.{upper_index}
use Rattle.nd_shape_and_slice.specs.Slice.{bound_on}
use Rattle.nd_shape_and_slice.specs.Broadcast.{stretches, stretched_index}

-- a row and a column
pub in_two_axes : (rows columns row column : ℕ) → row < rows → column < columns → in_box (rows ∷ columns ∷ []) (row ∷ column ∷ []) ≡ true
in_two_axes rows columns row column r c = rw (lt-ltb row rows r, lt-ltb column columns c) refl

-- a bound of a slice that isn't counted from the end
pub bound_within : (n k : ℕ) → k ≤ n → bound_on n (pos k) ≡ Some k
bound_within n k h = rw (le-leb k n h) refl

-- another coordinate, along an axis of another length
pub in_box-set : (ns i : List ℕ) (a m x : ℕ) → in_box ns i ≡ true → x < m → in_box (set ns a m) (set i a x) ≡ true
in_box-set [] [] a m x h below = refl
in_box-set [] (k ∷ i) a m x h below = absurd cc
in_box-set (n ∷ ns) [] a m x h below = absurd cc
in_box-set (n ∷ ns) (k ∷ i) zero m x h below = and_from (ltb x m) (in_box ns i) (lt-ltb x m below) (and_parts (ltb k n) (in_box ns i) h).1
in_box-set (n ∷ ns) (k ∷ i) (suc a) m x h below =
    let both = and_parts (ltb k n) (in_box ns i) h in
    and_from (ltb k n) (in_box (set ns a m) (set i a x)) both.0 (in_box-set ns i a m x both.1 below)

-- a coordinate that is lower, and then the old one again
pub upper_index-lowered : (i : List ℕ) (a k : ℕ) → a < length i → k ≤ get_or i a 0 → upper_index a k (set i a (get_or i a 0 - k)) ≡ i
upper_index-lowered i a k on within =
    let c = get_or i a 0 in
    ap (λ d. set (set i a (c - k)) a (d + k)) (get_or-set_same i a (c - k) 0 on)
    ∙ (set-set i a (c - k) (c - k + k)
    ∙ (ap (set i a) (omega (arith, within)) ∙ set-get_or i a 0))

-- a shape stretches to itself, and each index names itself
pub stretches_itself : (ns : List ℕ) → stretches ns ns ≡ true
stretches_itself [] = refl
stretches_itself (n ∷ ns) = ap (λ b. (b || eqb n 1) && stretches ns ns) (eq-eqb n n refl) ∙ stretches_itself ns

pub stretched_index-itself : (ns i : List ℕ) → in_box ns i ≡ true → stretched_index ns ns i ≡ i
stretched_index-itself [] [] h = refl
stretched_index-itself [] (k ∷ i) h = absurd cc
stretched_index-itself (n ∷ ns) [] h = absurd cc
stretched_index-itself (n ∷ ns) (k ∷ i) h =
    ap (λ b. cond b k 0 ∷ stretched_index ns ns i) (eq-eqb n n refl) ∙ ap (λ j. k ∷ j) (stretched_index-itself ns i (and_parts (ltb k n) (in_box ns i) h).1)
