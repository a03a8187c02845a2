-- Broadcasting: an array of one shape seen under another, with the axes matched from the last one on.
use Rattle.std.specs.Prelude.{ℕ, ◌-◌, ◌^◌, nat_lt, nat_le, nat_eq, Bool, true, false, ◌&&◌, ◌||◌, List, [], ◌∷◌, length, drop, if◌then◌else◌}
use Rattle.nd_shape_and_slice.specs.ShapesAndIndexOrders.{nonzero_product}

-- The number of axes that the shape `to` has in front of those of `from`.
abbrev pub axes_added : List ℕ → List ℕ → ℕ
axes_added from to = length to - length from

-- Returns whether both shapes have equally many axes, and each length of the first is 1 or equals that of the second.
abbrev pub stretches : List ℕ → List ℕ → Bool
stretches [] [] = true
stretches [] (m ∷ ms) = false
stretches (n ∷ ns) [] = false
stretches (n ∷ ns) (m ∷ ms) = (nat_eq n m || nat_eq n 1) && stretches ns ms

-- Returns whether an array of the shape `from` can be broadcast to the shape `to`: `to` has a checked size and at
-- least as many axes, and, matched from the last axis on, each length of `from` is 1 or equals that of `to`.
abbrev pub broadcasts : List ℕ → List ℕ → Bool
broadcasts from to = nat_lt (nonzero_product to) (2 ^ 63) && (nat_le (length from) (length to) && stretches from (drop (axes_added from to) to))

-- Returns the old index that a new index names, where both shapes have equally many axes: it keeps the coordinate of
-- each axis whose length is the same in both, and has 0 on each axis that has grown.
abbrev pub stretched_index : List ℕ → List ℕ → List ℕ → List ℕ
stretched_index [] ms is = []
stretched_index (n ∷ ns) [] is = []
stretched_index (n ∷ ns) (m ∷ ms) [] = []
stretched_index (n ∷ ns) (m ∷ ms) (i ∷ is) = (if nat_eq n m then i else 0) ∷ stretched_index ns ms is

-- Returns the index of the shape `from` that the index `i` of the shape `to` names: the coordinates of new axes are
-- dropped, and those of grown axes become 0.
abbrev pub broadcast_index : List ℕ → List ℕ → List ℕ → List ℕ
broadcast_index from to i = stretched_index from (drop (axes_added from to) to) (drop (axes_added from to) i)
