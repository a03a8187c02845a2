-- The elements of each lane after a coordinate, moved towards the front by one.
use Rattle.std.specs.Prelude.{ℕ, List, Option}
use Rattle.nd_elements.specs.ShapeAndElements.{Meaning, inside}
use Rattle.nd_elements.specs.along.RemovedIndex.{rotated_index}

-- Returns the element at the index `i` after the element of each lane at the coordinate `k` went to the end of its
-- lane, and those after it moved towards the front by one.
abbrev pub rotated_at : {A : Type 0} → Meaning A → ℕ → ℕ → List ℕ → Option A
rotated_at m axis k i = inside m.shape i (m.at (rotated_index m.shape axis k i))
