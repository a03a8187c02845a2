-- The last index of a shape.
use Rattle.std.specs.Prelude.{ℕ, ◌-◌, List, map, nat_eq, Option, None, Some, if◌then◌else◌}
use Rattle.nd_shape_and_slice.specs.ShapesAndIndexOrders.{size_of}
use Rattle.nd_layout.specs.ValidMemoryPlaces.{IsPlaceOf}
use Rattle.nd_layout.specs.LayoutStepsOfCalls.{Placement}

-- Returns the index that has the last coordinate on each axis. Where there are elements, it is the index of the
-- greatest row-major rank.
abbrev pub last_index : List ℕ → List ℕ
last_index shape = map (λ n. n - 1) shape

-- Says that `found` is the place of the last index under the layout `l`, and None exactly where there are no elements.
abbrev pub IsLastPlace : Placement → Option ℕ → Type 0
IsLastPlace l found = IsPlaceOf l.offset l.lengths l.strides (last_index l.lengths) found

-- Returns the offset where the shape has elements, and None where it has none.
abbrev pub offset_if_any : List ℕ → ℕ → Option ℕ
offset_if_any shape offset = if nat_eq (size_of shape) 0 then None else Some offset
