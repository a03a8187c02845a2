-- Chosen coordinates of an axis, with repeats allowed: the shape of what they name, and the old index that each new
-- index names.
use Rattle.std.specs.Prelude.{◌≡◌, ◌+◌, ◌*◌, ◌<◌, ℕ, List, length, Option, slice_get, slice_index, slice_set, IsTrue}
use Rattle.std.specs.List.{All}
use Rattle.nd_shape_and_slice.specs.ShapesAndIndexOrders.{in_box, size_of, row_rank}
use Rattle.nd_shape_and_slice.specs.LayoutIndexMaps.{collapsed_shape, collapsed_index}
use Rattle.nd_elements.specs.ShapeAndElements.{Meaning, inside}

-- Returns the lengths `ns`, except that the axis `a` is as long as the list of chosen coordinates.
abbrev pub selected_shape : List ℕ → ℕ → List ℕ → List ℕ
selected_shape ns a indices = slice_set ns a (length indices)

-- Returns the old index that the new index `i` names: its coordinate on the axis `a` is the chosen one whose number `i`
-- has there.
abbrev pub selected_index : ℕ → List ℕ → List ℕ → List ℕ
selected_index a indices i = slice_set i a (slice_index indices (slice_index i a))

-- Returns the element at the index `i` of what is chosen, or None outside its shape.
abbrev pub selected_at : {A : Type 0} → Meaning A → ℕ → List ℕ → List ℕ → Option A
selected_at m a indices i = inside (selected_shape m.shape a indices) i (m.at (selected_index a indices i))

-- Says that `at` gives at each index the element that the index's chosen coordinate names.
abbrev pub ShowsSelected : {A : Type 0} → Meaning A → ℕ → List ℕ → (List ℕ → Option A) → Type 0
ShowsSelected m a indices at = (i : List ℕ) → at i ≡ selected_at m a indices i

-- Says that all of `indices` are coordinates of the axis `a`.
abbrev pub AreCoordinates : List ℕ → ℕ → List ℕ → Type 0
AreCoordinates ns a indices = All (λ k. k < slice_index ns a) indices

-- Says that the list `items` has what lies at each of the first `n` chosen coordinates of the first axis, one
-- coordinate after the other, each in row-major order.
abbrev pub ListsSelected : {A : Type 0} → List ℕ → (List ℕ → Option A) → List ℕ → ℕ → List A → Type 0
ListsSelected ns at indices n items =
    (length items ≡ n * size_of (collapsed_shape ns 0))
    × ((k : ℕ) (i : List ℕ) → k < n → IsTrue (in_box (collapsed_shape ns 0) i) → slice_get items (k * size_of (collapsed_shape ns 0) + row_rank (collapsed_shape ns 0) i) ≡ at (collapsed_index 0 (slice_index indices k) i))

-- Says that the list `items` has what `m` shows at each of the first `n` chosen coordinates of its first axis, one
-- coordinate after the other, each in row-major order.
abbrev pub ListsRows : {A : Type 0} → Meaning A → List ℕ → ℕ → List A → Type 0
ListsRows m indices n items = ListsSelected m.shape m.at indices n items
