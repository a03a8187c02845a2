-- What an act makes of an array, and what a write through a path, or to the two parts of a split, leaves of the
-- array.
use Rattle.std.specs.Prelude.{ℕ, ◌-◌, nat_eq, nat_lt, nat_le, Bool, true, false, List, [], ◌∷◌, ◌++◌, slice_index, slice_set, Option, None, Some, if◌then◌else◌}
use Rattle.std.specs.Cmp.Lexicographic.{pointwise}
use Rattle.std.specs.List.{find}
use Rattle.nd_shape_and_slice.specs.ShapesAndIndexOrders.{in_box, indexes_of}
use Rattle.nd_shape_and_slice.specs.Broadcast.{broadcasts}
use Rattle.nd_shape_and_slice.specs.LayoutIndexMaps.{lower_shape, upper_shape, upper_index}
use Rattle.nd_array_core.specs.ArrayMeaning.{Meaning, inside, meaning_through}
use Rattle.nd_array_core.specs.base.ArrayWrites.{with_element_at, with_swapped_at}
use Rattle.nd_array_core.specs.elements.BroadcastPairs.{broadcast_at}
use Rattle.nd_read.specs.ScriptCalls.{AskedStep, Acting, Filling, Assigning, Setting, Swapping}
use Rattle.nd_steps.specs.StepTestsAndShapes.{Test, first_failed, has_axis, keep_tests, step_shape, shape_along, index_along}
use Rattle.nd_steps.specs.declared.refusal_causes.Cause.{Cause}
use Rattle.nd_steps.specs.declared.refusal_causes.Cause.TheVariants as causes

-- ---- Acts

-- The test that an array of these lengths has the index.
abbrev pub has_index : List ℕ → List ℕ → Test
has_index index ns = (in_box ns index, causes.Index)

-- Returns the tests of an act on an array of these lengths, in order.
abbrev pub act_tests : {A : Type 0} → Acting A → List ℕ → List Test
act_tests (Filling x) ns = []
act_tests (Assigning other) ns = (broadcasts other.shape ns, causes.Broadcast) ∷ []
act_tests (Setting index x) ns = has_index index ns ∷ []
act_tests (Swapping a b) ns = has_index a ns ∷ has_index b ns ∷ []

-- Returns the first cause for which an act on an array of these lengths is refused, if there is one.
abbrev pub act_refusal : {A : Type 0} → Acting A → List ℕ → Option Cause
act_refusal act ns = first_failed (act_tests act ns)

-- Returns the element of each index after an act on the array `m`.
abbrev pub acted_elements : {A : Type 0} → Acting A → Meaning A → List ℕ → Option A
acted_elements (Filling x) m = λ i. inside m.shape i (Some x)
acted_elements (Assigning other) m = broadcast_at m.shape other
acted_elements (Setting index x) m = with_element_at m.at index x
acted_elements (Swapping a b) m = with_swapped_at m.at a b

-- Returns whether the act clones what it writes.
abbrev pub clones : {A : Type 0} → Acting A → Bool
clones (Filling x) = true
clones (Assigning other) = true
clones (Setting index x) = true
clones (Swapping a b) = false

-- ---- Writes through a path

-- Returns the tests of all steps of a path, where `tests` gives those of one step.
abbrev pub path_tests : (AskedStep → List ℕ → List Test) → List AskedStep → List ℕ → List Test
path_tests tests [] ns = []
path_tests tests (step ∷ steps) ns = tests step ns ++ path_tests tests steps (step_shape step ns)

-- Returns the first cause against a path to be written through, in which no step may let indexes share an element, if
-- there is one.
abbrev pub path_refusal : List AskedStep → List ℕ → Option Cause
path_refusal path ns = first_failed (path_tests keep_tests path ns)

-- Returns the tests of a path and then those of the act at its end.
abbrev pub write_tests : {A : Type 0} → List AskedStep → Acting A → List ℕ → List Test
write_tests path act ns = path_tests keep_tests path ns ++ act_tests act (shape_along path ns)

-- Returns the first cause against an act at the end of a path, if there is one.
abbrev pub write_refusal : {A : Type 0} → List AskedStep → Acting A → List ℕ → Option Cause
write_refusal path act ns = first_failed (write_tests path act ns)

-- Returns the array that is seen at the end of a path.
abbrev pub meaning_at_end : {A : Type 0} → List AskedStep → Meaning A → Meaning A
meaning_at_end path m = meaning_through (shape_along path m.shape) (index_along path m.shape) m

-- Returns the first index of the shape, in row-major order, that `source` maps to the index `i`, if there is one.
abbrev pub leading_to : List ℕ → (List ℕ → List ℕ) → List ℕ → Option (List ℕ)
leading_to shape source i = find (λ j. pointwise nat_eq (source j) i) (indexes_of shape)

-- Returns the new element of the index, or `old` if there is no index.
abbrev pub new_or_old : {A : Type 0} → (List ℕ → Option A) → Option A → Option (List ℕ) → Option A
new_or_old new old None = old
new_or_old new old (Some j) = new j

-- Returns the array `m` after a write through the map `source` from the indexes of `shape`: the index that `source`
-- gives for j has the new element of j, and every other index has its old element.
abbrev pub written_through : {A : Type 0} → List ℕ → (List ℕ → List ℕ) → (List ℕ → Option A) → Meaning A → Meaning A
written_through shape source new m = record { shape = m.shape; at = λ i. new_or_old new (m.at i) (leading_to shape source i) }

-- Returns the array `m` after an act at the end of a path.
abbrev pub written : {A : Type 0} → List AskedStep → Acting A → Meaning A → Meaning A
written path act m = written_through (shape_along path m.shape) (index_along path m.shape) (acted_elements act (meaning_at_end path m)) m

-- ---- Writes to the parts of a split

-- Returns the tests of an act on an array with the lengths `lower`, and then those of an act on one with the lengths
-- `upper`.
abbrev pub parts_tests : {A : Type 0} → Acting A → Acting A → List ℕ → List ℕ → List Test
parts_tests first second lower upper = act_tests first lower ++ act_tests second upper

-- Returns the first cause against two acts on two arrays of these lengths, if there is one.
abbrev pub parts_refusal : {A : Type 0} → Acting A → Acting A → List ℕ → List ℕ → Option Cause
parts_refusal first second lower upper = first_failed (parts_tests first second lower upper)

-- Returns the tests of where an array is split: it has the axis, and the coordinate is at most its length.
abbrev pub point_tests : ℕ → ℕ → List ℕ → List Test
point_tests axis index ns = has_axis axis ns ∷ (nat_le index (slice_index ns axis), causes.Index) ∷ []

-- Returns the first cause against where an array is split, if there is one.
abbrev pub point_refusal : ℕ → ℕ → List ℕ → Option Cause
point_refusal axis index ns = first_failed (point_tests axis index ns)

-- Returns the tests of where an array is split, and then those of the acts on both parts.
abbrev pub split_tests : {A : Type 0} → ℕ → ℕ → Acting A → Acting A → List ℕ → List Test
split_tests axis index first second ns = point_tests axis index ns ++ parts_tests first second (lower_shape ns axis index) (upper_shape ns axis index)

-- Returns the first cause against a split with an act on each part, if there is one.
abbrev pub split_refusal : {A : Type 0} → ℕ → ℕ → Acting A → Acting A → List ℕ → Option Cause
split_refusal axis index first second ns = first_failed (split_tests axis index first second ns)

-- Returns the part of the array `m` below a coordinate of an axis.
abbrev pub lower_meaning : {A : Type 0} → ℕ → ℕ → Meaning A → Meaning A
lower_meaning axis index m = meaning_through (lower_shape m.shape axis index) (λ i. i) m

-- Returns the part of the array `m` from a coordinate of an axis on.
abbrev pub upper_meaning : {A : Type 0} → ℕ → ℕ → Meaning A → Meaning A
upper_meaning axis index m = meaning_through (upper_shape m.shape axis index) (upper_index axis index) m

-- Returns the element of the index `i` where two parts lie end to end along an axis, the first of which has the
-- length `index` there.
abbrev pub joined_elements : {A : Type 0} → ℕ → ℕ → (List ℕ → Option A) → (List ℕ → Option A) → List ℕ → Option A
joined_elements axis index lower upper i = if nat_lt (slice_index i axis) index then lower i else upper (slice_set i axis (slice_index i axis - index))

-- Returns the array `m` after an act on each part of a split.
abbrev pub split_written : {A : Type 0} → ℕ → ℕ → Acting A → Acting A → Meaning A → Meaning A
split_written axis index first second m = record { shape = m.shape; at = λ i. inside m.shape i (joined_elements axis index (acted_elements first (lower_meaning axis index m)) (acted_elements second (upper_meaning axis index m)) i) }
