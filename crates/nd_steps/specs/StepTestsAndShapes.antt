-- What a step asks of an array, by its lengths alone, and what it makes of the lengths and of the indexes.
use Rattle.std.specs.Prelude.{◌≡◌, ℕ, ◌+◌, ◌^◌, ◌==◌, Bool, true, false, not, nat_lt, nat_le, List, [], ◌∷◌, length, reverse, swap, slice_index, Option, None, Some, is_some, Result, Ok, Err, if◌then◌else◌}
use Rattle.nd_shape_and_slice.specs.ShapesAndIndexOrders.{nonzero_product}
use Rattle.nd_shape_and_slice.specs.AxisPermutations.{names_each_axis, permuted_list, unpermuted_list}
use Rattle.nd_shape_and_slice.specs.Slice.{fits_axis, sliced_shape, sliced_index}
use Rattle.nd_shape_and_slice.specs.declared.slice_info.SliceInfoElem.{SliceInfoElem}
use Rattle.nd_shape_and_slice.specs.declared.slice_info.SliceInfoElem.TheVariants.{Slice as Part, Index, NewAxis}
use Rattle.nd_shape_and_slice.specs.SliceInfo.{axes_read, axes_kept, coordinate_on, shape_after, index_before}
use Rattle.nd_shape_and_slice.specs.Squeeze.{squeezed_shape, squeezed_index}
use Rattle.nd_shape_and_slice.specs.Broadcast.{broadcasts, broadcast_index}
use Rattle.nd_shape_and_slice.specs.LayoutIndexMaps.{inverted_index, collapsed_shape, collapsed_index, indexed_shape, indexed_index, inserted_shape, inserted_index, diagonal_length, diagonal_index}
use Rattle.nd_read.specs.ScriptCalls.{AskedStep, SlicedAxis, Sliced, Collapsed, Indexed, Permuted, Reversed, Exchanged, Inverted, Inserted, Removed, Squeezed, Diagonal, BroadcastTo}
use Rattle.nd_steps.specs.declared.refusal_causes.Cause.{Cause}
use Rattle.nd_steps.specs.declared.refusal_causes.Cause.TheVariants as causes

-- Returns the number of a cause in a reply.
abbrev pub number_of : Cause → ℕ
number_of causes.Axis = 1
number_of causes.Index = 2
number_of causes.Slice = 3
number_of causes.Permutation = 4
number_of causes.Shape = 5
number_of causes.Overflow = 6
number_of causes.TooManyAxes = 7
number_of causes.Broadcast = 8

-- A test, and the cause of a refusal where it fails.
abbrev pub Test : Type 0
Test = Bool × Cause

-- Returns the cause of the first test that fails, if there is one.
abbrev pub first_failed : List Test → Option Cause
first_failed [] = None
first_failed (test ∷ tests) = if test.0 then first_failed tests else Some test.1

-- The test that there is such an axis.
abbrev pub has_axis : ℕ → List ℕ → Test
has_axis axis ns = (nat_lt axis (length ns), causes.Axis)

-- The test that the lengths have a checked size.
abbrev pub size_test : List ℕ → Test
size_test ns = (nat_lt (nonzero_product ns) (2 ^ 63), causes.Overflow)

-- The test that the axis has such a coordinate.
abbrev pub has_coordinate : ℕ → ℕ → List ℕ → Test
has_coordinate axis index ns = (nat_lt index (slice_index ns axis), causes.Index)

-- Returns the tests of the elements of a list of slices, which read the axes from `axis` on.
abbrev pub element_tests : ℕ → List ℕ → List SliceInfoElem → List Test
element_tests axis ns [] = []
element_tests axis ns (Part start end step ∷ es) = (fits_axis (slice_index ns axis) (record { start = start; end = end; step = step }), causes.Slice) ∷ element_tests (axis + 1) ns es
element_tests axis ns (Index k ∷ es) = (is_some (coordinate_on (slice_index ns axis) k), causes.Index) ∷ element_tests (axis + 1) ns es
element_tests axis ns (NewAxis ∷ es) = element_tests axis ns es

-- Returns the tests of a step, in order.
abbrev pub tests_of : AskedStep → List ℕ → List Test
tests_of (SlicedAxis axis slice) ns = has_axis axis ns ∷ (fits_axis (slice_index ns axis) slice, causes.Slice) ∷ []
tests_of (Sliced es) ns = (axes_read es == length ns, causes.Shape) ∷ (nat_le (axes_kept es) 32, causes.TooManyAxes) ∷ element_tests 0 ns es
tests_of (Collapsed axis index) ns = has_axis axis ns ∷ has_coordinate axis index ns ∷ []
tests_of (Indexed axis index) ns = has_axis axis ns ∷ has_coordinate axis index ns ∷ []
tests_of (Permuted axes) ns = (names_each_axis axes (length ns), causes.Permutation) ∷ []
tests_of Reversed ns = []
tests_of (Exchanged a b) ns = has_axis a ns ∷ has_axis b ns ∷ []
tests_of (Inverted axis) ns = has_axis axis ns ∷ []
tests_of (Inserted axis) ns = (nat_le axis (length ns), causes.Axis) ∷ (nat_lt (length ns) 32, causes.TooManyAxes) ∷ []
tests_of (Removed axis) ns = has_axis axis ns ∷ has_coordinate axis 0 ns ∷ []
tests_of Squeezed ns = []
tests_of Diagonal ns = []
tests_of (BroadcastTo to) ns = (nat_le (length to) 32, causes.TooManyAxes) ∷ (broadcasts ns to, causes.Broadcast) ∷ []

-- Returns the first cause against a step on an array of these lengths, if there is one.
abbrev pub refusal : AskedStep → List ℕ → Option Cause
refusal step ns = first_failed (tests_of step ns)

-- Returns whether the step lets indexes share an element.
abbrev pub shares : AskedStep → Bool
shares (BroadcastTo to) = true
shares _ = false

-- Returns the tests of a step whose result is kept or written to.
abbrev pub keep_tests : AskedStep → List ℕ → List Test
keep_tests step ns = (not (shares step), causes.Broadcast) ∷ tests_of step ns

-- Returns the first cause against a step whose result is kept or written to, if there is one.
abbrev pub keep_refusal : AskedStep → List ℕ → Option Cause
keep_refusal step ns = first_failed (keep_tests step ns)

-- Returns whether the step changes the axes of an array where it lies.
abbrev pub changes_axes : AskedStep → Bool
changes_axes (Sliced es) = false
changes_axes Squeezed = false
changes_axes Diagonal = false
changes_axes (BroadcastTo to) = false
changes_axes _ = true

-- Returns the lengths after a step.
abbrev pub step_shape : AskedStep → List ℕ → List ℕ
step_shape (SlicedAxis axis slice) ns = sliced_shape ns axis slice
step_shape (Sliced es) ns = shape_after ns es
step_shape (Collapsed axis index) ns = collapsed_shape ns axis
step_shape (Indexed axis index) ns = indexed_shape ns axis
step_shape (Permuted axes) ns = permuted_list axes ns
step_shape Reversed ns = reverse ns
step_shape (Exchanged a b) ns = swap ns a b
step_shape (Inverted axis) ns = ns
step_shape (Inserted axis) ns = inserted_shape ns axis
step_shape (Removed axis) ns = indexed_shape ns axis
step_shape Squeezed ns = squeezed_shape ns
step_shape Diagonal ns = diagonal_length ns ∷ []
step_shape (BroadcastTo to) ns = to

-- Returns the index before a step that the index `i` after it names.
abbrev pub step_index : AskedStep → List ℕ → List ℕ → List ℕ
step_index (SlicedAxis axis slice) ns i = sliced_index ns axis slice i
step_index (Sliced es) ns i = index_before ns es i
step_index (Collapsed axis index) ns i = collapsed_index axis index i
step_index (Indexed axis index) ns i = indexed_index axis index i
step_index (Permuted axes) ns i = unpermuted_list axes i
step_index Reversed ns i = reverse i
step_index (Exchanged a b) ns i = swap i a b
step_index (Inverted axis) ns i = inverted_index ns axis i
step_index (Inserted axis) ns i = inserted_index axis i
step_index (Removed axis) ns i = indexed_index axis 0 i
step_index Squeezed ns i = squeezed_index ns i
step_index Diagonal ns i = diagonal_index ns i
step_index (BroadcastTo to) ns i = broadcast_index ns to i

-- Returns the lengths after a path of steps.
abbrev pub shape_along : List AskedStep → List ℕ → List ℕ
shape_along [] ns = ns
shape_along (step ∷ steps) ns = shape_along steps (step_shape step ns)

-- Returns the index before a path of steps that the index `i` after it names: the composition of its steps' maps.
abbrev pub index_along : List AskedStep → List ℕ → List ℕ → List ℕ
index_along [] ns i = i
index_along (step ∷ steps) ns i = step_index step ns (index_along steps (step_shape step ns) i)

-- Returns the value as `Ok`, or the cause against it as `Err` if there is one.
abbrev pub unless : {X E : Type 0} → Option E → X → Result X E
unless None x = Ok x
unless (Some cause) x = Err cause

-- Says that the result of a check tells the first cause `refused`, if there is one.
abbrev pub Refuses : {X : Type 0} → Result X Cause → Option Cause → Type 0
Refuses (Ok x) refused = refused ≡ None
Refuses (Err cause) refused = refused ≡ Some cause
