-- Laws of layout calls. They are about meanings alone: a shape, and an element at each index of its box.
use Rattle.std.specs.Prelude.{◌≡◌, ◌<◌, ◌≤◌, ◌==◌, ℕ, false, List, [], ◌∷◌, length, map, reverse, swap, slice_index, slice_set, Option, None, Some, is_some, ⊤, IsTrue}
use Rattle.std.specs.List.{position_or_len, range_with_len}
use Rattle.nd_shape_and_slice.specs.declared.slice.Slice.{Slice}
use Rattle.nd_shape_and_slice.specs.AxisPermutations.{HasEachAxis, permuted_list, unpermuted_list}
use Rattle.nd_shape_and_slice.specs.ShapesAndIndexOrders.{in_box}
use Rattle.nd_shape_and_slice.specs.Slice.{fits_axis, sliced_length, sliced_from, sliced_shape, sliced_index}
use Rattle.nd_shape_and_slice.specs.LayoutIndexMaps.{inverted_index, collapsed_shape, collapsed_index, lower_shape, upper_shape, upper_index, indexed_shape, indexed_index, inserted_shape, inserted_index}
use Rattle.nd_elements.specs.ShapeAndElements.{Meaning}
use Rattle.nd_array_core.specs.ArrayMeaning.{meaning_through}
use Rattle.nd_array_core.specs.ArrayInStorage.{PlacedArray, element_placed}
use Rattle.nd_shape_and_slice.specs.declared.slice_info.SliceInfoElem.{SliceInfoElem}
use Rattle.nd_shape_and_slice.specs.SliceInfo.{each_fits, shape_after, index_before}
use Rattle.nd_shape_and_slice.specs.SlicingInTwoPasses.{collapsed_after, collapsed_before}
use Rattle.nd_shape_and_slice.specs.Broadcast.{broadcast_index}

-- Says that `m` has no element at an index outside its shape, as is so for every array.
abbrev pub NothingOutside : {A : Type 0} → Meaning A → Type 0
NothingOutside m = (i : List ℕ) → in_box m.shape i ≡ false → m.at i ≡ None

-- ---- What the layout calls make of a meaning.
-- Returns `m` with its axes in the order of the list `axes`.
abbrev pub with_axes : {A : Type 0} → List ℕ → Meaning A → Meaning A
with_axes axes m = meaning_through (permuted_list axes m.shape) (unpermuted_list axes) m

abbrev pub with_axes_reversed : {A : Type 0} → Meaning A → Meaning A
with_axes_reversed m = meaning_through (reverse m.shape) reverse m

abbrev pub with_axis_inverted : {A : Type 0} → ℕ → Meaning A → Meaning A
with_axis_inverted a m = meaning_through m.shape (inverted_index m.shape a) m

abbrev pub with_axis_inserted : {A : Type 0} → ℕ → Meaning A → Meaning A
with_axis_inserted a m = meaning_through (inserted_shape m.shape a) (inserted_index a) m

-- Returns what `m` has at the coordinate 0 of the axis `a`, without the axis.
abbrev pub with_axis_removed : {A : Type 0} → ℕ → Meaning A → Meaning A
with_axis_removed a m = meaning_through (indexed_shape m.shape a) (indexed_index a 0) m

abbrev pub with_axis_sliced : {A : Type 0} → ℕ → Slice → Meaning A → Meaning A
with_axis_sliced a s m = meaning_through (sliced_shape m.shape a s) (sliced_index m.shape a s) m

abbrev pub broadcast_to : {A : Type 0} → List ℕ → Meaning A → Meaning A
broadcast_to to m = meaning_through to (broadcast_index m.shape to) m

-- ---- The laws.
-- Returns the order of axes that leads back from the order `axes`: for each axis, its position in the list `axes`.
abbrev pub inverse_of : List ℕ → List ℕ
inverse_of axes = map (λ a. position_or_len (λ b. b == a) axes) (range_with_len 0 (length axes))

abbrev pub PermutedBack : Type 0 → Type 0
PermutedBack A = (m : Meaning A) (axes : List ℕ) → NothingOutside m → HasEachAxis axes (length m.shape) → with_axes (inverse_of axes) (with_axes axes m) ≡ m

abbrev pub ReversedTwice : Type 0 → Type 0
ReversedTwice A = (m : Meaning A) → NothingOutside m → with_axes_reversed (with_axes_reversed m) ≡ m

abbrev pub InvertedTwice : Type 0 → Type 0
InvertedTwice A = (m : Meaning A) (a : ℕ) → NothingOutside m → a < length m.shape → with_axis_inverted a (with_axis_inverted a m) ≡ m

abbrev pub InsertedAndRemoved : Type 0 → Type 0
InsertedAndRemoved A = (m : Meaning A) (a : ℕ) → NothingOutside m → a ≤ length m.shape → with_axis_removed a (with_axis_inserted a m) ≡ m

-- Returns the coordinate of an axis of length `n` that the coordinate `c` names after the slices `first` and `second`:
-- the second slice names a coordinate of what the first one leaves, and the first one a coordinate of the axis.
abbrev pub twice_sliced_from : ℕ → Slice → Slice → ℕ → ℕ
twice_sliced_from n first second c = sliced_from n first (sliced_from (sliced_length n first) second c)

-- An axis that is sliced twice shows what one map of its coordinates shows: the composition of both slices.
abbrev pub SlicedTwice : Type 0 → Type 0
SlicedTwice A = (m : Meaning A) (a : ℕ) (first second : Slice) → a < length m.shape → IsTrue (fits_axis (slice_index m.shape a) first) → IsTrue (fits_axis (sliced_length (slice_index m.shape a) first) second) → with_axis_sliced a second (with_axis_sliced a first m) ≡ meaning_through (slice_set m.shape a (sliced_length (sliced_length (slice_index m.shape a) first) second)) (λ i. slice_set i a (twice_sliced_from (slice_index m.shape a) first second (slice_index i a))) m

-- ---- Paths of layout steps. A step has its new shape, and tells for each new index the old index that it names.
pub record PathStep : Type 0 where
  pub new_shape : List ℕ
  pub old_index : List ℕ → List ℕ

-- Returns what the steps make of `m`, one after the other.
abbrev pub meaning_along : {A : Type 0} → List PathStep → Meaning A → Meaning A
meaning_along [] m = m
meaning_along (p ∷ ps) m = meaning_along ps (meaning_through p.new_shape p.old_index m)

-- Returns the shape after all steps, where `ns` is the shape before them.
abbrev pub path_shape : List ℕ → List PathStep → List ℕ
path_shape ns [] = ns
path_shape ns (p ∷ ps) = path_shape p.new_shape ps

-- Returns the index before all steps that the index `i` after them names.
abbrev pub path_source : List PathStep → List ℕ → List ℕ
path_source [] i = i
path_source (p ∷ ps) i = p.old_index (path_source ps i)

-- Says that the map `source` leads each index of the shape `new` to an index of the shape `old`.
abbrev pub LeadsInside : List ℕ → (List ℕ → List ℕ) → List ℕ → Type 0
LeadsInside new source old = (i : List ℕ) → IsTrue (in_box new i) → IsTrue (in_box old (source i))

-- The map of a fitting slice of one axis leads each new index into the old shape.
abbrev pub SlicesLeadInside : Type 0
SlicesLeadInside = (ns : List ℕ) (a : ℕ) (s : Slice) → a < length ns → IsTrue (fits_axis (slice_index ns a) s) → LeadsInside (sliced_shape ns a s) (sliced_index ns a s) ns

-- The map of a fitting list of slices leads each new index into the old shape.
abbrev pub ListsLeadInside : Type 0
ListsLeadInside = (ns : List ℕ) (es : List SliceInfoElem) → IsTrue (each_fits ns es) → LeadsInside (shape_after ns es) (index_before ns es) ns

-- The map of a fitting list of slices under which an indexed axis stays leads each new index into the old shape.
abbrev pub CollapsedListsLeadInside : Type 0
CollapsedListsLeadInside = (ns : List ℕ) (es : List SliceInfoElem) → IsTrue (each_fits ns es) → LeadsInside (collapsed_after ns es) (collapsed_before ns es) ns

-- The map of axes put in another order leads each new index into the old shape.
abbrev pub PermutationsLeadInside : Type 0
PermutationsLeadInside = (ns : List ℕ) (axes : List ℕ) → HasEachAxis axes (length ns) → LeadsInside (permuted_list axes ns) (unpermuted_list axes) ns

-- The map of two axes exchanged leads each new index into the old shape.
abbrev pub ExchangesLeadInside : Type 0
ExchangesLeadInside = (ns : List ℕ) (a b : ℕ) → a < length ns → b < length ns → LeadsInside (swap ns a b) (λ i. swap i a b) ns

-- The map to one coordinate of an axis, which stays with length 1, leads each new index into the old shape.
abbrev pub CollapsesLeadInside : Type 0
CollapsesLeadInside = (ns : List ℕ) (a k : ℕ) → k < slice_index ns a → LeadsInside (collapsed_shape ns a) (collapsed_index a k) ns

-- The map to one coordinate of an axis, which is removed, leads each new index into the old shape.
abbrev pub CoordinatesLeadInside : Type 0
CoordinatesLeadInside = (ns : List ℕ) (a k : ℕ) → a < length ns → k < slice_index ns a → LeadsInside (indexed_shape ns a) (indexed_index a k) ns

-- The map to the coordinates of an axis below `k` leads each new index into the old shape.
abbrev pub LowerPartsLeadInside : Type 0
LowerPartsLeadInside = (ns : List ℕ) (a k : ℕ) → a < length ns → k ≤ slice_index ns a → LeadsInside (lower_shape ns a k) (λ i. i) ns

-- The map to the coordinates of an axis from `k` on leads each new index into the old shape.
abbrev pub UpperPartsLeadInside : Type 0
UpperPartsLeadInside = (ns : List ℕ) (a k : ℕ) → a < length ns → k ≤ slice_index ns a → LeadsInside (upper_shape ns a k) (upper_index a k) ns

-- Says that each step's map leads its new indexes into the shape before the step, where `ns` is the first shape.
abbrev pub StaysInside : List ℕ → List PathStep → Type 0
StaysInside ns [] = ⊤
StaysInside ns (p ∷ ps) = LeadsInside p.new_shape p.old_index ns × StaysInside p.new_shape ps

-- A path whose steps stay inside is one map: the composition of the maps of its steps.
abbrev pub PathIsOneMap : Type 0 → Type 0
PathIsOneMap A = (m : Meaning A) (steps : List PathStep) → NothingOutside m → StaysInside m.shape steps → meaning_along steps m ≡ meaning_through (path_shape m.shape steps) (path_source steps) m

-- ---- Places.

-- Says that the indexes inside the shape, and no others, have a place.
abbrev pub IndexesHavePlaces : {A : Type 0} → PlacedArray A → Type 0
IndexesHavePlaces v = (i : List ℕ) → is_some (v.place i) ≡ in_box v.placed_shape i

-- Says that `at` gives at each index what the storage of `v` holds at the place of the index.
abbrev pub ShowsStored : {A : Type 0} → (List ℕ → Option A) → PlacedArray A → Type 0
ShowsStored at v = (i : List ℕ) → at i ≡ element_placed v i

-- Says that no two indexes have the same place.
abbrev pub DistinctPlaces : {A : Type 0} → PlacedArray A → Type 0
DistinctPlaces v = (i j : List ℕ) (p : ℕ) → v.place i ≡ Some p → v.place j ≡ Some p → i ≡ j
