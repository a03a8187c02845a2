-- Index maps that name no old index twice: those of every layout step but broadcast, of a reshape, and of each path of
-- such steps. The claims are about maps alone, without strides and storages, so they hold of read-only views too.
use Rattle.std.specs.Prelude.{◌≡◌, ◌<◌, ◌≤◌, ◌&&◌, ℕ, Bool, true, false, List, [], ◌∷◌, length, reverse, swap, slice_index, ⊤, IsTrue}
use Rattle.nd_shape_and_slice.specs.declared.shape_builder.Order.{Order}
use Rattle.nd_shape_and_slice.specs.declared.slice.Slice.{Slice}
use Rattle.nd_shape_and_slice.specs.declared.slice_info.SliceInfoElem.{SliceInfoElem}
use Rattle.nd_shape_and_slice.specs.AxisPermutations.{HasEachAxis, permuted_list, unpermuted_list}
use Rattle.nd_shape_and_slice.specs.SliceEachAxis.{each_sliced_shape, each_sliced_index}
use Rattle.nd_shape_and_slice.specs.LayoutIndexMaps.{inverted_index, collapsed_shape, collapsed_index, lower_shape, upper_shape, upper_index, indexed_shape, indexed_index, inserted_shape, inserted_index, diagonal_length, diagonal_index}
use Rattle.nd_shape_and_slice.specs.ShapesAndIndexOrders.{in_box, size_of}
use Rattle.nd_shape_and_slice.specs.Slice.{fits_axis, sliced_shape, sliced_index}
use Rattle.nd_shape_and_slice.specs.SliceInfo.{each_fits, shape_after, index_before}
use Rattle.nd_shape_and_slice.specs.SlicingInTwoPasses.{collapsed_after, collapsed_before}
use Rattle.nd_shape_and_slice.specs.Squeeze.{squeezed_shape, squeezed_index}
use Rattle.nd_layout.specs.MergedAxes.{merged_shape, merged_index}
use Rattle.nd_array_core.specs.LayoutLaws.{PathStep, path_shape, path_source, StaysInside}
use Rattle.nd_array_core.specs.reshape.ReshapeByRank.{regrouped_index}

-- Says that the map `source` leads no two indexes of the shape `new` to the same index.
abbrev pub NamesOnce : List ℕ → (List ℕ → List ℕ) → Type 0
NamesOnce new source = (i j : List ℕ) → IsTrue (in_box new i) → IsTrue (in_box new j) → source i ≡ source j → i ≡ j

-- ---- The maps of slices: of one axis, by a list, by a list under which an indexed axis stays, and of each axis.
abbrev pub SlicesNameOnce : Type 0
SlicesNameOnce = (ns : List ℕ) (a : ℕ) (s : Slice) → a < length ns → IsTrue (fits_axis (slice_index ns a) s) → NamesOnce (sliced_shape ns a s) (sliced_index ns a s)

abbrev pub ListsNameOnce : Type 0
ListsNameOnce = (ns : List ℕ) (es : List SliceInfoElem) → IsTrue (each_fits ns es) → NamesOnce (shape_after ns es) (index_before ns es)

abbrev pub CollapsedListsNameOnce : Type 0
CollapsedListsNameOnce = (ns : List ℕ) (es : List SliceInfoElem) → IsTrue (each_fits ns es) → NamesOnce (collapsed_after ns es) (collapsed_before ns es)

-- Returns whether there are at most as many slices as axes, and each slice fits its axis.
abbrev pub each_slice_fits : List ℕ → List Slice → Bool
each_slice_fits ns [] = true
each_slice_fits [] (s ∷ ss) = false
each_slice_fits (n ∷ ns) (s ∷ ss) = fits_axis n s && each_slice_fits ns ss

abbrev pub EachSlicesNameOnce : Type 0
EachSlicesNameOnce = (ns : List ℕ) (ss : List Slice) → IsTrue (each_slice_fits ns ss) → NamesOnce (each_sliced_shape ns ss) (each_sliced_index ns ss)

-- ---- The maps of axes put in another order, of all axes reversed, of two axes exchanged, and of one axis inverted.
abbrev pub PermutationsNameOnce : Type 0
PermutationsNameOnce = (ns : List ℕ) (axes : List ℕ) → HasEachAxis axes (length ns) → NamesOnce (permuted_list axes ns) (unpermuted_list axes)

abbrev pub ReversalsNameOnce : Type 0
ReversalsNameOnce = (ns : List ℕ) → NamesOnce (reverse ns) reverse

abbrev pub ExchangesNameOnce : Type 0
ExchangesNameOnce = (ns : List ℕ) (a b : ℕ) → a < length ns → b < length ns → NamesOnce (swap ns a b) (λ i. swap i a b)

abbrev pub InversionsNameOnce : Type 0
InversionsNameOnce = (ns : List ℕ) (a : ℕ) → a < length ns → NamesOnce ns (inverted_index ns a)

-- ---- The maps to one coordinate of an axis, which stays or is removed, and to the coordinates below `k` and from `k`
-- on.
abbrev pub CollapsesNameOnce : Type 0
CollapsesNameOnce = (ns : List ℕ) (a k : ℕ) → a < length ns → NamesOnce (collapsed_shape ns a) (collapsed_index a k)

abbrev pub CoordinatesNameOnce : Type 0
CoordinatesNameOnce = (ns : List ℕ) (a k : ℕ) → a < length ns → NamesOnce (indexed_shape ns a) (indexed_index a k)

abbrev pub LowerPartsNameOnce : Type 0
LowerPartsNameOnce = (ns : List ℕ) (a k : ℕ) → NamesOnce (lower_shape ns a k) (λ i. i)

abbrev pub UpperPartsNameOnce : Type 0
UpperPartsNameOnce = (ns : List ℕ) (a k : ℕ) → a < length ns → NamesOnce (upper_shape ns a k) (upper_index a k)

-- ---- The maps of an axis inserted, axes of length 1 removed, two axes merged, the diagonal, and a reshape.
abbrev pub InsertionsNameOnce : Type 0
InsertionsNameOnce = (ns : List ℕ) (a : ℕ) → a ≤ length ns → NamesOnce (inserted_shape ns a) (inserted_index a)

abbrev pub SqueezesNameOnce : Type 0
SqueezesNameOnce = (ns : List ℕ) → NamesOnce (squeezed_shape ns) (squeezed_index ns)

abbrev pub MergesNameOnce : Type 0
MergesNameOnce = (ns : List ℕ) (take into : ℕ) → take < length ns → into < length ns → NamesOnce (merged_shape ns take into) (merged_index ns take into)

abbrev pub DiagonalsNameOnce : Type 0
DiagonalsNameOnce = (ns : List ℕ) → NamesOnce (diagonal_length ns ∷ []) (diagonal_index ns)

abbrev pub ReshapesNameOnce : Type 0
ReshapesNameOnce = (order : Order) (ns ms : List ℕ) → size_of ms ≡ size_of ns → NamesOnce ms (regrouped_index order ns ms)

-- ---- The maps of paths.
-- Says that the map of each step names no old index twice.
abbrev pub EachNamesOnce : List PathStep → Type 0
EachNamesOnce [] = ⊤
EachNamesOnce (p ∷ ps) = NamesOnce p.new_shape p.old_index × EachNamesOnce ps

-- A path whose steps stay inside, and each name no old index twice, names no old index twice.
abbrev pub PathsNameOnce : Type 0
PathsNameOnce = (ns : List ℕ) (steps : List PathStep) → StaysInside ns steps → EachNamesOnce steps → NamesOnce (path_shape ns steps) (path_source steps)
