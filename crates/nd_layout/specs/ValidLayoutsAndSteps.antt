-- A layout step: from the lengths and strides of an array to those of a view of it.
use Rattle.std.specs.Prelude.{◌≡◌, ℕ, ◌≤◌, List, length, ℤ, ◌<◌, ◌^◌, IsTrue}
use Rattle.nd_shape_and_slice.specs.ShapesAndIndexOrders.{in_box, HasCheckedSize}
use Rattle.nd_shape_and_slice.specs.PlacesAndOverlaps.{place_of, span_of, IsSeparated}
use Rattle.nd_layout.specs.ValidMemoryPlaces.{ReachesPlaces}

-- Says that an array may have this offset, these lengths and these strides: there are as many strides as lengths, the
-- size is checked, no two places are further apart than `isize::MAX`, and each index of the shape has a place.
pub record IsValid (offset : ℕ) (lengths : List ℕ) (strides : List ℤ) : Type 0 where
  pub as_many : length strides ≡ length lengths
  pub spread : span_of lengths strides < 2 ^ 63
  pub checked : HasCheckedSize lengths
  pub reach : ReachesPlaces offset lengths strides

-- Says that each index of the new shape names, by `source`, an old index that has the same place, and that the new
-- lengths and strides are as good as the old: the span isn't greater, and a checked size and separated strides are
-- kept.
pub record IsStep (offset : ℕ) (lengths : List ℕ) (strides : List ℤ) (new_offset : ℕ) (new_lengths : List ℕ) (new_strides : List ℤ) (source : List ℕ → List ℕ) : Type 0 where
  pub within : (i : List ℕ) → IsTrue (in_box new_lengths i) → IsTrue (in_box lengths (source i))
  pub same : (i : List ℕ) → IsTrue (in_box new_lengths i) → place_of new_offset new_strides i ≡ place_of offset strides (source i)
  pub as_many : length new_strides ≡ length new_lengths
  pub spread : span_of new_lengths new_strides ≤ span_of lengths strides
  pub checked : HasCheckedSize lengths → HasCheckedSize new_lengths
  pub separated : IsSeparated lengths strides → IsSeparated new_lengths new_strides

-- Says that each index of the new shape names, by `source`, an old index that has the same place. This is what a view
-- needs, where several indexes may share an element.
pub record IsViewStep (offset : ℕ) (lengths : List ℕ) (strides : List ℤ) (new_offset : ℕ) (new_lengths : List ℕ) (new_strides : List ℤ) (source : List ℕ → List ℕ) : Type 0 where
  pub within : (i : List ℕ) → IsTrue (in_box new_lengths i) → IsTrue (in_box lengths (source i))
  pub same : (i : List ℕ) → IsTrue (in_box new_lengths i) → place_of new_offset new_strides i ≡ place_of offset strides (source i)
