-- Axes that a slice fits, and what a fill leaves of a slice of the caller's.
use Rattle.std.specs.Prelude.{◌≡◌, ◌<◌, ℕ, nat_lt, List, length, slice_index, Some, slice_get, if◌then◌else◌, IsTrue}
use Rattle.nd_array_core.specs.ShapesAndIndexOrders.{in_box}
use Rattle.nd_array_core.specs.Prelude.{fits_axis, Slice}
use Rattle.nd_array_core.specs.scoped.SlicesLentAsViews.{GivenShape, element_in_slice}

-- Says that the shape has the axis, and that the slice fits it.
abbrev pub FitsAxis : List ℕ → ℕ → Slice → Type 0
FitsAxis shape axis slice = (axis < length shape) × IsTrue (fits_axis (slice_index shape axis) slice)

module _ {A : Type 0} where
  -- Says that the slice has `x` at the place of each index of the shape.
  abbrev pub IsFilledSeen : List A → GivenShape → A → Type 0
  IsFilledSeen xs given x = (i : List ℕ) → IsTrue (in_box given.0 i) → element_in_slice xs given i ≡ Some x

  -- Says that the first `n` elements are `x`, and that the others are as they were.
  abbrev pub IsFrontFilled : List A → List A → ℕ → A → Type 0
  IsFrontFilled old new n x = (p : ℕ) → slice_get new p ≡ (if nat_lt p n then Some x else slice_get old p)
