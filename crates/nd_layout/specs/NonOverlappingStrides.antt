-- Spans that fit, and axes that stand apart.
use Rattle.std.specs.Prelude.{ℕ, ◌≡◌, ◌*◌, ◌<◌, ◌≤◌, List, slice_index, ℤ, Option, MatchOption}
use Rattle.nd_shape_and_slice.specs.ShapesAndIndexOrders.{size_of}
use Rattle.nd_shape_and_slice.specs.PlacesAndOverlaps.{span_within, magnitude_at, IsSeparated}

-- Says that `found` is the number `n` if it is below the bound, and None otherwise.
abbrev pub IsNumberBelow : ℕ → ℕ → Option ℕ → Type 0
IsNumberBelow bound n found = MatchOption found (bound ≤ n) (λ m. (m ≡ n) × (m < bound))

-- Says that the axis, if it is longer than 1, steps further than the other axes of no greater magnitude reach
-- together.
abbrev pub StandsApart : List ℕ → List ℤ → ℕ → Type 0
StandsApart ns ss axis = 1 < slice_index ns axis → span_within (magnitude_at ss axis) ns ss < slice_index ns axis * magnitude_at ss axis

-- Says that the second strides are separated if the first ones are and the second shape has elements.
abbrev pub KeepsSeparation : List ℕ → List ℤ → List ℕ → List ℤ → Type 0
KeepsSeparation ns ss ms ts = 0 < size_of ms → IsSeparated ns ss → IsSeparated ms ts
