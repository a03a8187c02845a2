-- Places: the whole numbers at which elements can lie.
use Rattle.std.specs.Prelude.{ℕ, ◌^◌, ◌≡◌, Bool, false, nat_lt, List, ℤ, pos, negsuc, Option, MatchOption, IsTrue}
use Rattle.nd_shape_and_slice.specs.FirstIndex.{first_index}
use Rattle.nd_shape_and_slice.specs.ShapesAndIndexOrders.{in_box}
use Rattle.nd_shape_and_slice.specs.PlacesAndOverlaps.{place_of}

-- Returns whether a whole number is a place: it isn't negative, and it is below 2^63.
abbrev pub is_place : ℤ → Bool
is_place (pos p) = nat_lt p (2 ^ 63)
is_place (negsuc p) = false

-- Returns whether a `usize` holds the whole number.
abbrev pub is_usize : ℤ → Bool
is_usize (pos p) = nat_lt p (2 ^ 64)
is_usize (negsuc p) = false

-- Says that each index of the shape lies at a number that a `usize` holds.
abbrev pub ReachesUsizes : ℕ → List ℕ → List ℤ → Type 0
ReachesUsizes first lengths strides = (i : List ℕ) → IsTrue (in_box lengths i) → IsTrue (is_usize (place_of first strides i))

-- Says that each index of the shape lies at a place.
abbrev pub ReachesPlaces : ℕ → List ℕ → List ℤ → Type 0
ReachesPlaces offset lengths strides = (i : List ℕ) → IsTrue (in_box lengths i) → IsTrue (is_place (place_of offset strides i))

-- Says that `found` is the place of the index, or None if the shape has no such index.
abbrev pub IsPlaceOf : ℕ → List ℕ → List ℤ → List ℕ → Option ℕ → Type 0
IsPlaceOf offset lengths strides index found = MatchOption found (in_box lengths index ≡ false) (λ place. IsTrue (in_box lengths index) × (pos place ≡ place_of offset strides index))

-- Says that `found` is the place of the index of zeros, or None if the shape has no elements.
abbrev pub IsFirstPlace : ℕ → List ℕ → List ℤ → Option ℕ → Type 0
IsFirstPlace offset lengths strides found = IsPlaceOf offset lengths strides (first_index lengths) found
