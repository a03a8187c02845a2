-- Where the elements of an array lie: the place of an index is the offset plus, for each axis, the coordinate times
-- the axis's stride, in whole numbers without bounds.
use Rattle.std.specs.Prelude.{ℕ, ◌+◌, ◌-◌, ◌*◌, ◌<◌, nat_le, List, [], ◌∷◌, slice_index, ℤ, pos, ◌+ℤ◌, ◌*ℤ◌, nat_abs, if◌then◌else◌}
use Rattle.std.proofs.Common.{get_or}

-- Returns how far from the offset an index lies under these strides: the sum of coordinate times stride.
abbrev pub displacement_of : List ℤ → List ℕ → ℤ
displacement_of [] is = pos 0
displacement_of (s ∷ ss) [] = pos 0
displacement_of (s ∷ ss) (i ∷ is) = (pos i *ℤ s) +ℤ displacement_of ss is

-- Returns the place of an index under this offset and these strides.
abbrev pub place_of : ℕ → List ℤ → List ℕ → ℤ
place_of offset strides index = pos offset +ℤ displacement_of strides index

-- The span is how far apart two places of the array can lie at most: the sum over the axes of (length - 1) times the
-- stride's magnitude.
abbrev pub span_of : List ℕ → List ℤ → ℕ
span_of [] ss = 0
span_of (n ∷ ns) [] = 0
span_of (n ∷ ns) (s ∷ ss) = (n - 1) * nat_abs s + span_of ns ss

-- Returns the span over only those axes whose stride has at most the magnitude `m`.
abbrev pub span_within : ℕ → List ℕ → List ℤ → ℕ
span_within m [] ss = 0
span_within m (n ∷ ns) [] = 0
span_within m (n ∷ ns) (s ∷ ss) = (if nat_le (nat_abs s) m then (n - 1) * nat_abs s else 0) + span_within m ns ss

-- Returns the magnitude of the stride of axis `k`, and 0 where there is no such axis.
abbrev pub magnitude_at : List ℤ → ℕ → ℕ
magnitude_at ss k = nat_abs (get_or ss k (pos 0))

-- Says that the strides are separated: each axis longer than 1 steps further than all other axes of at most its
-- magnitude reach together. (The axis itself is counted on both sides.) Then no two indexes share a place.
abbrev pub IsSeparated : List ℕ → List ℤ → Type 0
IsSeparated ns ss = (k : ℕ) → 1 < slice_index ns k → span_within (magnitude_at ss k) ns ss < slice_index ns k * magnitude_at ss k
