-- The axis that steps furthest, and two axes merged into one.
use Rattle.std.specs.Prelude.{ℕ, ◌*◌, ◌/◌, ◌%◌, ◌<◌, ◌≤◌, ◌≡◌, nat_lt, min, if◌then◌else◌, List, length, slice_index, slice_index_or, slice_set, swap, ℤ, pos, ◌*ℤ◌}
use Rattle.nd_shape_and_slice.specs.PlacesAndOverlaps.{magnitude_at}

-- Says that `a` is an axis longer than 1 whose stride has at least the magnitude of that of every other axis longer
-- than 1; or that no axis is longer than 1, and `a` is axis 0.
pub record StepsFurthest (ns : List ℕ) (ss : List ℤ) (a : ℕ) : Type 0 where
  pub on : a < length ns
  pub furthest : (k : ℕ) → 1 < slice_index ns k → (1 < slice_index ns a) × (magnitude_at ss k ≤ magnitude_at ss a)
  pub first : slice_index ns a ≤ 1 → a ≡ 0

-- Says that axis `a` is longer than 1, and that its stride has at least the magnitude of that of axis `b`, if `b` is
-- longer than 1.
abbrev pub StepsNoLess : List ℕ → List ℤ → ℕ → ℕ → Type 0
StepsNoLess ns ss a b = (1 < slice_index ns a) × (1 < slice_index ns b → magnitude_at ss b ≤ magnitude_at ss a)

-- Says that axis `a` can be merged into axis `b`: one of them has at most length 1, or they are two axes and the
-- stride of `a` is the length of `b` times the stride of `b`.
pub data CanMerge (ns : List ℕ) (ss : List ℤ) (a b : ℕ) : Type 0 where
  ShortTaken : slice_index ns a ≤ 1 → CanMerge ns ss a b
  ShortInto : slice_index ns b ≤ 1 → CanMerge ns ss a b
  GoesOn : ¬ (a ≡ b) → slice_index_or ss a (pos 0) ≡ pos (slice_index ns b) *ℤ slice_index_or ss b (pos 0) → CanMerge ns ss a b

-- Returns the shape after axis `a` is merged into axis `b`: `b` has the product of both lengths, and `a` has length
-- 1, or 0 where the product is 0.
abbrev pub merged_shape : List ℕ → ℕ → ℕ → List ℕ
merged_shape ns a b = slice_set (slice_set ns b (slice_index ns b * slice_index ns a)) a (min 1 (slice_index ns b * slice_index ns a))

-- Returns the strides after axis `a` of length `n` is merged into axis `b` of length `m`: if `a` is longer than 1 and
-- `b` isn't, they swap their strides, and otherwise all stay.
abbrev pub strides_merged_by : List ℤ → ℕ → ℕ → ℕ → ℕ → List ℤ
strides_merged_by ss a n b m = if nat_lt 1 m then ss else (if nat_lt 1 n then swap ss a b else ss)

-- Returns the strides after axis `a` is merged into axis `b`, where the axes have the lengths in `ns`.
abbrev pub merged_strides : List ℕ → List ℤ → ℕ → ℕ → List ℤ
merged_strides ns ss a b = strides_merged_by ss a (slice_index ns a) b (slice_index ns b)

-- Returns the old index that the index `i` names after axis `a` is merged into axis `b`: the coordinate on `b` is
-- divided by the old length of `b`; axis `a` gets the quotient and `b` the remainder.
abbrev pub merged_index : List ℕ → ℕ → ℕ → List ℕ → List ℕ
merged_index ns a b i = slice_set (slice_set i a (slice_index i b / slice_index ns b)) b (slice_index i b % slice_index ns b)
