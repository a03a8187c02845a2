-- An array's elements as a list, the parts of a split, and one array after another along an axis.
use Rattle.std.specs.Prelude.{◌≡◌, ◌+◌, ◌-◌, ◌<◌, ◌≤◌, nat_lt, ℕ, List, length, slice_index, slice_set, if◌then◌else◌}
use Rattle.nd_shape_and_slice.specs.LayoutIndexMaps.{lower_shape, upper_shape, upper_index}
use Rattle.nd_elements.specs.ShapeAndElements.{Meaning, inside}
use Rattle.nd_array_core.specs.ArrayMeaning.{meaning_through}
use Rattle.nd_array_core.specs.LayoutLaws.{NothingOutside, broadcast_to}
pub use Rattle.nd_elements.specs.ShapeAndElements.{row_major_elements}

-- Returns the part of `m` that has the coordinates of the axis `a` below `k`.
abbrev pub lower_of : {A : Type 0} → ℕ → ℕ → Meaning A → Meaning A
lower_of a k m = meaning_through (lower_shape m.shape a k) (λ i. i) m

-- Returns the part of `m` that has the coordinates of the axis `a` from `k` on.
abbrev pub upper_of : {A : Type 0} → ℕ → ℕ → Meaning A → Meaning A
upper_of a k m = meaning_through (upper_shape m.shape a k) (upper_index a k) m

-- Returns the lengths `ns`, except that the length of the axis `a` is the sum of its lengths in `ns` and `ms`.
abbrev pub concatenated_shape : List ℕ → List ℕ → ℕ → List ℕ
concatenated_shape ns ms a = slice_set ns a (slice_index ns a + slice_index ms a)

-- Returns the shape to which an array of the shape `ms` is broadcast so that it can come after an array of the shape
-- `ns` along the axis `a`: the lengths `ns`, except that the axis `a` has its length in `ms`.
abbrev pub appended_shape : List ℕ → List ℕ → ℕ → List ℕ
appended_shape ns ms a = slice_set ns a (slice_index ms a)

-- Returns `n` broadcast to the lengths of `m`, except on the axis `a`, so that it can come after `m` along that axis.
abbrev pub broadcast_after : {A : Type 0} → ℕ → Meaning A → Meaning A → Meaning A
broadcast_after a m n = broadcast_to (appended_shape m.shape n.shape a) n

-- Returns `m` and after it, along the axis `a`, `n`, which is first broadcast to the lengths of `m` on all other axes.
abbrev pub concatenated : {A : Type 0} → ℕ → Meaning A → Meaning A → Meaning A
concatenated a m n = record {
  shape = concatenated_shape m.shape n.shape a;
  at = λ i. inside (concatenated_shape m.shape n.shape a) i (if nat_lt (slice_index i a) (slice_index m.shape a) then m.at i else (broadcast_after a m n).at (slice_set i a (slice_index i a - slice_index m.shape a)));
}

-- Returns `m` and after it, along the axis `a`, `n` without a broadcast, for arrays whose other lengths are equal.
abbrev pub concatenated_alike : {A : Type 0} → ℕ → Meaning A → Meaning A → Meaning A
concatenated_alike a m n = record {
  shape = concatenated_shape m.shape n.shape a;
  at = λ i. inside (concatenated_shape m.shape n.shape a) i (if nat_lt (slice_index i a) (slice_index m.shape a) then m.at i else n.at (slice_set i a (slice_index i a - slice_index m.shape a)));
}

-- An array that is split along an axis, at most at the axis's end, equals its two parts one after the other.
abbrev pub SplitAndJoined : Type 0 → Type 0
SplitAndJoined A = (m : Meaning A) (a k : ℕ) → NothingOutside m → a < length m.shape → k ≤ slice_index m.shape a → concatenated a (lower_of a k m) (upper_of a k m) ≡ m
