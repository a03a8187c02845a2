-- The law that an appended array, sliced back to its old length, is the array before the append.
use Rattle.std.specs.Prelude.{ℕ, ◌≡◌, ◌<◌, length, pos, Some, slice_index}
use Rattle.nd_shape_and_slice.specs.declared.slice.Slice.{Slice}
use Rattle.nd_array_core.specs.ConcatenationAndSplit.{concatenated}
use Rattle.nd_array_core.specs.LayoutLaws.{NothingOutside, with_axis_sliced}
use Rattle.nd_elements.specs.ShapeAndElements.{Meaning}

-- Returns the slice of the first `count` coordinates of an axis.
abbrev pub slice_of_first : ℕ → Slice
slice_of_first count = record { start = pos 0; end = Some (pos count); step = pos 1 }

-- Says that any `n` appended along an axis to any `m` without elements outside its box, and the result sliced to the
-- old length of that axis, gives `m` again.
abbrev pub AppendedAndSliced : Type 0 → Type 0
AppendedAndSliced A = (m n : Meaning A) (a : ℕ) → NothingOutside m → a < length m.shape → with_axis_sliced a (slice_of_first (slice_index m.shape a)) (concatenated a m n) ≡ m
