-- An axis in chunks of one size, of which the last may be shorter.
use Rattle.std.specs.Prelude.{◌+◌, ◌-◌, ◌*◌, ◌<◌, ◌≤◌, min, ℕ, List, length, map, pos, slice_index, Some}
use Rattle.std.specs.List.{range_with_len}
use Rattle.nd_shape_and_slice.specs.SlicesFromRanges.{slice_between}
use Rattle.nd_array_core.specs.LayoutLaws.{with_axis_sliced}
use Rattle.nd_array_core.specs.ArrayMeaning.{Meaning}
use Rattle.nd_iter.specs.IteratedElements.{listing}
use Rattle.nd_iter.specs.WindowsAndBlocks.{parts_along}

-- Returns how many chunks of `size` coordinates begin on an axis of length `n`.
abbrev pub chunk_count : ℕ → ℕ → ℕ
chunk_count n size = parts_along n 1 size

-- Returns what lies at the coordinates of `axis` from `from` up to, but not including, `to`.
abbrev pub stretch_of : {A : Type 0} → Meaning A → ℕ → ℕ → ℕ → Meaning A
stretch_of m axis from to = with_axis_sliced axis (slice_between (pos from) (Some (pos to))) m

module _ {A : Type 0} (m : Meaning A) (axis size : ℕ) where
  -- Returns the chunk numbered `k`: the next `size` coordinates, or as many as are left.
  abbrev pub chunk_at : ℕ → Meaning A
  chunk_at k = stretch_of m axis (k * size) (k * size + min size (slice_index m.shape axis - k * size))

  -- Returns the shapes and elements of the chunks with the numbers from `from` up to, but not including, `to`.
  abbrev pub chunks_left : ℕ → ℕ → List (List ℕ × List A)
  chunks_left from to = map (λ k. listing (chunk_at k)) (range_with_len from (to - from))

  -- Returns the shapes and elements of all chunks of the axis.
  abbrev pub chunks_along : List (List ℕ × List A)
  chunks_along = chunks_left 0 (chunk_count (slice_index m.shape axis) size)

-- Says that `axis` is an axis of `ns`, that `size` isn't 0, and that the numbers from `from` up to `to` are those of
-- chunks.
pub record AreChunks (ns : List ℕ) (axis size from to : ℕ) : Type 0 where
  pub is_axis : axis < length ns
  pub has_size : 0 < size
  pub ahead : from ≤ to
  pub ends_within : to ≤ chunk_count (slice_index ns axis) size
