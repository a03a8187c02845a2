-- Slices that keep every k-th row or column of a picture.
use Rattle.std.specs.Prelude.{ℕ, pos, None}
use Rattle.nd_shape_and_slice.specs.declared.slice.Slice.{Slice}

-- Returns the slice that keeps every k-th coordinate of an axis, from the first on.
abbrev pub every : ℕ → Slice
every k = record { start = pos 0; end = None; step = pos k }
