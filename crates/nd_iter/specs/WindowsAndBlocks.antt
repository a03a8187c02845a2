-- Parts of one size of a table, as windows and blocks are, which begin at fixed distances.
use Rattle.std.specs.Prelude.{◌≡◌, ◌+◌, ◌-◌, ◌*◌, ◌/◌, ◌%◌, ◌<◌, ◌≤◌, nat_lt, ℕ, List, [], ◌∷◌, map, slice_index, if◌then◌else◌}
use Rattle.std.specs.List.{range_with_len}
use Rattle.nd_array_core.specs.ArrayMeaning.{Meaning, meaning_through}
use Rattle.nd_iter.specs.IteratedElements.{listing}
use Rattle.nd_iter.specs.declared.windows_and_blocks.Grid.{Grid}

-- Returns how many parts of length `size` fit on an axis of length `n`, where each begins `step` after the one before.
abbrev pub parts_along : ℕ → ℕ → ℕ → ℕ
parts_along n size step = if nat_lt n size then 0 else (n - size) / step + 1

-- Returns the part of `height` rows and `width` columns of a table from the row `top` and the column `left` on.
abbrev pub part_at : {A : Type 0} → Meaning A → ℕ → ℕ → ℕ → ℕ → Meaning A
part_at m height width top left = meaning_through (height ∷ width ∷ []) (λ i. (top + slice_index i 0) ∷ (left + slice_index i 1) ∷ []) m

module _ {A : Type 0} (m : Meaning A) (height width down right : ℕ) where
  -- Returns how many parts stand side by side.
  abbrev pub parts_across : ℕ
  parts_across = parts_along (slice_index m.shape 1) width right

  -- Returns the shape and the elements of the part numbered `k`: parts are counted from left to right and then
  -- downwards.
  abbrev pub numbered_part : ℕ → List ℕ × List A
  numbered_part k = listing (part_at m height width (k / parts_across * down) (k % parts_across * right))

  -- Returns the shapes and elements of the parts with the numbers from `from` up to, but not including, `to`.
  abbrev pub parts_left : ℕ → ℕ → List (List ℕ × List A)
  parts_left from to = map numbered_part (range_with_len from (to - from))

  -- Returns the shapes and elements of all parts that fit into the table.
  abbrev pub parts_of : List (List ℕ × List A)
  parts_of = parts_left 0 (parts_along (slice_index m.shape 0) height down * parts_across)

-- Says that the numbers from `from` up to `to` are those of parts which fit into a table of the shape `ns`.
pub record HaveParts (ns : List ℕ) (grid : Grid) (from to : ℕ) : Type 0 where
  pub across : grid.across ≡ parts_along (slice_index ns 1) grid.width grid.right
  pub ahead : from ≤ to
  pub some_in_row : from < to → 0 < grid.across
  pub rows_within : (k : ℕ) → k < to → k / grid.across * grid.down + grid.height ≤ slice_index ns 0
  pub columns_within : (k : ℕ) → k < to → k % grid.across * grid.right + grid.width ≤ slice_index ns 1
