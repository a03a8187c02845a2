-- What an array shows that is made of rows, or of blocks of rows, that are written out.
use Rattle.std.specs.Prelude.{◌≡◌, ◌<◌, ◌+◌, ◌*◌, ℕ, List, length, flat_map, slice_get}
use Rattle.nd_shape_and_slice.specs.declared.dimension.Dimension as dimension
use Rattle.nd_shape_and_slice.specs.declared.dimension.AxisCount as axis_count
use Rattle.nd_shape_and_slice.specs.declared.dimension.StrideList as stride_list
use Rattle.nd_elements.specs.declared.storage.Data as data_trait
use Rattle.nd_array_core.specs.declared.base.array.ArrayBase.{ArrayBase}
use Rattle.nd_array_core.specs.ElementsByCoordinates.{element_of_2, element_of_3}

module _ {S D T A R : Type 0} {s : data_trait.Ghosts S A} {d : dimension.Ghosts D R} {n : axis_count.Ghosts D} {r : stride_list.Ghosts R} {t : stride_list.Ghosts T} where
  -- Says that the array has at each row and column the element there of `rows`, each of which has `columns` elements.
  abbrev pub ShowsRows : ArrayBase S D T A R s d n r t → ℕ → List (List A) → Type 0
  ShowsRows a columns rows = (row column : ℕ) → row < length rows → column < columns → element_of_2 a row column ≡ slice_get (flat_map (λ xs. xs) rows) (row * columns + column)

  -- Says that the array has at each block, row and column the element there of `blocks`, each of which has `rows` rows
  -- and `columns` columns.
  abbrev pub ShowsBlocks : ArrayBase S D T A R s d n r t → ℕ → ℕ → List (List (List A)) → Type 0
  ShowsBlocks a rows columns blocks = (block row column : ℕ) → block < length blocks → row < rows → column < columns → element_of_3 a block row column ≡ slice_get (flat_map (λ xs. xs) (flat_map (λ xs. xs) blocks)) (block * (rows * columns) + (row * columns + column))
