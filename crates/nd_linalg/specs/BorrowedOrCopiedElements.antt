-- The elements of a list that is borrowed or copied.
use Rattle.std.specs.Prelude.{List}
use Rattle.nd_linalg.specs.declared.elements_as_slice.Cells.{Cells}
use Rattle.nd_linalg.specs.declared.elements_as_slice.Cells.TheVariants.{Seen, Copied}

-- Returns the elements, whether they are borrowed or copied.
abbrev pub cells_in : {A : Type 0} → Cells A → List A
cells_in (Seen cells) = cells.now
cells_in (Copied cells) = cells.items
