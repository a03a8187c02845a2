-- What the elements of an array mean: a shape, and one element for each index of its box.
use Rattle.std.specs.Prelude.{ℕ, List, Option, None, if◌then◌else◌}
use Rattle.std.specs.List.{filter_map}
use Rattle.nd_shape_and_slice.specs.ShapesAndIndexOrders.{in_box, indexes_of}

-- Returns `element` where the index `i` lies in the shape's box, and `None` elsewhere.
abbrev pub inside : {A : Type 0} → List ℕ → List ℕ → Option A → Option A
inside shape i element = if in_box shape i then element else None

-- The meaning of an array: its shape, and the element at each index.
pub record Meaning (A : Type 0) : Type 0 where
  pub shape : List ℕ
  pub at : List ℕ → Option A

-- Returns the elements of `m` in the row-major order of their indexes.
abbrev pub row_major_elements : {A : Type 0} → Meaning A → List A
row_major_elements m = filter_map m.at (indexes_of m.shape)
