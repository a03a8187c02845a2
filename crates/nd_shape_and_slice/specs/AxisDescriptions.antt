-- The axes of an array as a list of descriptions, each with its number, its length and its stride.
use Rattle.std.specs.Prelude.{ℕ, ◌+◌, ℤ, List, [], ◌∷◌}
use Rattle.nd_shape_and_slice.specs.declared.axis_descriptions.AxisDescription.{AxisDescription}

-- Returns the descriptions of axes with these lengths and strides, numbered from `a` on.
abbrev pub axes_from : ℕ → List ℕ → List ℤ → List AxisDescription
axes_from a [] strides = []
axes_from a (n ∷ ns) [] = []
axes_from a (n ∷ ns) (s ∷ ss) = record { axis = record { 0 = a }; len = n; stride = s } ∷ axes_from (a + 1) ns ss
