-- The axes that an iterator over axes has still to give.
use Rattle.std.specs.Prelude.{List}
use Rattle.nd_shape_and_slice.specs.declared.axis_descriptions.Axes.{Axes}
use Rattle.nd_shape_and_slice.specs.declared.axis_descriptions.AxisDescription.{AxisDescription}
use Rattle.nd_shape_and_slice.specs.AxisDescriptions.{axes_from}

-- Returns the descriptions of the axes that the iterator has still to give.
abbrev pub axes_left : {D : Type 0} → Axes D → List AxisDescription
axes_left a = axes_from a.axis a.lengths.now a.strides.now
