use Rattle.std.proofs.Common.{sym, ◌∙◌}
use Rattle.nd_shape_and_slice.specs.declared.errors.ErrorKind.TheVariants.{IncompatibleShape, OutOfBounds, Overflow}
use Rattle.nd_stacking.proofs.ConcatenationShapeChecks.{takes_all}
use Rattle.nd_stacking.proofs.concatenated_arrays.without_elements.Goals as goal

pub unreachable-requires : goal.unreachable-requires
unreachable-requires g c =
    takes_all (g.D.Dimension.lengths c.args.dim) _ c.in-Err.field-0 Overflow OutOfBounds IncompatibleShape c.requires.checked (c.new.ensures.len ∙ sym c.requires.none) (c.in-Err.ensures {u = tt}).refused
