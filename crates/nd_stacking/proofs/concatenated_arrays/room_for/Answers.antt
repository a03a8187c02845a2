use Rattle.nd_shape_and_slice.specs.declared.errors.ErrorKind.TheVariants.{IncompatibleShape, OutOfBounds, Overflow}
use Rattle.nd_stacking.proofs.ConcatenationShapeChecks.{takes_none}
use Rattle.nd_stacking.proofs.concatenated_arrays.room_for.Goals as goal

pub unreachable-requires : goal.unreachable-requires
unreachable-requires g c =
    takes_none (g.D.Dimension.lengths c.args.dim) (g.D.Dimension.lengths c.set_length.new.self) c.args.axis _ c.in-Err.field-0 Overflow OutOfBounds IncompatibleShape
    c.requires.on c.requires.checked c.set_length.ensures (c.in_ok-items.ensures {u = tt}).len (c.in-Err.ensures {u = tt}).refused
