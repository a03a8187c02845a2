use Rattle.std.proofs.Common.{◌<◌, length, subst, sym}
use Rattle.nd_array_core.specs.growth.AppendEach.{meanings_of}
use Rattle.nd_stacking.proofs.ConcatenationShapeChecks.{has_axis_and_size}
use Rattle.nd_stacking.proofs.concatenated_arrays.joined.Goals as goal

pub size-count-requires : goal.size-count-requires
size-count-requires g c = (has_axis_and_size c.args.axis.0 (meanings_of c.args.arrays.now) (g.D.Dimension.lengths c.args.dim) c.requires.lengths).1

pub sizes_around-requires : goal.sizes_around-requires
sizes_around-requires g c = subst (λ s. c.args.axis.0 < length s) (sym c.slice.ensures.lengths) (has_axis_and_size c.args.axis.0 (meanings_of c.args.arrays.now) (g.D.Dimension.lengths c.args.dim) c.requires.lengths).0

pub laid_by_runs-requires-clause-standard : goal.laid_by_runs-requires-clause-standard
laid_by_runs-requires-clause-standard g c = c.are_standard.ensures.standard c.if-not-are_standard.false

pub laid_by_runs-requires-clause-ranks : goal.laid_by_runs-requires-clause-ranks
laid_by_runs-requires-clause-ranks g c = c.are_standard.ensures.ranks c.if-not-are_standard.false
