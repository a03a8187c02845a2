use Rattle.std.proofs.Common.{map, ap, sym, ◌∙◌}
use Rattle.nd_array_core.specs.LayoutLaws.{with_axis_inserted}
use Rattle.nd_array_core.specs.ArrayMeaning.{meaning_of}
use Rattle.nd_array_core.specs.growth.AppendEach.{meanings_of}
use Rattle.nd_stacking.proofs.EmptyConcatenation.{empty_stack}
use Rattle.nd_stacking.proofs.ConcatenationShapeChecks.{has_axis_and_size}
use Rattle.nd_stacking.proofs.StackedAsConcatenated.{clones_inserted}
use Rattle.nd_stacking.proofs.stacked_arrays.stack_along.Goals as goal

pub size-count-requires : goal.size-count-requires
size-count-requires g c = (has_axis_and_size c.args.axis.0 (map (with_axis_inserted c.args.axis.0) (meanings_of c.args.arrays.now)) (g.D.Larger.Dimension.lengths c.args.dim) c.requires.lengths).1

pub joined-requires-clause-clones : goal.joined-requires-clause-clones
joined-requires-clause-clones g c =
    clones_inserted c.args.axis.0 g.A.Clone.is_clone (meanings_of c.args.arrays.now) (meanings_of c.as_slice.result.now) (ap (λ vs. meanings_of vs) c.as_slice.ensures.value ∙ c.in_ok-views.ensures {u = tt}) c.requires.clones

pub returns-then-count-eq0-clause-stacked : goal.returns-then-count-eq0-clause-stacked
returns-then-count-eq0-clause-stacked g c =
    empty_stack c.args.axis.0 (meanings_of c.args.arrays.now) (g.D.Larger.Dimension.lengths c.args.dim) (meaning_of c.without_elements.result) c.requires.lengths (sym c.size-count.ensures ∙ c.if-count-eq0.true) c.without_elements.ensures.shape c.without_elements.ensures.outside
