use Rattle.std.proofs.Common.{rules, ◌≡◌, subst}
use Rattle.nd_shape_and_slice.specs.ShapesAndIndexOrders.{size_of}
use Rattle.nd_stacking.proofs.IndexNumberByAxisParts.{dropped_once}
use Rattle.nd_stacking.proofs.concatenate_by_runs.sizes_around.Goals as goal

pub returns-clause-after : goal.returns-clause-after
returns-clause-after c = subst (λ s. c.in_ok-inner.inner ≡ size_of s) (dropped_once c.args.axis c.args.shape.now) (search rules)
