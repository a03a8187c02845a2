use mathlib.Core.Path.{refl, ap, ◌∙◌}
use Rattle.std.specs.Prelude.{[], ◌∷◌, pos}
use Rattle.uses_nd_region.proofs.TwoColumnsSplitOff.{second_has, columns_done}
use Rattle.uses_nd_region.proofs.RegionSplitPlaces.{has_layout}
use Rattle.uses_nd_region.proofs.two_columns.by_columns.Goals as goal

-- src/two_columns.rt:45:5
pub split_with-requires-clause-within : goal.split_with-requires-clause-within
split_with-requires-clause-within c = has_layout 12 c.args.region c.requires 1 (3 ∷ []) (pos 4 ∷ []) refl

-- src/two_columns.rt:45:5
pub split_with-requires-clause-callable : goal.split_with-requires-clause-callable
split_with-requires-clause-callable c = second_has c.args.region c.requires

-- src/two_columns.rt:40:1
pub returns-clause-items : goal.returns-clause-items
returns-clause-items c = let e = c.split_with.ensures in ap (λ r. r.items) e.7 ∙ columns_done c.args.region c.requires e.0 e.1 e.2 e.3 e.4 e.5 e.6.2.0 e.6.2.1.1
