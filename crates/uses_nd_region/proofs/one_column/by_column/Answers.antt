use mathlib.Core.Path.{refl, ap, ◌∙◌}
use Rattle.std.specs.Prelude.{[], ◌∷◌, pos}
use Rattle.uses_nd_region.proofs.RegionSplitPlaces.{has_layout, parts_have, column_done}
use Rattle.uses_nd_region.proofs.one_column.by_column.Goals as goal

-- src/one_column.rt:38:5
pub split_with-requires-clause-within : goal.split_with-requires-clause-within
split_with-requires-clause-within c = has_layout 12 c.args.region c.requires 1 (3 ∷ []) (pos 4 ∷ []) refl

-- src/one_column.rt:38:5
pub split_with-requires-clause-callable : goal.split_with-requires-clause-callable
split_with-requires-clause-callable c = parts_have 12 c.args.region c.requires 1 (3 ∷ []) (pos 4 ∷ []) (1 ∷ 5 ∷ 9 ∷ []) (0 ∷ 2 ∷ 3 ∷ 4 ∷ 6 ∷ 7 ∷ 8 ∷ 10 ∷ 11 ∷ []) refl refl

-- src/one_column.rt:33:1
pub returns-clause-items : goal.returns-clause-items
returns-clause-items c = let e = c.split_with.ensures in ap (λ r. r.items) e.7 ∙ column_done c.args.region c.requires e.0 e.1 e.2 e.3 e.4 e.5 e.6.2.0 e.6.2.1
