use mathlib.Core.Path.{refl, ap, ◌∙◌}
use Rattle.std.specs.Prelude.{[], ◌∷◌, pos}
use Rattle.uses_nd_region.proofs.RegionSplitPlaces.{has_layout, parts_have, evens_done}
use Rattle.uses_nd_region.proofs.part_by_value.fill_part.Goals as goal

-- src/part_by_value.rt:32:5
pub split_with-requires-clause-within : goal.split_with-requires-clause-within
split_with-requires-clause-within c = has_layout 6 c.args.region c.requires 0 (3 ∷ []) (pos 2 ∷ []) refl

-- src/part_by_value.rt:32:5
pub split_with-requires-clause-callable : goal.split_with-requires-clause-callable
split_with-requires-clause-callable c = λ x y named others. (parts_have 6 c.args.region c.requires 0 (3 ∷ []) (pos 2 ∷ []) (0 ∷ 2 ∷ 4 ∷ []) [] refl refl x y named others).0

-- src/part_by_value.rt:27:1
pub returns-clause-items : goal.returns-clause-items
returns-clause-items c = let e = c.split_with.ensures in ap (λ r. r.items) e.7 ∙ evens_done c.args.region c.requires e.0 e.1 e.2 e.3 e.4 e.5 e.6.2.0 e.6.2.1
