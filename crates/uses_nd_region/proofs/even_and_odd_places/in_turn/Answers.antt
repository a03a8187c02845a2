use mathlib.Core.Path.{refl, ap, ◌∙◌}
use Rattle.std.specs.Prelude.{[], ◌∷◌, pos}
use Rattle.uses_nd_region.proofs.RegionSplitPlaces.{has_layout, parts_have, turns_done}
use Rattle.uses_nd_region.proofs.even_and_odd_places.in_turn.Goals as goal

-- src/even_and_odd_places.rt:27:5
pub split_with-requires-clause-within : goal.split_with-requires-clause-within
split_with-requires-clause-within c = has_layout 6 c.args.region c.requires 0 (3 ∷ []) (pos 2 ∷ []) refl

-- src/even_and_odd_places.rt:27:5
pub split_with-requires-clause-callable : goal.split_with-requires-clause-callable
split_with-requires-clause-callable c = parts_have 6 c.args.region c.requires 0 (3 ∷ []) (pos 2 ∷ []) (0 ∷ 2 ∷ 4 ∷ []) (1 ∷ 3 ∷ 5 ∷ []) refl refl

-- src/even_and_odd_places.rt:22:1
pub returns-clause-items : goal.returns-clause-items
returns-clause-items c = let e = c.split_with.ensures in ap (λ r. r.items) e.7 ∙ turns_done c.args.region c.requires e.0 e.1 e.2 e.3 e.4 e.5 e.6.2.0 e.6.2.1
