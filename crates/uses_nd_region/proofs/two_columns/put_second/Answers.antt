use mathlib.Core.Path.{ap, ◌∙◌}
use Rattle.nd_region.specs.Region.{with_element}
use Rattle.uses_nd_region.proofs.TwoColumnsSplitOff.{fourth_has, fourth_done}
use Rattle.uses_nd_region.proofs.two_columns.put_second.Goals as goal

-- src/two_columns.rt:31:5
pub split_with-requires-clause-callable : goal.split_with-requires-clause-callable
split_with-requires-clause-callable c = λ x y named others. fourth_has c.args.others x y c.requires.1.0 named

-- src/two_columns.rt:23:1
pub returns-clause-second : goal.returns-clause-second
returns-clause-second c = c.set-3.ensures ∙ ap (λ r. with_element r 9 1) (c.set-2.ensures ∙ ap (λ r. with_element r 5 1) c.set.ensures)

-- src/two_columns.rt:23:1
pub returns-clause-fourth : goal.returns-clause-fourth
returns-clause-fourth c = let e = c.split_with.ensures in ap (λ r. r.items) e.7 ∙ fourth_done c.args.others c.requires.1.1 e.0 e.1 e.2 e.3 e.4 e.5 e.6.2.0 e.6.2.1
