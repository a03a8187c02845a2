use mathlib.Core.Path.{refl, ap, ◌∙◌}
use Rattle.nd_region.specs.Region.{with_element}
use Rattle.uses_nd_region.proofs.two_columns.put_fourth.Goals as goal

-- src/two_columns.rt:9:1
pub returns : goal.returns
returns c = (c.set-3.ensures ∙ ap (λ r. with_element r 11 2) (c.set-2.ensures ∙ ap (λ r. with_element r 7 2) c.set.ensures), refl)
