use mathlib.Core.Path.{◌∙◌, ap}
use Rattle.nd_region.specs.Region.{with_element}
use Rattle.uses_nd_region.proofs.part_by_value.fill_three.Goals as goal

-- src/part_by_value.rt:8:1
pub returns : goal.returns
returns c = c.set-3.ensures ∙ ap (λ r. with_element r 4 c.args.value) (c.set-2.ensures ∙ ap (λ r. with_element r 2 c.args.value) c.set.ensures)
