use mathlib.Core.Path.{◌∙◌, ap}
use Rattle.nd_region.specs.Region.{with_element}
use Rattle.uses_nd_region.proofs.even_and_odd_places.put_in_turn.Goals as goal

-- src/even_and_odd_places.rt:8:1
pub returns : goal.returns
returns c = (
  c.set-5.ensures ∙ ap (λ r. with_element r 4 0) (c.set-3.ensures ∙ ap (λ r. with_element r 2 0) c.set.ensures),
  c.set-6.ensures ∙ ap (λ r. with_element r 5 1) (c.set-4.ensures ∙ ap (λ r. with_element r 3 1) c.set-2.ensures),
)
