use mathlib.Core.Path.{◌∙◌, ap}
use Rattle.nd_region.specs.Region.{with_element}
use Rattle.uses_nd_region.proofs.one_column.put_rows.Goals as goal

-- src/one_column.rt:8:1
pub returns-clause-first : goal.returns-clause-first
returns-clause-first c = c.set-10.ensures ∙ ap (λ r. with_element r 9 1) (c.set-6.ensures ∙ ap (λ r. with_element r 5 1) c.set-2.ensures)

-- src/one_column.rt:8:1
pub returns-clause-others : goal.returns-clause-others
returns-clause-others c =
    c.set-12.ensures
    ∙ ap (λ r. with_element r 11 0) (c.set-11.ensures ∙ ap (λ r. with_element r 10 0) (c.set-9.ensures ∙ ap (λ r. with_element r 8 0) (c.set-8.ensures ∙ ap (λ r. with_element r 7 0)
    (c.set-7.ensures ∙ ap (λ r. with_element r 6 0) (c.set-5.ensures ∙ ap (λ r. with_element r 4 0) (c.set-4.ensures ∙ ap (λ r. with_element r 3 0) (c.set-3.ensures ∙ ap (λ r. with_element r 2 0) c.set.ensures)))))))
