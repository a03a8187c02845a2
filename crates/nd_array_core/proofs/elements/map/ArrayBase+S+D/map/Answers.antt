use Rattle.nd_array_core.proofs.NamesFromOtherCrates.{◌∙◌, ap, refl, in_box, AnswersElement, answers_alike, element_by}
use Rattle.nd_array_core.specs.ArrayMeaning.{meaning_of, shape_of, element_at}
use Rattle.nd_array_core.proofs.elements.map.ArrayBase+S+D.map.Goals as goal

pub returns-then-is_run-clause-alike : goal.returns-then-is_run-clause-alike
unfolding meaning_of
returns-then-is_run-clause-alike g c h by =
    let array = c.args.self.now in
    answers_alike (AnswersElement g.F.FnMut) (shape_of array) (element_at array) (element_at c.map_run.result) c.args.f h (element_by g.F.FnMut h c.args.f by)
    (λ i out. rw (ap (λ ns. in_box ns i) c.map_run.ensures.shape ∙ out) refl) (λ i out. rw out refl) c.map_run.ensures.visits

pub returns-else-is_run-clause-alike : goal.returns-else-is_run-clause-alike
unfolding meaning_of
returns-else-is_run-clause-alike g c h by =
    let array = c.args.self.now in
    answers_alike (AnswersElement g.F.FnMut) (shape_of array) (element_at array) (element_at c.map_in_order.result) c.args.f h (element_by g.F.FnMut h c.args.f by)
    (λ i out. rw (ap (λ ns. in_box ns i) c.map_in_order.ensures.shape ∙ out) refl) (λ i out. rw out refl) c.map_in_order.ensures.visits
