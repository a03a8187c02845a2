use Rattle.nd_array_core.proofs.NamesFromOtherCrates.{◌≡◌, ◌∙◌, List, ℕ, ap, refl, option_map, in_box, HasAnswers, AnswersValue, AnswersAt, answers_alike, value_by, ok_from_both}
use Rattle.nd_array_core.specs.ArrayMeaning.{meaning_of, shape_of, element_at}
use Rattle.nd_array_core.proofs.elements.mapv.ArrayBase+S+D.mapv.Goals as goal

pub returns-then-is_run-clause-alike : goal.returns-then-is_run-clause-alike
unfolding meaning_of
returns-then-is_run-clause-alike g c h by =
    let array = c.args.self.now in
    let answers = AnswersAt (AnswersValue g.F.FnMut) (element_at array) in
    ok_from_both (λ a. shape_of a ≡ shape_of array) (λ a. HasAnswers answers (shape_of array) c.args.f (element_at a)) (λ a. (i : List ℕ) → element_at a i ≡ option_map h (element_at array i))
    (λ a same visits. answers_alike (AnswersValue g.F.FnMut) (shape_of array) (element_at array) (element_at a) c.args.f h (value_by g.F.FnMut h c.args.f by) (λ i out. rw (ap (λ ns. in_box ns i) same ∙ out) refl) (λ i out. rw out refl) visits)
    c.mapv_run.result c.mapv_run.ensures.shape c.mapv_run.ensures.visits

pub returns-else-is_run-clause-alike : goal.returns-else-is_run-clause-alike
unfolding meaning_of
returns-else-is_run-clause-alike g c h by =
    let array = c.args.self.now in
    let answers = AnswersAt (AnswersValue g.F.FnMut) (element_at array) in
    ok_from_both (λ a. shape_of a ≡ shape_of array) (λ a. HasAnswers answers (shape_of array) c.args.f (element_at a)) (λ a. (i : List ℕ) → element_at a i ≡ option_map h (element_at array i))
    (λ a same visits. answers_alike (AnswersValue g.F.FnMut) (shape_of array) (element_at array) (element_at a) c.args.f h (value_by g.F.FnMut h c.args.f by) (λ i out. rw (ap (λ ns. in_box ns i) same ∙ out) refl) (λ i out. rw out refl) visits)
    c.mapv_in_order.result c.mapv_in_order.ensures.shape c.mapv_in_order.ensures.visits
