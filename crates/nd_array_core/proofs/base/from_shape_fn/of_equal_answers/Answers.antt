use Rattle.nd_array_core.proofs.NamesFromOtherCrates.{◌≡◌, ◌∙◌, refl, ap, AnswersNothing, found_by_rank, answers_seen, answers_settled}
use Rattle.nd_array_core.specs.ArrayMeaning.{element_at}
use Rattle.nd_array_core.proofs.base.from_shape_fn.of_equal_answers.Goals as goal

pub returns : goal.returns
returns g c =
    let shape = g.D.Dimension.lengths c.args.dim in
    let answers = AnswersNothing g.F.FnMut in
    let seen : (i : _) → element_at c.of_items.result i ≡ found_by_rank (shape, c.args.order) c.answers_for_each-items.result.items i = λ i. c.of_items.ensures.owns.4 i ∙ ap (λ xs. found_by_rank (shape, c.args.order) xs i) c.of_items.ensures.stored in
    let visits = answers_seen answers shape c.args.f (found_by_rank (shape, c.args.order) c.answers_for_each-items.result.items) (element_at c.of_items.result) seen c.answers_for_each-items.ensures.visits in
    record {
      owns = c.of_items.ensures.owns;
      visits = visits;
      alike = λ x by. answers_settled answers shape c.args.f (element_at c.of_items.result) (λ i. x) (λ i y q inside call. by y q call) (λ i outside. seen i ∙ (rw outside refl)) visits;
    }
