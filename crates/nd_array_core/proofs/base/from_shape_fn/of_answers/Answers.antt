use Rattle.nd_array_core.proofs.NamesFromOtherCrates.{◌≡◌, ◌∙◌, refl, ap, in_box, AnswersIndex, found_by_rank, answers_seen, answers_settled}
use Rattle.nd_array_core.specs.ArrayMeaning.{element_at}
use Rattle.nd_array_core.proofs.base.from_shape_fn.of_answers.Goals as goal

pub returns : goal.returns
returns g c =
    let shape = g.D.Dimension.lengths c.args.dim in
    let answers = AnswersIndex g.F.FnMut g.D.IntoPattern.pattern_lengths in
    let seen : (i : _) → element_at c.of_items.result i ≡ found_by_rank (shape, c.args.order) c.answers_by_index-items.result.items i = λ i. c.of_items.ensures.owns.4 i ∙ ap (λ xs. found_by_rank (shape, c.args.order) xs i) c.of_items.ensures.stored in
    let visits = answers_seen answers shape c.args.f (found_by_rank (shape, c.args.order) c.answers_by_index-items.result.items) (element_at c.of_items.result) seen c.answers_by_index-items.ensures.visits in
    record {
      owns = c.of_items.ensures.owns;
      visits = visits;
      alike = λ h by. answers_settled answers shape c.args.f (element_at c.of_items.result) h (λ i y q inside call. let settled = by call.0 y q (ap (in_box shape) call.1 ∙ inside) call.2 in (settled.0, settled.1 ∙ ap h call.1)) (λ i outside. seen i ∙ (rw outside refl)) visits;
    }
