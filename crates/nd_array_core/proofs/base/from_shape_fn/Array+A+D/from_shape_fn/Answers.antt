use Rattle.nd_array_core.proofs.NamesFromOtherCrates.{◌≡◌, ◌∙◌, ap, subst, rules}
use Rattle.nd_array_core.specs.ArrayMeaning.{element_at}
use Rattle.nd_array_core.specs.base.NewArrays.{OwnsInOrder}
use Rattle.nd_array_core.specs.base.FromIteratorsAndClosures.{OwnsAnswersAlike, ShowsAnswers}
use Rattle.nd_array_core.proofs.base_lemmas.ArraysByCoordinates.{cells_settled, cells_settled_of_1, cells_settled_of_3}
use Rattle.nd_array_core.proofs.base.from_shape_fn.Array+A+D.from_shape_fn.Goals as goal

pub of_answers-requires-clause-checked : goal.of_answers-requires-clause-checked
of_answers-requires-clause-checked g c =
    let lengths : g.D.Dimension.lengths c.raw_dim.result.now ≡ g.Sh.ShapeBuilder.builds_lengths c.args.shape = ap g.D.Dimension.lengths c.raw_dim.ensures ∙ c.into_shape_with_order-shape.ensures.lengths in
    rw lengths c.requires.checked

pub of_answers-requires-clause-callable : goal.of_answers-requires-clause-callable
of_answers-requires-clause-callable g c =
    let lengths : g.D.Dimension.lengths c.raw_dim.result.now ≡ g.Sh.ShapeBuilder.builds_lengths c.args.shape = ap g.D.Dimension.lengths c.raw_dim.ensures ∙ c.into_shape_with_order-shape.ensures.lengths in
    rw lengths c.requires.callable

pub returns : goal.returns
returns g c =
    let lengths : g.D.Dimension.lengths c.raw_dim.result.now ≡ g.Sh.ShapeBuilder.builds_lengths c.args.shape = ap g.D.Dimension.lengths c.raw_dim.ensures ∙ c.into_shape_with_order-shape.ensures.lengths in
    let order : c.order.result ≡ g.Sh.ShapeBuilder.builds_order c.args.shape = c.order.ensures ∙ c.into_shape_with_order-shape.ensures.order in
    record {
      owns = subst (λ built. OwnsInOrder built c.of_answers.result) (λ k. (lengths k, order k)) c.of_answers.ensures.owns;
      visits = subst (λ ns. ShowsAnswers g.F.FnMut g.D.IntoPattern.pattern_lengths ns c.args.f c.of_answers.result) lengths c.of_answers.ensures.visits;
      alike = subst (λ built. OwnsAnswersAlike g.F.FnMut g.D.IntoPattern.pattern_lengths built c.args.f c.of_answers.result) (λ k. (lengths k, order k)) c.of_answers.ensures.alike;
      cells = cells_settled g.F.FnMut g.D.IntoPattern.pattern_lengths (g.D.Dimension.lengths c.raw_dim.result.now) (g.Sh.ShapeBuilder.builds_lengths c.args.shape) lengths c.args.f (element_at c.of_answers.result) c.of_answers.ensures.visits;
      cells_of_1 = cells_settled_of_1 g.F.FnMut g.D.IntoPattern.pattern_lengths (g.D.Dimension.lengths c.raw_dim.result.now) (g.Sh.ShapeBuilder.builds_lengths c.args.shape) lengths c.args.f (element_at c.of_answers.result) c.of_answers.ensures.visits;
      cells_of_3 = cells_settled_of_3 g.F.FnMut g.D.IntoPattern.pattern_lengths (g.D.Dimension.lengths c.raw_dim.result.now) (g.Sh.ShapeBuilder.builds_lengths c.args.shape) lengths c.args.f (element_at c.of_answers.result) c.of_answers.ensures.visits;
      refused = search rules;
    }
