use Rattle.nd_array_core.proofs.NamesFromOtherCrates.{◌≡◌, ◌∙◌, ap, subst, rules, HasAnswers, AnswersNothing}
use Rattle.nd_array_core.specs.ArrayMeaning.{element_at}
use Rattle.nd_array_core.specs.base.NewArrays.{BuiltShape, OwnsInOrder, ShowsOneValue}
use Rattle.nd_array_core.proofs.base.from_shape_fn.Array+A+D.from_shape_simple_fn.Goals as goal

pub of_equal_answers-requires-clause-callable : goal.of_equal_answers-requires-clause-callable
of_equal_answers-requires-clause-callable g c =
    let lengths : g.D.Dimension.lengths c.raw_dim.result.now ≡ g.Sh.ShapeBuilder.builds_lengths c.args.shape = ap g.D.Dimension.lengths c.raw_dim.ensures ∙ c.into_shape_with_order-shape.ensures.lengths in
    rw lengths c.requires.callable

pub of_equal_answers-requires-clause-checked : goal.of_equal_answers-requires-clause-checked
of_equal_answers-requires-clause-checked g c =
    let lengths : g.D.Dimension.lengths c.raw_dim.result.now ≡ g.Sh.ShapeBuilder.builds_lengths c.args.shape = ap g.D.Dimension.lengths c.raw_dim.ensures ∙ c.into_shape_with_order-shape.ensures.lengths in
    rw lengths c.requires.checked

pub returns : goal.returns
returns g c =
    let lengths : g.D.Dimension.lengths c.raw_dim.result.now ≡ g.Sh.ShapeBuilder.builds_lengths c.args.shape = ap g.D.Dimension.lengths c.raw_dim.ensures ∙ c.into_shape_with_order-shape.ensures.lengths in
    let order : c.order.result ≡ g.Sh.ShapeBuilder.builds_order c.args.shape = c.order.ensures ∙ c.into_shape_with_order-shape.ensures.order in
    record {
      owns = subst (λ built. OwnsInOrder built c.of_equal_answers.result) (λ k. (lengths k, order k)) c.of_equal_answers.ensures.owns;
      visits = subst (λ ns. HasAnswers (AnswersNothing g.F.FnMut) ns c.args.f (element_at c.of_equal_answers.result)) lengths c.of_equal_answers.ensures.visits;
      alike = λ x alike. subst (λ (built : BuiltShape). ShowsOneValue built x c.of_equal_answers.result) (λ k. (lengths k, order k)) (c.of_equal_answers.ensures.alike x alike);
      refused = search rules;
    }
