use Rattle.nd_array_core.proofs.NamesFromOtherCrates.{ℕ, List, ◌∙◌, subst, sym, rules, IfErr, IfOk, Order}
use Rattle.nd_array_core.specs.ArrayMeaning.{shape_of, layout_strides}
use Rattle.nd_array_core.specs.reshape.EitherArray.{CopiesAreEqual, IsViewIfServed, RefusesReshape, ShowsRegrouped, ViewsOrCopies}
use Rattle.nd_array_core.proofs.reshape_lemmas.StridesForReshape.{size_refused}
use Rattle.nd_array_core.proofs.reshape.to_shape.ArrayBase+S+D.to_shape.Goals as goal

pub returns-else-has_size-clause-refused : goal.returns-else-has_size-clause-refused
returns-else-has_size-clause-refused g c =
    size_refused (g.E.ShapeArg.order_asked c.args.shape) (shape_of c.args.self.now) (layout_strides c.args.self.now) (g.E.ShapeArg.shape_asked c.args.shape) c.slice.result.now c.len.result c.has_size.result c.from_kind.result
    (c.slice.ensures.lengths ∙ c.into_shape_and_order-dim.ensures.lengths) c.len.ensures.value c.has_size.ensures c.if-has_size.false c.from_kind.ensures

pub view_or_copy-requires-clause-clones : goal.view_or_copy-requires-clause-clones
view_or_copy-requires-clause-clones g c =
    let asked = c.into_shape_and_order-dim.ensures in
    subst (λ (p : Order × List ℕ). CopiesAreEqual g.S.Elem.Clone.is_clone c.args.self.now p.0 p.1) (λ k. (sym asked.order k, sym asked.lengths k)) c.requires.clones

pub returns-then-has_size : goal.returns-then-has_size
returns-then-has_size g c =
    let asked = c.into_shape_and_order-dim.ensures in
    record {
      refused = subst (λ (p : Order × List ℕ). IfErr c.view_or_copy.result (RefusesReshape c.args.self.now p.0 p.1)) (λ k. (asked.order k, asked.lengths k)) c.view_or_copy.ensures.refused;
      shape = search rules;
      kind = subst (λ (p : Order × List ℕ). IfOk c.view_or_copy.result (ViewsOrCopies c.args.self.now p.0 p.1)) (λ k. (asked.order k, asked.lengths k)) c.view_or_copy.ensures.kind;
      shown = subst (λ (p : Order × List ℕ). IfOk c.view_or_copy.result (ShowsRegrouped c.args.self.now p.0 p.1)) (λ k. (asked.order k, asked.lengths k)) c.view_or_copy.ensures.shown;
      serves = λ _. subst (λ (p : Order × List ℕ). IsViewIfServed c.args.self.now p.0 p.1 c.view_or_copy.result) (λ k. (asked.order k, asked.lengths k)) c.view_or_copy.ensures.serves;
    }
