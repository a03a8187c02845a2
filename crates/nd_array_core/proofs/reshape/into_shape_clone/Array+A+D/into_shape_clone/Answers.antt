use Rattle.nd_array_core.proofs.NamesFromOtherCrates.{ℕ, List, ◌∙◌, subst, sym, rules, IfErr, IfOk, Order}
use Rattle.nd_array_core.specs.ArrayMeaning.{shape_of, layout_strides}
use Rattle.nd_array_core.specs.reshape.EitherArray.{CopiesAreEqual, KeepsStorageIfServed, KeptOrCopied, RefusesReshape}
use Rattle.nd_array_core.proofs.reshape_lemmas.StridesForReshape.{size_refused}
use Rattle.nd_array_core.proofs.reshape.into_shape_clone.Array+A+D.into_shape_clone.Goals as goal

pub returns-then-has_size : goal.returns-then-has_size
returns-then-has_size g c =
    let asked = c.into_shape_and_order-dim.ensures in
    record {
      refused = subst (λ (p : Order × List ℕ). IfErr c.kept_or_copied.result (RefusesReshape c.args.self p.0 p.1)) (λ k. (asked.order k, asked.lengths k)) c.kept_or_copied.ensures.refused;
      shape = search rules;
      kind = subst (λ (p : Order × List ℕ). IfOk c.kept_or_copied.result (KeptOrCopied c.args.self p.0 p.1)) (λ k. (asked.order k, asked.lengths k)) c.kept_or_copied.ensures.kind;
      serves = λ _. subst (λ (p : Order × List ℕ). KeepsStorageIfServed c.args.self p.0 p.1 c.kept_or_copied.result) (λ k. (asked.order k, asked.lengths k)) c.kept_or_copied.ensures.serves;
    }

pub returns-else-has_size-clause-refused : goal.returns-else-has_size-clause-refused
returns-else-has_size-clause-refused g c =
    size_refused (g.E.ShapeArg.order_asked c.args.shape) (shape_of c.args.self) (layout_strides c.args.self) (g.E.ShapeArg.shape_asked c.args.shape) c.slice.result.now c.len.result c.has_size.result c.from_kind.result
    (c.slice.ensures.lengths ∙ c.into_shape_and_order-dim.ensures.lengths) c.len.ensures.value c.has_size.ensures c.if-has_size.false c.from_kind.ensures

pub kept_or_copied-requires-clause-clones : goal.kept_or_copied-requires-clause-clones
kept_or_copied-requires-clause-clones g c =
    let asked = c.into_shape_and_order-dim.ensures in
    subst (λ (p : Order × List ℕ). CopiesAreEqual g.A.Clone.is_clone c.args.self p.0 p.1) (λ k. (sym asked.order k, sym asked.lengths k)) c.requires.clones
