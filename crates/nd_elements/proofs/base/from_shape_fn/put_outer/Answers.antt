use Rattle.nd_elements.proofs.NamesFromOtherCrates.{◌≡◌, ◌∙◌, length, take, take_all, refl, ap, sym, subst, arith, slowest_first, slow_axis_in, length-set}
use Rattle.nd_elements.proofs.along_lemmas.IndexesLaneByLane.{outer_more}
use Rattle.nd_elements.proofs.base.from_shape_fn.put_outer.Goals as goal

pub loop-nth-preserved : goal.loop-nth-preserved
loop-nth-preserved g c =
    let xs = g.D.Dimension.lengths c.loop-nth.index in
    let o = c.args.order in
    let k = c.loop-nth.nth in
    let so_far = c.loop-nth.invariant in
    rw (c.set_length.ensures, c.slow_axis_at.ensures.value ∙ ap (λ n. slow_axis_in o n k) (c.ndim-axes.ensures.value ∙ sym so_far.0)) (
      length-set xs (slow_axis_in o (length xs) k) _ ∙ so_far.0,
      omega (arith, c.loop-nth-test.true),
      outer_more o xs c.args.outer.now k _ (omega (arith, so_far.0, c.requires, c.loop-nth-test.true)) c.loop-nth-test.true refl so_far.2,
    )

pub returns : goal.returns
returns g c =
    let outer = c.args.outer.now in
    let all : c.loop-nth.nth ≡ length outer = omega (arith, c.loop-nth.invariant.1, c.loop-nth-test.false) in
    record {
      as_many = c.loop-nth.invariant.0 ∙ c.requires.as_many;
      put = subst (λ m. take m (slowest_first c.args.order (g.D.Dimension.lengths c.loop-nth.index)) ≡ take m outer) all c.loop-nth.invariant.2 ∙ take_all (length outer) outer (omega arith);
    }
