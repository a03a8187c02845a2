use Rattle.nd_layout.proofs.NamesFromOtherCrates.{◌≡◌, ◌-◌, ◌∙◌, arith, sym, length, pos}
use Rattle.nd_layout.proofs.ReversedListLoop.{turned_none, turned_more, turned_all}
use Rattle.nd_layout.proofs.layout.invert_split_and_permute_axes.reverse.Goals as goal

pub loop-k-init : goal.loop-k-init
loop-k-init g c = (turned_none 0 (g.D.Dimension.lengths c.args.dim.now), turned_none (pos 0) (g.T.StrideList.strides_of c.args.strides.now))

pub exchange-requires-clause-as_many : goal.exchange-requires-clause-as_many
exchange-requires-clause-as_many g c = c.loop-k.invariant.1.as_many ∙ (c.requires ∙ sym c.loop-k.invariant.0.as_many)

pub exchange-requires-clause-a : goal.exchange-requires-clause-a
exchange-requires-clause-a g c = omega (arith, c.loop-k-test.true, c.ndim-count.ensures.value, c.loop-k.invariant.0.as_many)

pub exchange-requires-clause-b : goal.exchange-requires-clause-b
exchange-requires-clause-b g c = omega (arith, c.loop-k-test.true, c.ndim-count.ensures.value, c.loop-k.invariant.0.as_many)

pub loop-k-preserved : goal.loop-k-preserved
loop-k-preserved g c =
    let xs = g.D.Dimension.lengths c.args.dim.now in
    let ss = g.T.StrideList.strides_of c.args.strides.now in
    let count : c.ndim-count.result ≡ length xs = c.ndim-count.ensures.value in
    let k = c.loop-k.k in (
      rw c.exchange.ensures.lengths (turned_more 0 xs (g.D.Dimension.lengths c.loop-k.dim) k (c.ndim-count.result - 1 - k) (omega (arith, c.loop-k-test.true, count)) (omega (arith, count)) c.loop-k.invariant.0),
      rw c.exchange.ensures.strides (turned_more (pos 0) ss (g.T.StrideList.strides_of c.loop-k.strides) k (c.ndim-count.result - 1 - k) (omega (arith, c.loop-k-test.true, count, c.requires)) (omega (arith, count, c.requires)) c.loop-k.invariant.1),
    )

pub returns-clause-lengths : goal.returns-clause-lengths
returns-clause-lengths g c = turned_all 0 (g.D.Dimension.lengths c.args.dim.now) (g.D.Dimension.lengths c.loop-k.dim) c.loop-k.k (omega (arith, c.loop-k-test.false, c.ndim-count.ensures.value)) c.loop-k.invariant.0

pub returns-clause-strides : goal.returns-clause-strides
returns-clause-strides g c = turned_all (pos 0) (g.T.StrideList.strides_of c.args.strides.now) (g.T.StrideList.strides_of c.loop-k.strides) c.loop-k.k (omega (arith, c.loop-k-test.false, c.ndim-count.ensures.value, c.requires)) c.loop-k.invariant.1
