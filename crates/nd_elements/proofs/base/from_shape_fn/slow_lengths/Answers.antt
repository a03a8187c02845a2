use Rattle.nd_elements.proofs.NamesFromOtherCrates.{◌≡◌, ◌<◌, ◌∙◌, length, get_or, ap, sym, arith, filled_none, filled_more, filled_all, slowest_first, slow_axis_in, length-slow, get_or-slow}
use Rattle.nd_elements.proofs.base.from_shape_fn.slow_lengths.Goals as goal

pub loop-nth-init : goal.loop-nth-init
loop-nth-init g c =
    let ns = g.D.Dimension.lengths c.args.dim.now in
    filled_none 0 (slowest_first c.args.order ns) ns (sym (length-slow c.args.order ns))

pub loop-nth-preserved : goal.loop-nth-preserved
loop-nth-preserved g c =
    let ns = g.D.Dimension.lengths c.args.dim.now in
    let o = c.args.order in
    let k = c.loop-nth.nth in
    let on : k < length ns = omega (arith, c.ndim-axes.ensures.value, c.loop-nth-test.true) in
    let axis : c.slow_axis_at.result ≡ slow_axis_in o (length ns) k = c.slow_axis_at.ensures.value ∙ ap (λ n. slow_axis_in o n k) c.ndim-axes.ensures.value in
    let here : c.length.result ≡ get_or (slowest_first o ns) k 0 = c.length.ensures ∙ (ap (λ a. get_or ns a 0) axis ∙ sym (get_or-slow o ns k 0 on)) in
    rw c.set_length.ensures (filled_more 0 (slowest_first o ns) (g.D.Dimension.lengths c.loop-nth.slow) k c.length.result (omega (arith, on, length-slow o ns)) here c.loop-nth.invariant)

pub returns : goal.returns
returns g c =
    let ns = g.D.Dimension.lengths c.args.dim.now in
    filled_all 0 (slowest_first c.args.order ns) (g.D.Dimension.lengths c.loop-nth.slow) c.loop-nth.nth (omega (arith, length-slow c.args.order ns, c.ndim-axes.ensures.value, c.loop-nth-test.false)) c.loop-nth.invariant
