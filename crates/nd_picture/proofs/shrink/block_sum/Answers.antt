use Rattle.std.proofs.Common.{◌≡◌, ◌∙◌, ◌-◌, ◌*◌, ◌≤◌, ap, subst, arith}
use Rattle.nd_picture.specs.PictureChanges.{row_total, part_total}
use Rattle.nd_picture.proofs.BlockMeans.{sum_more, row_more}
use Rattle.nd_picture.proofs.shrink.block_sum.Goals as goal

pub loop-row-preserved : goal.loop-row-preserved
loop-row-preserved c =
    let so = c.loop-row.invariant in
    record {
      after = omega (arith, so.after);
      before = omega (arith, c.loop-row-test.true);
      bound = row_more c.args.top c.loop-row.row (c.args.right - c.args.left) _ _ so.after so.bound c.row_sum-sum.ensures.bound;
      sum = λ p shows. sum_more c.args.top c.loop-row.row _ _ (λ i. row_total p i c.args.left c.args.right c.args.channel) so.after (so.sum p shows) (c.row_sum-sum.ensures.sum p shows);
    }

pub returns : goal.returns
returns c =
    let so = c.loop-row.invariant in
    let end : c.loop-row.row ≡ c.args.bottom = omega (arith, so.before, c.loop-row-test.false) in
    record {
      sum = λ p shows. so.sum p shows ∙ ap (λ n. part_total p c.args.top n c.args.left c.args.right c.args.channel) end;
      bound = subst (λ n. c.loop-row.sum ≤ 65535 * ((n - c.args.top) * (c.args.right - c.args.left))) end so.bound;
    }
