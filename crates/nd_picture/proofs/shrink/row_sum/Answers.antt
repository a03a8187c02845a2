use Rattle.std.proofs.Common.{◌≡◌, ◌∙◌, ap, arith}
use Rattle.nd_picture.specs.PictureChanges.{row_total}
use Rattle.nd_picture.proofs.BlockMeans.{sum_more}
use Rattle.nd_picture.proofs.shrink.row_sum.Goals as goal

pub loop-column-preserved : goal.loop-column-preserved
loop-column-preserved c =
    let so = c.loop-column.invariant in
    record {
      after = omega (arith, so.after);
      before = omega (arith, c.loop-column-test.true);
      bound = omega (arith, so.bound, so.after);
      sum = λ p shows. sum_more c.args.left c.loop-column.column _ _ (λ j. p.sample_at c.args.row j c.args.channel) so.after (so.sum p shows) (c.from-sum.ensures ∙ c.sample_at.ensures p shows);
    }

pub returns : goal.returns
returns c =
    let so = c.loop-column.invariant in
    let end : c.loop-column.column ≡ c.args.right = omega (arith, so.before, c.loop-column-test.false) in
    record {
      sum = λ p shows. so.sum p shows ∙ ap (λ n. row_total p c.args.row c.args.left n c.args.channel) end;
      bound = omega (arith, so.bound, end);
    }
