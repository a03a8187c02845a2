use Rattle.std.proofs.Common.{refl, arith}
use Rattle.nd_npy_text.proofs.PiecesInTurn.{item_more, pieces_all}
use Rattle.nd_npy.proofs.EachItemOfSlice.{each_more, each_of_all}
use Rattle.nd_npy.proofs.item.NpyItem.append_all_to.Goals as goal

pub loop-item-preserved : goal.loop-item-preserved
loop-item-preserved g c =
    let item = g.Self.NpyItem in
    let kept = c.loop-item.invariant in
    let step = c.in_ok-append_to.ensures in
    record {
      written = item_more (item.bytes_of c.args.order) c.args.items.now c.loop-item.item-index c.item-item.result _ c.args.bytes.now.items c.loop-item.bytes.items c.append_to.new.bytes.items c.loop-item-test.true c.item-item.is refl kept.written step.written;
      fits = each_more item.fits c.args.items.now c.loop-item.item-index c.item-item.result c.loop-item-test.true c.item-item.is step.fits kept.fits;
    }

pub returns-clause-written : goal.returns-clause-written
returns-clause-written g c = pieces_all (g.Self.NpyItem.bytes_of c.args.order) c.args.items.now c.loop-item.item-index c.args.bytes.now.items c.loop-item.bytes.items (omega (arith, c.loop-item-test.false)) c.loop-item.invariant.written

pub returns-clause-fits : goal.returns-clause-fits
returns-clause-fits g c = each_of_all g.Self.NpyItem.fits c.args.items.now c.loop-item.item-index (omega (arith, c.loop-item-test.false)) c.loop-item.invariant.fits
