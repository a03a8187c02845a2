use Rattle.std.proofs.Common.{◌≡◌, length, arith}
use Rattle.nd_npy.proofs.EachItemOfSlice.{each_more, each_of_all}
use Rattle.nd_npy.proofs.raw_items.have_their_size.Goals as goal

pub loop-item-preserved : goal.loop-item-preserved
loop-item-preserved g c = each_more (λ item. length item ≡ g.row.N) c.args.items.now c.loop-item.item-index c.item-item.result c.loop-item-test.true c.item-item.is c.has_its_size.ensures c.loop-item.invariant

pub returns : goal.returns
returns g c = each_of_all (λ item. length item ≡ g.row.N) c.args.items.now c.loop-item.item-index (omega (arith, c.loop-item-test.false)) c.loop-item.invariant
