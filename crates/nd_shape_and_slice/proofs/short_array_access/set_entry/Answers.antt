use Rattle.nd_shape_and_slice.proofs.NamesFromOtherCrates.{arith}
use Rattle.nd_shape_and_slice.proofs.EntryLoops.{none_put, put_here, put_elsewhere, put_all}
use Rattle.nd_shape_and_slice.proofs.short_array_access.set_entry.Goals as goal
use Rattle.nd_shape_and_slice.proofs.short_array_access.set_entry.Goals.{then-k-at, else-k-at}

pub loop-k-init : goal.loop-k-init
loop-k-init g c = none_put c.args.list.now c.args.at c.args.value

pub loop-k-preserved : goal.loop-k-preserved
loop-k-preserved g c =
    elim c.if-k-at.branch [
      | then-k-at w ↦ rw (w.list-is) (put_here c.args.list.now c.loop-k.list c.args.at c.args.value c.loop-k.k w.if-k-at.true c.loop-k.invariant)
      | else-k-at w ↦ rw (w.list-is) (put_elsewhere c.args.list.now c.loop-k.list c.args.at c.args.value c.loop-k.k w.if-k-at.false c.loop-k.invariant)
    ]

pub returns : goal.returns
returns g c = put_all c.args.list.now c.loop-k.list c.args.at c.args.value c.loop-k.k (omega (arith, c.told-list, c.loop-k-test.false)) c.loop-k.invariant
