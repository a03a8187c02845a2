use Rattle.nd_shape_and_slice.proofs.NamesFromOtherCrates.{arith}
use Rattle.nd_shape_and_slice.proofs.EntryLoops.{found_here, found_before}
use Rattle.nd_shape_and_slice.proofs.short_array_access.entry_at.Goals as goal
use Rattle.nd_shape_and_slice.proofs.short_array_access.entry_at.Goals.{then-k-at, else-k-at}

pub loop-k-init : goal.loop-k-init
loop-k-init g c h = absurd (omega (arith, h))

pub loop-k-preserved : goal.loop-k-preserved
loop-k-preserved g c =
    elim c.if-k-at.branch [
      | then-k-at w ↦
          found_here c.args.list.now c.args.at w.index-list-k.result c.if-k-at.entry c.loop-k.k (omega (arith, c.told-list, c.loop-k-test.true)) w.if-k-at.true w.entry-is
      | else-k-at w ↦ rw (w.entry-is) (found_before c.args.list.now c.args.at c.loop-k.entry c.loop-k.k w.if-k-at.false c.loop-k.invariant)
    ]

pub returns : goal.returns
returns g c = c.loop-k.invariant (omega (arith, c.requires, c.loop-k-test.false))
