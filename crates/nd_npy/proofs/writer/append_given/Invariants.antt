use Rattle.nd_npy.proofs.WrittenElementBytes.{StillToWrite}
use Rattle.nd_npy.proofs.writer.append_given.Given as goal

abbrev pub invariant-loop-item : goal.invariant-loop-item
invariant-loop-item g l = record {
  can : (goal.iterator-loop-item g).can_next l.item-iterator;
  ends : (goal.iterator-loop-item g).is_finite l.item-iterator;
  still : StillToWrite g.A.NpyItem l.order g.I.Iterator.next_gives l.fn.items l.fn.bytes.items l.item-iterator l.bytes.items;
}
