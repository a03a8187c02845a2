use Rattle.std.proofs.Common.{◌≡◌, ◌-◌}
use Rattle.nd_read.specs.LineReaders.{many_at}
use Rattle.nd_read.proofs.ItemReadingLoop.{with_front}
use Rattle.nd_read.proofs.reader.words_of_line.Line.items.Given as goal

abbrev pub invariant-loop : goal.invariant-loop
invariant-loop g l = with_front l.items.items (many_at g.I.Item.read_at (l.count - l.counter) l.self) ≡ many_at g.I.Item.read_at l.count l.fn.self
