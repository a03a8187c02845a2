use Rattle.std.proofs.Common.{◌≡◌, ◌-◌, map}
use Rattle.nd_array_core.specs.ArrayMeaning.{meaning_of}
use Rattle.nd_read.specs.ScriptCalls.{boxed}
use Rattle.nd_read.specs.LineReaders.{array_at, many_at}
use Rattle.nd_read.proofs.ItemReadingLoop.{with_front}
use Rattle.nd_read.proofs.reader.words_of_line.Line.boxes.Given as goal

abbrev pub invariant-loop : goal.invariant-loop
invariant-loop l = with_front (map (boxed meaning_of) l.arrays.items) (many_at array_at (l.count - l.counter) l.self) ≡ many_at array_at l.count l.fn.self
