use Rattle.std.proofs.Common.{◌≡◌, ◌-◌, true, map}
use Rattle.nd_read.specs.ScriptCalls.{asked_step}
use Rattle.nd_read.specs.LineReaders.{begins_step, path_at}
use Rattle.nd_read.proofs.ItemReadingLoop.{with_front}
use Rattle.nd_read.proofs.reader.words_of_line.Line.path.Given as goal

-- a step begins at the front of the words, too, where one begins at what is left
abbrev pub invariant-loop : goal.invariant-loop
invariant-loop l =
    (with_front (map asked_step l.steps.items) (path_at (l.most - l.counter) l.self) ≡ path_at l.most l.fn.self)
    × (begins_step l.self ≡ true → begins_step l.fn.self ≡ true)
