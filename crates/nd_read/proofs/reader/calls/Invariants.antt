use Rattle.std.proofs.Common.{◌≡◌, ◌+◌, ◌≤◌, map, length}
use Rattle.nd_text.specs.LinesAndWords.{lines_of}
use Rattle.nd_array_core.specs.ArrayMeaning.{meaning_of}
use Rattle.nd_read.specs.ScriptCalls.{asked_call, boxed}
use Rattle.nd_read.specs.ScriptReading.{calls_from, lacked_memory}
use Rattle.nd_read.proofs.ScriptReadingLoop.{with_calls, AreReadTo}
use Rattle.nd_read.proofs.reader.calls.Given as goal

abbrev pub invariant-loop-rest : goal.invariant-loop-rest
invariant-loop-rest l = record {
  reads : with_calls (map (asked_call (boxed meaning_of)) l.calls.items) (calls_from l.number (lines_of l.rest)) ≡ calls_from l.fn.first (lines_of l.fn.text);
  few : l.number + length l.rest ≤ l.fn.first + length l.fn.text;
  front : AreReadTo (lines_of l.fn.text) (lines_of l.rest) (map (asked_call (boxed meaning_of)) l.calls.items);
  lacked : lacked_memory l.reader ≡ lacked_memory l.fn.reader;
}

abbrev pub decreases-loop-rest : goal.decreases-loop-rest
decreases-loop-rest l = length l.rest
