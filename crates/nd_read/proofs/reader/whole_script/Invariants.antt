use Rattle.std.proofs.Common.{◌≡◌, ◌+◌, ◌≤◌, length}
use Rattle.nd_text.specs.LinesAndWords.{lines_of}
use Rattle.nd_read.specs.ScriptReading.{script_from, lacked_memory}
use Rattle.nd_read.proofs.ScriptReadingLoop.{AreSkippedTo}
use Rattle.nd_read.proofs.reader.whole_script.Given as goal

abbrev pub invariant-loop-rest : goal.invariant-loop-rest
invariant-loop-rest l = record {
  reads : script_from l.number (lines_of l.rest) ≡ script_from 1 (lines_of l.fn.text);
  few : l.number + length l.rest ≤ 1 + length l.fn.text;
  front : AreSkippedTo (lines_of l.fn.text) (lines_of l.rest);
  lacked : lacked_memory l.reader ≡ lacked_memory l.fn.reader;
}

abbrev pub decreases-loop-rest : goal.decreases-loop-rest
decreases-loop-rest l = length l.rest
