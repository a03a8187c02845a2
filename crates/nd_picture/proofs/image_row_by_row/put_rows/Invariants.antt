use Rattle.std.proofs.Common.{◌≡◌, ◌+◌, ◌-◌, ℕ, List, false}
use Rattle.nd_text.specs.WatchedReadersAndWriters.{watched_failed, watched_retried}
use Rattle.nd_picture_text.specs.RowwiseImageReading.{still_given, TakesRows}
use Rattle.nd_picture.specs.RowByRowOutput.{PutsFirst}
use Rattle.nd_picture.proofs.image_row_by_row.put_rows.Given as goal

-- the rows so far were read, and what the steps make of them was put
abbrev pub invariant-loop-done : goal.invariant-loop-done
invariant-loop-done g l = record {
  rows :
      (xs : List ℕ) × (size : ℕ) × (l.passed ≡ l.size + size) × TakesRows l.header l.done size xs (still_given g.R.Read.remaining l.fn.input l.fn.bytes.items) (still_given g.R.Read.remaining l.input l.bytes.items)
      × PutsFirst g.W.Write.contents l.fn.steps l.header l.after l.done xs l.fn.output l.fn.page l.output l.page;
  failed : watched_failed l.input ≡ false;
  stops : watched_retried l.input ≡ watched_retried l.fn.input;
}

abbrev pub decreases-loop-done : goal.decreases-loop-done
decreases-loop-done g l = l.header.height - l.done
