use Rattle.std.proofs.Common.{◌≡◌, ◌-◌, vec_len}
use Rattle.std.specs.Prelude.{vec_capacity}
use Rattle.nd_text.specs.DecimalNumerals.{nat_of}
use Rattle.nd_text.specs.LinesAndWords.{words_of}
use Rattle.nd_read.specs.LineReaders.{first_as, many_at}
use Rattle.nd_read.proofs.ItemReadingLoop.{with_front}
use Rattle.nd_npy_run.proofs.steps.number_lists.split_numbers.Given as goal

-- the numbers so far, and then those that are left
abbrev pub invariant-loop : goal.invariant-loop
invariant-loop l = record {
  numbers : with_front l.numbers.items (many_at (first_as nat_of) (l.count - l.counter) (words_of l.rest)) ≡ many_at (first_as nat_of) l.count (words_of l.line);
  len : vec_len l.numbers ≡ l.counter;
  room : vec_capacity l.numbers ≡ l.count;
}
