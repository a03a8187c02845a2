use Rattle.std.proofs.Common.{◌≡◌, ◌<◌, ◌+◌, ◌^◌, drop}
use Rattle.nd_text.specs.DecimalNumerals.{with_digits}
use Rattle.nd_text.proofs.number_reading.with_fitting_digits.Given as goal

-- what is left, read after the number so far, is the whole
abbrev pub invariant-loop-nth : goal.invariant-loop-nth
invariant-loop-nth l = record {
  read : with_digits l.number (drop l.nth l.line) ≡ with_digits l.first l.line;
  below : l.number < 10 ^ (l.nth + 1);
}
