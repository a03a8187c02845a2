use Rattle.std.proofs.Common.{◌∙◌}
use Rattle.nd_text.proofs.FirstNumberOfLine.{first_number}
use Rattle.nd_text.proofs.number_reading.split_number.Goals as goal

pub returns : goal.returns
returns c = c.split_digits.ensures ∙ first_number c.args.line.now c.trim_start.result.now c.trim_start.ensures.front c.trim_start.ensures.words
