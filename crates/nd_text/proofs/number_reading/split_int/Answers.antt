use Rattle.std.proofs.Common.{◌∙◌}
use Rattle.nd_text.proofs.FirstNumberOfLine.{first_int}
use Rattle.nd_text.proofs.number_reading.split_int.Goals as goal

pub returns : goal.returns
returns c = c.split_signed.ensures ∙ first_int c.args.line.now c.trim_start.result.now c.split_sign-minus.result.1.now c.split_sign-minus.result.0 c.trim_start.ensures.front c.trim_start.ensures.words c.split_sign-minus.ensures.minus c.split_sign-minus.ensures.digits
