use Rattle.std.proofs.Common.{subst}
use Rattle.nd_text.specs.BufferedPrinting.{Puts}
use Rattle.nd_text.specs.NumberTexts.{values_text}
use Rattle.nd_run.proofs.output_and_exit_status.put_values.Goals as goal

pub returns-in-Some : goal.returns-in-Some
returns-in-Some g c = subst (λ vs. Puts g.W.Write.contents c.args.output.now c.args.page.now c.put_numbers.new.out c.put_numbers.new.page (values_text vs)) c.in-Some.ensures.elements c.put_numbers.ensures
