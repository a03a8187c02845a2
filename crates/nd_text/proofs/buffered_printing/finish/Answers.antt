use Rattle.std.proofs.Common.{append-nil, subst}
use Rattle.nd_text.specs.BufferedPrinting.{TakesText}
use Rattle.nd_text.proofs.PrintingInTurn.{takes_then}
use Rattle.nd_text.proofs.buffered_printing.finish.Goals as goal

pub returns-clause-text : goal.returns-clause-text
returns-clause-text g c = rw (← c.as_slice.ensures) (subst (TakesText g.W.Write.contents c.args.output.now c.flush.new.output) (append-nil c.as_slice.result.now) (takes_then c.write_text.ensures.takes c.flush.ensures.text))

pub returns-clause-flushed : goal.returns-clause-flushed
returns-clause-flushed g c = λ never. c.flush.ensures.flushed (c.write_text.ensures.unflushed never)
