use Rattle.nd_run.proofs.WholeProgram.{tells_end, tells_run, tells_bad_line, tells_want, tells_beginning}
use Rattle.nd_run.proofs.program.drive.Goals as goal

pub returns-clause-text : goal.returns-clause-text
returns-clause-text g c = tells_end g.R.Read.remaining g.W.Write.contents c.args.input.now c.drive_to_end.new.input c.args.output.now c.drive_to_end.new.output c.drive_to_end.result c.drive_to_end.ensures.driven

pub returns-clause-finished : goal.returns-clause-finished
returns-clause-finished g c = tells_run g.R.Read.remaining g.W.Write.contents c.args.input.now c.drive_to_end.new.input c.args.output.now c.drive_to_end.new.output c.drive_to_end.result c.drive_to_end.ensures.driven

pub returns-clause-bad_line : goal.returns-clause-bad_line
returns-clause-bad_line g c = tells_bad_line g.R.Read.remaining g.W.Write.contents c.args.input.now c.drive_to_end.new.input c.args.output.now c.drive_to_end.new.output c.drive_to_end.result c.drive_to_end.ensures.driven

pub returns-clause-memory : goal.returns-clause-memory
returns-clause-memory g c = tells_want g.R.Read.remaining g.W.Write.contents c.args.input.now c.drive_to_end.new.input c.args.output.now c.drive_to_end.new.output c.drive_to_end.result c.drive_to_end.ensures.driven

pub returns-clause-beginning : goal.returns-clause-beginning
returns-clause-beginning g c = tells_beginning g.R.Read.remaining g.W.Write.contents c.args.input.now c.drive_to_end.new.input c.args.output.now c.drive_to_end.new.output c.drive_to_end.result c.drive_to_end.ensures.driven
