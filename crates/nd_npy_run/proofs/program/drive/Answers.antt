use Rattle.std.proofs.Common.{sym}
use Rattle.nd_text.specs.LinesAndWords.{words_of}
use Rattle.nd_npy_run.proofs.ErrorLinesFlushed.{line_flushed, line_flushed_failing, written_whole}
use Rattle.nd_npy_run.proofs.program.drive.Goals as goal

pub returns-clause-told : goal.returns-clause-told
returns-clause-told g c = λ below.
    let run = c.drive_on-status in
    written_whole g.R.Read.remaining g.W.Write.contents g.E.Write.contents c.args.wanted (words_of c.args.line.now) c.args.input.now run.new.input c.args.output.now run.new.output c.args.errors.now run.new.errors run.result run.ensures.driven (sym c.if-any_failed.ensures)

pub returns-clause-flushed_errors : goal.returns-clause-flushed_errors
returns-clause-flushed_errors g c = λ more.
    let run = c.drive_on-status in
    line_flushed c.args.input.now run.new.input c.args.output.now run.new.output c.args.errors.now run.new.errors run.ensures.driven.0 run.result run.ensures.driven.4 more run.ensures.driven.6

pub returns-then-any_failed-clause-flushed_errors : goal.returns-then-any_failed-clause-flushed_errors
returns-then-any_failed-clause-flushed_errors g c = λ more.
    let run = c.drive_on-status in
    line_flushed_failing c.args.input.now run.new.input c.args.output.now run.new.output c.args.errors.now run.new.errors run.ensures.driven.0 run.ensures.driven.5 run.ensures.driven.6 (sym c.if-any_failed.ensures)
