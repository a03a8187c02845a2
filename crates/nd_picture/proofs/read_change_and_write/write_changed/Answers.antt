use Rattle.std.proofs.Common.{sym, subst}
use Rattle.nd_text.specs.WatchedReadersAndWriters.{watched_inner}
use Rattle.nd_picture.specs.RowByRowOutput.{GoesByRows}
use Rattle.nd_picture.proofs.OutcomeOfFaultyInput.{from_front, results_back}
use Rattle.nd_picture.proofs.read_change_and_write.write_changed.Goals as goal

pub write_by_rows-requires-clause-plan : goal.write_by_rows-requires-clause-plan
write_by_rows-requires-clause-plan g c = subst (λ h. GoesByRows c.args.steps.now h c.in-Some.plan.after) (sym c.in-Some.ensures.1) c.in-Some.ensures.0

pub returns-in-Some-clause-fault : goal.returns-in-Some-clause-fault
returns-in-Some-clause-fault g c =
    let read = c.in-Ok-Some.ensures.bytes in
    let back = from_front (g.R.Read.remaining (watched_inner c.args.input.now)) (g.R.Read.remaining (watched_inner c.read_header.new.input)) c.new-bytes.result.items c.read_header.new.bytes.items read.0 c.new-bytes.ensures.items read.2 read.1 in
    results_back c.args.steps.now g.W.Write.contents c.args.output.now c.write_by_rows.new.output _ (g.R.Read.remaining (watched_inner c.args.input.now)) c.write_by_rows.result back c.write_by_rows.ensures.fault

pub returns-in-Ok-Some-clause-fault : goal.returns-in-Ok-Some-clause-fault
returns-in-Ok-Some-clause-fault g c =
    let read = c.in-Ok-Some.ensures.bytes in
    let back = from_front (g.R.Read.remaining (watched_inner c.args.input.now)) (g.R.Read.remaining (watched_inner c.read_header.new.input)) c.new-bytes.result.items c.read_header.new.bytes.items read.0 c.new-bytes.ensures.items read.2 read.1 in
    results_back c.args.steps.now g.W.Write.contents c.args.output.now c.write_at_once-in-None.new.output _ (g.R.Read.remaining (watched_inner c.args.input.now)) c.write_at_once-in-None.result back c.write_at_once-in-None.ensures.fault
