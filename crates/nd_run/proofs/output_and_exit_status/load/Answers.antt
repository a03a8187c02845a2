use Rattle.std.proofs.Common.{◌∙◌, ap, map, Err}
use Rattle.nd_run.specs.CallReplies.{said_reply}
use Rattle.nd_text.specs.WatchedReadersAndWriters.{watched_inner}
use Rattle.nd_run.proofs.WholeProgram.{want_ends}
use Rattle.nd_run.proofs.output_and_exit_status.load.Goals as goal

pub returns-clause-script : goal.returns-clause-script
returns-clause-script g c =
    want_ends (g.R.Read.remaining (watched_inner c.args.input.now)) c.in-Ok.text.items c.deref.result.now (map said_reply c.new-in-Err-Memory-read_script.result.items) c.in-Ok.ensures.bytes c.deref.ensures.value (c.read_script.ensures.memory (c.in-Err-Memory-read_script.is ∙ ap Err c.in-Err-Memory-read_script.field-0-is))
    (ap (map said_reply) c.new-in-Err-Memory-read_script.ensures.items)
