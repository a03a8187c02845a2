use Rattle.nd_text.specs.WatchedReadersAndWriters.{watched_inner}
use Rattle.nd_picture.proofs.ImageRowByRow.{rows_come, rows_good}
use Rattle.nd_picture.proofs.image_row_by_row.write_by_rows.Goals as goal

pub returns-clause-written : goal.returns-clause-written
returns-clause-written g c =
    (rows_come c.args.steps.now c.args.plan c.requires.front.0 c.requires.plan c.args.bytes.items c.drop_front.new.bytes.items c.drop_front.ensures c.requires.front.1 g.W.Write.contents (g.R.Read.remaining (watched_inner c.args.input.now)) c.args.output.now c.put_header.new.output
    c.put_rows-result.new.output c.finish.new.output c.new-page.result c.put_header.new.page c.requires.front.2 c.new-page.ensures c.put_header.new.page c.put_rows-result.new.page c.put_header.ensures c.finish.ensures.text c.finish.ensures.flushed c.put_rows-result.result
    c.put_rows-result.ensures.put).0

pub returns-clause-fault : goal.returns-clause-fault
returns-clause-fault g c =
    (rows_come c.args.steps.now c.args.plan c.requires.front.0 c.requires.plan c.args.bytes.items c.drop_front.new.bytes.items c.drop_front.ensures c.requires.front.1 g.W.Write.contents (g.R.Read.remaining (watched_inner c.args.input.now)) c.args.output.now c.put_header.new.output
    c.put_rows-result.new.output c.finish.new.output c.new-page.result c.put_header.new.page c.requires.front.2 c.new-page.ensures c.put_header.new.page c.put_rows-result.new.page c.put_header.ensures c.finish.ensures.text c.finish.ensures.flushed c.put_rows-result.result
    c.put_rows-result.ensures.put).1

pub returns-clause-steps : goal.returns-clause-steps
returns-clause-steps g c = rows_good g.W.Write.contents c.args.steps.now c.args.plan _ c.put_header.new.output c.put_rows-result.new.output c.put_header.new.page c.put_rows-result.new.page c.put_rows-result.result c.put_rows-result.ensures.put
