use Rattle.std.proofs.Common.{arith}
use Rattle.nd_text.specs.WatchedReadersAndWriters.{watched_inner}
use Rattle.nd_picture_text.proofs.NextRows.{are_next, are_raw, bad_near, bad_row}
use Rattle.nd_picture_text.proofs.rows_from_stream.next_raw_rows.Goals as goal

pub returns-in-Ok-rows_in-clause-rows : goal.returns-in-Ok-rows_in-clause-rows
returns-in-Ok-rows_in-clause-rows g c =
    let read = c.in-Ok.ensures.bytes in
    are_next c.args.header c.requires.raw c.rows_at_hand-count.result c.args.missing c.min-front.result c.row_size-size.result c.len-2.result (g.R.Read.remaining (watched_inner c.args.input.now)) (g.R.Read.remaining (watched_inner c.fill.new.input))
    c.args.bytes.now.items read.0 c.fill.new.bytes.items c.deref.result.now c.with_rows.result c.row_size-size.ensures.size (omega (arith, c.len-2.ensures)) (omega (arith, c.min-front.ensures)) read.2 read.1 c.deref.ensures.value c.with_rows.ensures c.drop_front.new.bytes.items c.in-Ok-rows_in.image c.drop_front.ensures
    c.rows_at_hand-count.ensures.few c.in-Ok-rows_in.ensures.header c.in-Ok-rows_in.ensures.read

pub returns-in-Err-BadByte-clause-bad : goal.returns-in-Err-BadByte-clause-bad
returns-in-Err-BadByte-clause-bad g c =
    let read = c.in-Ok.ensures.bytes in
    bad_row c.args.header c.requires.raw c.rows_at_hand-count.result c.args.missing c.min-front.result c.row_size-size.result c.len-2.result (g.R.Read.remaining (watched_inner c.args.input.now)) (g.R.Read.remaining (watched_inner c.fill.new.input))
    c.args.bytes.now.items read.0 c.fill.new.bytes.items c.deref.result.now c.with_rows.result c.row_size-size.ensures.size (omega (arith, c.len-2.ensures)) (omega (arith, c.min-front.ensures)) read.2 read.1 c.deref.ensures.value c.with_rows.ensures c.saturating_sub.result c.in-Err-BadByte.byte c.in-Err-BadByte.flaw
    (λ h. omega (arith, c.len.ensures, c.len-2.ensures, c.rows_at_hand-count.ensures.whole (omega (arith, h, c.len.ensures, c.len-2.ensures)))) c.in-Ok.ensures.filled c.rows_at_hand-count.ensures.some c.rows_at_hand-count.ensures.few (rw c.in-Err-BadByte.field-0-is at c.in-Err-BadByte.ensures.read) c.saturating_sub.ensures

pub returns-in-Ok-rows_in-clause-raw : goal.returns-in-Ok-rows_in-clause-raw
returns-in-Ok-rows_in-clause-raw g c =
    let read = c.in-Ok.ensures.bytes in
    are_raw c.args.header c.requires.raw c.rows_at_hand-count.result c.args.missing c.min-front.result c.row_size-size.result c.len-2.result (g.R.Read.remaining (watched_inner c.args.input.now)) (g.R.Read.remaining (watched_inner c.fill.new.input))
    c.args.bytes.now.items read.0 c.fill.new.bytes.items c.deref.result.now c.with_rows.result c.row_size-size.ensures.size (omega (arith, c.len-2.ensures)) (omega (arith, c.min-front.ensures)) read.2 read.1 c.deref.ensures.value c.with_rows.ensures c.drop_front.new.bytes.items c.in-Ok-rows_in.image c.drop_front.ensures
    c.in-Ok-rows_in.ensures.header c.in-Ok-rows_in.ensures.read

pub returns-in-Err-BadByte-clause-near : goal.returns-in-Err-BadByte-clause-near
returns-in-Err-BadByte-clause-near g c =
    let read = c.in-Ok.ensures.bytes in
    bad_near c.args.header c.requires.raw c.rows_at_hand-count.result c.args.missing c.min-front.result c.row_size-size.result c.len-2.result (g.R.Read.remaining (watched_inner c.args.input.now)) (g.R.Read.remaining (watched_inner c.fill.new.input))
    c.args.bytes.now.items read.0 c.fill.new.bytes.items c.deref.result.now c.with_rows.result c.row_size-size.ensures.size (omega (arith, c.len-2.ensures)) (omega (arith, c.min-front.ensures)) read.2 read.1 c.deref.ensures.value c.with_rows.ensures
    c.saturating_sub.result c.in-Err-BadByte.byte c.rows_at_hand-count.ensures.few c.saturating_sub.ensures
