use Rattle.std.proofs.Common.{arith, ap, inl, inr}
use Rattle.std.specs.Prelude.{nat_lt}
use Rattle.std.proofs.lemmas.Bool.Decides.{nat_tests}
use Rattle.nd_text.specs.WatchedReadersAndWriters.{watched_inner}
use Rattle.nd_picture_text.specs.PlainRowReading.{IsSettled}
use Rattle.nd_picture_text.proofs.HeaderReadFromFront.{reads_then}
use Rattle.nd_picture_text.proofs.PlainRows.{ended_short, front_within, plain_next, plain_whole, plain_bad}
use Rattle.nd_picture_text.proofs.plain_rows_from_stream.next_plain_rows.Goals.{then-ended-via-then-ended, then-ended-via-else-ended+then-byte-gt0}
use Rattle.nd_picture_text.proofs.plain_rows_from_stream.next_plain_rows.Goals as goal

pub take_rows-requires : goal.take_rows-requires
take_rows-requires g c =
    let read = reads_then g.R.Read.remaining c.args.input.now c.loop-bytes.input c.fill.new.input c.args.bytes.now.items c.loop-bytes.bytes.items c.fill.new.bytes.items c.loop-bytes.invariant.bytes c.in-Ok.ensures.bytes in
    let found = rw c.deref.ensures.value at c.in-Ok-whole_rows.ensures.rows in
    front_within c.args.header c.requires.plain c.row_samples-row.result c.row_samples-row.ensures (g.R.Read.remaining (watched_inner c.args.input.now)) (g.R.Read.remaining (watched_inner c.fill.new.input)) c.args.bytes.now.items read.0 c.fill.new.bytes.items read.2 read.1
    c.loop-bytes.size c.in-Ok.ensures.filled _ (ended_short _ _ _ (omega (arith, c.len.ensures))) c.in-Ok-whole_rows.found.count c.args.missing c.in-Ok-whole_rows.found.left c.in-Ok-whole_rows.found.samples.items found.4 found.0 found.1 found.2 found.3 found.5 found.6 found.7

pub returns-in-Ok-whole_rows-clause-rows : goal.returns-in-Ok-whole_rows-clause-rows
returns-in-Ok-whole_rows-clause-rows g c =
    let read = reads_then g.R.Read.remaining c.args.input.now c.loop-bytes.input c.fill.new.input c.args.bytes.now.items c.loop-bytes.bytes.items c.fill.new.bytes.items c.loop-bytes.invariant.bytes c.in-Ok.ensures.bytes in
    let found = rw c.deref.ensures.value at c.in-Ok-whole_rows.ensures.rows in
    plain_next c.args.header c.requires.plain c.row_samples-row.result c.row_samples-row.ensures (g.R.Read.remaining (watched_inner c.args.input.now)) (g.R.Read.remaining (watched_inner c.fill.new.input)) c.args.bytes.now.items read.0 c.fill.new.bytes.items read.2 read.1
    c.loop-bytes.size c.in-Ok.ensures.filled _ (ended_short _ _ _ (omega (arith, c.len.ensures))) c.in-Ok-whole_rows.found.count c.args.missing c.in-Ok-whole_rows.found.left c.in-Ok-whole_rows.found.samples.items found.4 found.0 found.1 found.2 found.3 found.5 found.6 found.7
    c.take_rows.result c.take_rows.new.bytes.items c.take_rows.ensures.left c.take_rows.ensures.size c.take_rows.ensures.header (ap (λ v. v.items) c.take_rows.ensures.samples)

pub returns-in-Ok-whole_rows-clause-whole : goal.returns-in-Ok-whole_rows-clause-whole
returns-in-Ok-whole_rows-clause-whole g c =
    let read = reads_then g.R.Read.remaining c.args.input.now c.loop-bytes.input c.fill.new.input c.args.bytes.now.items c.loop-bytes.bytes.items c.fill.new.bytes.items c.loop-bytes.invariant.bytes c.in-Ok.ensures.bytes in
    let found = rw c.deref.ensures.value at c.in-Ok-whole_rows.ensures.rows in
    plain_whole c.args.header c.requires.plain c.row_samples-row.result c.row_samples-row.ensures (g.R.Read.remaining (watched_inner c.args.input.now)) (g.R.Read.remaining (watched_inner c.fill.new.input)) c.args.bytes.now.items read.0 c.fill.new.bytes.items read.2 read.1
    c.loop-bytes.size c.in-Ok.ensures.filled _ (ended_short _ _ _ (omega (arith, c.len.ensures))) c.in-Ok-whole_rows.found.count c.args.missing c.in-Ok-whole_rows.found.left c.in-Ok-whole_rows.found.samples.items found.4 found.0 found.1 found.2 found.3 found.5 found.6 found.7
    c.requires.header c.requires.few c.take_rows.result c.take_rows.ensures.header (ap (λ v. v.items) c.take_rows.ensures.samples)

pub returns-then-ended-clause-bad : goal.returns-then-ended-clause-bad
returns-then-ended-clause-bad g c =
    let read = reads_then g.R.Read.remaining c.args.input.now c.loop-bytes.input c.fill.new.input c.args.bytes.now.items c.loop-bytes.bytes.items c.fill.new.bytes.items c.loop-bytes.invariant.bytes c.in-Ok.ensures.bytes in
    let tells = rw c.deref.ensures.value at (rw c.in-Err-BadByte.field-0-is at c.in-Err-BadByte.ensures.stop) in
    let settled : IsSettled (nat_lt c.len.result c.loop-bytes.size) c.in-Err-BadByte.byte = elim c.then-ended.branch [ then-ended-via-then-ended w ↦ inl (grind (arith, nat_tests, w.if-ended.true)) | then-ended-via-else-ended+then-byte-gt0 w ↦ inr w.if-byte-gt0.true ] in
    plain_bad c.args.header c.requires.plain c.row_samples-row.result c.row_samples-row.ensures (g.R.Read.remaining (watched_inner c.args.input.now)) (g.R.Read.remaining (watched_inner c.fill.new.input)) c.args.bytes.now.items read.0 c.fill.new.bytes.items read.2 read.1
    c.loop-bytes.size c.in-Ok.ensures.filled _ (ended_short _ _ _ (omega (arith, c.len.ensures))) (omega (arith, c.requires.header.light)) c.args.missing c.saturating_sub.result c.in-Err-BadByte.byte c.in-Err-BadByte.flaw c.requires.some (tells settled) settled
    (omega (arith, c.saturating_sub.ensures, c.len-then-ended.ensures))
