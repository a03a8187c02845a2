use Rattle.std.proofs.Common.{arith, sym, subst, Err}
use Rattle.nd_picture_text.specs.PlainRowReading.{PutsSamples}
use Rattle.nd_picture_text.proofs.PlainRows.{row_none, row_more, row_stop}
use Rattle.nd_picture_text.proofs.plain_rows_from_stream.read_row.Goals as goal

pub loop-missing-init : goal.loop-missing-init
loop-missing-init c = record { read = row_none _ _ _ _ }

pub loop-missing-preserved : goal.loop-missing-preserved
loop-missing-preserved c = record {
  read = row_more c.args.header c.requires.plain _ _ _ _ _ _ _ _ _ (omega arith) c.in-Ok.ensures.value c.in-Ok.ensures.within c.in_ok-keep-in-Ok.ensures.kept c.loop-missing.invariant.read;
}

pub returns-in-Err : goal.returns-in-Err
returns-in-Err c =
    let stop = c.in-Err.stop in
    let put = row_stop c.args.header c.requires.plain c.args.count c.loop-missing.missing stop.0 stop.1 c.args.bytes.now c.args.samples.now.items c.loop-missing.samples.items c.loop-missing.rest.now (omega arith) c.in-Err.ensures.value c.loop-missing.invariant.read in
    subst (λ e. PutsSamples c.args.header c.args.count c.args.bytes.now c.args.samples.now.items c.loop-missing.samples.items (Err e)) (sym c.bad_byte.ensures) put
