use Rattle.std.proofs.Common.{◌≡◌, ◌∙◌, false, true, ap, subst, arith}
use Rattle.std.specs.Prelude.{Ok}
use Rattle.nd_npy_text.specs.HeaderReading.{is_cut_off}
use Rattle.nd_npy.specs.StreamReadsAndWrites.{ReadsPiece}
use Rattle.nd_npy.proofs.ArraysFromStreams.{keeps_on, front_refused}
use Rattle.nd_npy.proofs.elements_piece_by_piece.read_front.Goals as goal

pub loop-input-preserved : goal.loop-input-preserved
loop-input-preserved g c =
    let kept = c.loop-input.invariant in
    let next = c.in-Ok-true.ensures in
    let reads = subst (λ more. ReadsPiece g.R.Read.remaining c.loop-input.input c.read_on.new.input c.loop-input.front.items c.read_on.new.pending.items (Ok more)) c.in-Ok-true.field-0-test next.reads in
    record {
      ahead = keeps_on _ _ _ kept.ahead reads.0;
      failed = next.watch.0;
      stops = next.watch.1 ∙ kept.stops;
    }

pub loop-input-smaller : goal.loop-input-smaller
loop-input-smaller g c =
    let old = c.loop-input.front in
    let front = c.read_on.new.pending in
    let reads = subst (λ more. ReadsPiece g.R.Read.remaining c.loop-input.input c.read_on.new.input old.items front.items (Ok more)) c.in-Ok-true.field-0-test c.in-Ok-true.ensures.reads in
    omega (arith, front.ok, front.small, old.ok, reads.1)

pub returns-in-Ok-false-clause-front : goal.returns-in-Ok-false-clause-front
returns-in-Ok-false-clause-front g c =
    let reads = subst (λ more. ReadsPiece g.R.Read.remaining c.loop-input.input c.read_on.new.input c.loop-input.front.items c.read_on.new.pending.items (Ok more)) c.in-Ok-false.field-0-test c.in-Ok-false.ensures.reads in
    (keeps_on _ _ _ c.loop-input.invariant.ahead reads.0, λ cut. reads.1)

pub returns-in-Err-clause-refused : goal.returns-in-Err-clause-refused
returns-in-Err-clause-refused g c = front_refused _ _ c.loop-input.front.items c.in-Err.error c.loop-input.invariant.ahead c.in-Err.ensures.reads

pub returns-clause-front : goal.returns-clause-front
returns-clause-front g c = (c.loop-input.invariant.ahead, λ cut. absurd (let clash : false ≡ true = c.loop-input-test.ensures ∙ ap is_cut_off c.deref.ensures.value ∙ cut in cc))
