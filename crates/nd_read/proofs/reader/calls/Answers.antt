use Rattle.std.proofs.Common.{◌≡◌, ◌++◌, ◌∷◌, ◌∙◌, [], map, sym, arith}
use Rattle.std.proofs.lemmas.Result.{err_from_is_err_and}
use Rattle.std.proofs.lemmas.List.{map_push}
use Rattle.nd_array_core.specs.ArrayMeaning.{meaning_of}
use Rattle.nd_read.specs.ScriptCalls.{asked_call, boxed}
use Rattle.nd_text.specs.LinesAndWords.{lines_of}
use Rattle.nd_read.specs.ScriptReading.{calls_from}
use Rattle.nd_read.proofs.ScriptReadingLoop.{lines_none, calls_skip, calls_more, calls_stop, calls_done, read_skip, read_more, read_stops, same_fault, taken_in}
use Rattle.nd_read.proofs.reader.calls.Goals as goal

pub loop-rest-preserved-then-is_wordless : goal.loop-rest-preserved-then-is_wordless
loop-rest-preserved-then-is_wordless c = record {
  reads = calls_skip (map (asked_call (boxed meaning_of)) c.loop-rest.calls.items) c.loop-rest.number c.split_line.result.0.now (lines_of c.loop-rest.rest.now) (lines_of c.split_line.result.1.now) (calls_from c.args.first (lines_of c.args.text.now)) c.split_line.ensures.lines (sym c.if-is_wordless.ensures) c.loop-rest.invariant.reads;
  few = omega arith;
  front = read_skip _ _ _ c.split_line.result.0.now _ c.split_line.ensures.lines (sym c.if-is_wordless.ensures) c.loop-rest.invariant.front;
  lacked = c.loop-rest.invariant.lacked;
}

pub loop-rest-preserved : goal.loop-rest-preserved
loop-rest-preserved c =
    let call = asked_call (boxed meaning_of) c.in_ok-call.call in
    let e : map (asked_call (boxed meaning_of)) c.keep.new.calls.items ≡ map (asked_call (boxed meaning_of)) c.loop-rest.calls.items ++ call ∷ [] = rw c.in_ok-keep.ensures.kept (map_push _ c.loop-rest.calls.items c.in_ok-call.call) in
    record {
      reads = rw e (calls_more (map (asked_call (boxed meaning_of)) c.loop-rest.calls.items) c.loop-rest.number c.split_line.result.0.now (lines_of c.loop-rest.rest.now) (lines_of c.split_line.result.1.now) call (calls_from c.args.first (lines_of c.args.text.now)) c.split_line.ensures.lines (sym c.if-is_wordless.ensures) c.in_ok-call.ensures.read c.loop-rest.invariant.reads);
      few = omega arith;
      front = rw e (read_more _ _ _ c.split_line.result.0.now _ call c.loop-rest.number c.split_line.ensures.lines (sym c.if-is_wordless.ensures) c.in_ok-call.ensures.read c.loop-rest.invariant.front);
      lacked = c.in_ok-keep.ensures.lacked ∙ (c.in_ok-call.ensures.lacked ∙ c.loop-rest.invariant.lacked);
    }

pub returns-in_err-call-clause-read : goal.returns-in_err-call-clause-read
returns-in_err-call-clause-read c =
    let p = err_from_is_err_and c.from_residual.result c.from_residual.ensures.1 in
    rw (p.1, p.2) (calls_stop c.in_err-call.field-0.0 (map (asked_call (boxed meaning_of)) c.loop-rest.calls.items) c.loop-rest.number c.split_line.result.0.now (lines_of c.loop-rest.rest.now) (lines_of c.split_line.result.1.now) (calls_from c.args.first (lines_of c.args.text.now)) c.split_line.ensures.lines (sym c.if-is_wordless.ensures) c.in_err-call.ensures.read c.loop-rest.invariant.reads)

pub returns-clause-read : goal.returns-clause-read
returns-clause-read c = calls_done (map (asked_call (boxed meaning_of)) c.loop-rest.calls.items) c.loop-rest.number (lines_of c.loop-rest.rest.now) (calls_from c.args.first (lines_of c.args.text.now)) (lines_none c.loop-rest.rest.now c.loop-rest-test.ensures) c.loop-rest.invariant.reads

pub returns-in_err-call-clause-stopped : goal.returns-in_err-call-clause-stopped
returns-in_err-call-clause-stopped c = λ e. (
    let p = err_from_is_err_and c.from_residual.result c.from_residual.ensures.1 in
    let lacks = c.in_err-call.ensures.memory (same_fault c.from_residual.result p.0 c.in_err-call.field-0.0 p.1 p.2 e) in
    read_stops _ _ _ c.split_line.result.0.now _ c.split_line.ensures.lines (sym c.if-is_wordless.ensures) lacks c.loop-rest.invariant.front)

pub returns-in_err-keep-clause-stopped : goal.returns-in_err-keep-clause-stopped
returns-in_err-keep-clause-stopped c = λ _. (
    let lacks = taken_in c.split_line.result.0.now (asked_call (boxed meaning_of) c.in_ok-call.call) c.loop-rest.number c.in_ok-call.ensures.read in
    read_stops _ _ _ c.split_line.result.0.now _ c.split_line.ensures.lines (sym c.if-is_wordless.ensures) lacks c.loop-rest.invariant.front)
