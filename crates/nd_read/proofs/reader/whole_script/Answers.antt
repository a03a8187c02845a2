use Rattle.std.proofs.Common.{sym, map, arith}
use Rattle.std.proofs.lemmas.Result.{err_from_is_err_and}
use Rattle.nd_array_core.specs.ArrayMeaning.{meaning_of}
use Rattle.nd_read.specs.ScriptCalls.{asked_call, boxed}
use Rattle.nd_text.specs.LinesAndWords.{lines_of}
use Rattle.nd_read.specs.ScriptReading.{script_from}
use Rattle.nd_read.proofs.ScriptReadingLoop.{lines_none, script_skip, script_none, script_bad, script_bad_call, script_read, skip_more, same_fault, start_stops, calls_stop_in}
use Rattle.nd_read.proofs.reader.whole_script.Goals as goal

pub returns-in_err-start-clause-read : goal.returns-in_err-start-clause-read
returns-in_err-start-clause-read c =
    let p = err_from_is_err_and c.from_residual.result c.from_residual.ensures.1 in
    rw (p.1, p.2) (script_bad c.in_err-start.field-0.0 c.loop-rest.number c.split_line.result.0.now (lines_of c.loop-rest.rest.now) (lines_of c.split_line.result.1.now) (script_from 1 (lines_of c.args.text.now)) c.split_line.ensures.lines (sym c.if-not-is_wordless.ensures) c.in_err-start.ensures.read c.loop-rest.invariant.reads)

pub returns-in_err-calls-clause-read : goal.returns-in_err-calls-clause-read
returns-in_err-calls-clause-read c =
    let p = err_from_is_err_and c.from_residual-in_err-calls.result c.from_residual-in_err-calls.ensures.1 in
    rw (p.1, p.2) (script_bad_call c.in_err-calls.field-0.0 c.loop-rest.number c.split_line.result.0.now (lines_of c.loop-rest.rest.now) (lines_of c.split_line.result.1.now) (meaning_of c.in_ok-start.start) (script_from 1 (lines_of c.args.text.now)) c.split_line.ensures.lines (sym c.if-not-is_wordless.ensures) c.in_ok-start.ensures.read c.in_err-calls.ensures.read c.loop-rest.invariant.reads)

pub returns-then-not-is_wordless-clause-read : goal.returns-then-not-is_wordless-clause-read
returns-then-not-is_wordless-clause-read c = script_read c.loop-rest.number c.split_line.result.0.now (lines_of c.loop-rest.rest.now) (lines_of c.split_line.result.1.now) (meaning_of c.in_ok-start.start) (map (asked_call (boxed meaning_of)) c.in_ok-calls.calls.items) (script_from 1 (lines_of c.args.text.now)) c.split_line.ensures.lines (sym c.if-not-is_wordless.ensures) c.in_ok-start.ensures.read c.in_ok-calls.ensures.read c.loop-rest.invariant.reads

pub loop-rest-preserved : goal.loop-rest-preserved
loop-rest-preserved c = record {
  reads = script_skip c.loop-rest.number c.split_line.result.0.now (lines_of c.loop-rest.rest.now) (lines_of c.split_line.result.1.now) (script_from 1 (lines_of c.args.text.now)) c.split_line.ensures.lines (sym c.if-not-is_wordless.ensures) c.loop-rest.invariant.reads;
  few = omega arith;
  front = skip_more _ _ _ c.split_line.result.0.now c.split_line.ensures.lines (sym c.if-not-is_wordless.ensures) c.loop-rest.invariant.front;
  lacked = c.loop-rest.invariant.lacked;
}

pub returns-clause-read : goal.returns-clause-read
returns-clause-read c = script_none c.loop-rest.number (lines_of c.loop-rest.rest.now) (script_from 1 (lines_of c.args.text.now)) (lines_none c.loop-rest.rest.now c.loop-rest-test.ensures) c.loop-rest.invariant.reads

pub returns-in_err-start-clause-stopped : goal.returns-in_err-start-clause-stopped
returns-in_err-start-clause-stopped c = λ e. (
    let p = err_from_is_err_and c.from_residual.result c.from_residual.ensures.1 in
    let lacks = c.in_err-start.ensures.memory (same_fault c.from_residual.result p.0 c.in_err-start.field-0.0 p.1 p.2 e) in
    start_stops _ _ _ c.split_line.result.0.now c.split_line.ensures.lines (sym c.if-not-is_wordless.ensures) lacks c.loop-rest.invariant.front)

pub returns-in_err-calls-clause-stopped : goal.returns-in_err-calls-clause-stopped
returns-in_err-calls-clause-stopped c = λ e. (
    let p = err_from_is_err_and c.from_residual-in_err-calls.result c.from_residual-in_err-calls.ensures.1 in
    let lacks = c.in_err-calls.ensures.stopped (same_fault c.from_residual-in_err-calls.result p.0 c.in_err-calls.field-0.0 p.1 p.2 e) in
    calls_stop_in _ _ _ c.split_line.result.0.now (meaning_of c.in_ok-start.start) c.loop-rest.number c.split_line.ensures.lines (sym c.if-not-is_wordless.ensures) c.in_ok-start.ensures.read c.loop-rest.invariant.front lacks)
