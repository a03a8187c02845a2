use Rattle.nd_array_core.specs.ArrayMeaning.{meaning_of}
use Rattle.std.proofs.Common.{◌≡◌}
use Rattle.nd_steps.proofs.StepEquations.{same_meaning}
use Rattle.nd_run.proofs.run_calls.act.Goals as goal

pub returns-in-Keep : goal.returns-in-Keep
returns-in-Keep g c = rw c.in-Keep.is c.keep.ensures

pub returns-in-Ask : goal.returns-in-Ask
returns-in-Ask g c = rw (c.in-Ask.is, ← c.as_slice.ensures.value) c.ask.ensures

pub returns-in-Write : goal.returns-in-Write
returns-in-Write g c = rw (c.in-Write.is, ← c.as_slice-in-Write.ensures.value) c.write_through.ensures

pub returns-in-SplitWrite : goal.returns-in-SplitWrite
returns-in-SplitWrite g c = rw c.in-SplitWrite.is c.write_parts.ensures

pub returns-in-Append : goal.returns-in-Append
returns-in-Append g c =
    let m = meaning_of c.array.result.now in
    let seen : meaning_of c.view.result ≡ m = same_meaning m (meaning_of c.view.result) c.view.ensures.whole.0 c.view.ensures.whole.2 in
    rw (c.in-Append.is, ← c.array.ensures, ← seen) c.append.ensures

pub returns-in-Push : goal.returns-in-Push
returns-in-Push g c = rw (c.in-Push.is, ← c.array-in-Push.ensures) c.push.ensures

pub returns-in-Concatenate : goal.returns-in-Concatenate
returns-in-Concatenate g c = rw (c.in-Concatenate.is, ← c.as_slice-in-Concatenate.ensures.value) c.concatenate.ensures

pub returns-in-Stack : goal.returns-in-Stack
returns-in-Stack g c = rw (c.in-Stack.is, ← c.as_slice-in-Stack.ensures.value) c.stack.ensures
