use Rattle.std.proofs.Common.{◌≡◌, true, false, map, ap, inl}
use Rattle.nd_array_core.specs.ArrayMeaning.{meaning_of}
use Rattle.nd_read.specs.ScriptCalls.{asked_call}
use Rattle.nd_run.specs.CallReplies.{said_reply}
use Rattle.nd_run.proofs.RunCallByCall.{stops_before, keeps_replies, some_calls}
use Rattle.nd_run.proofs.run_calls.run_held.Goals as goal

pub returns-in-Ok-clause-memory : goal.returns-in-Ok-clause-memory
returns-in-Ok-clause-memory g c = stops_before g.A.PartialEq.eq (map (asked_call g.T.HoldsArray.held) c.args.calls.now) (meaning_of c.args.start) c.run_with_room.result c.run_with_room.ensures.memory

pub returns-in-Ok-clause-kept : goal.returns-in-Ok-clause-kept
returns-in-Ok-clause-kept g c = keeps_replies g.A.PartialEq.eq (map (asked_call g.T.HoldsArray.held) c.args.calls.now) (meaning_of c.args.start) c.run_with_room.result c.run_with_room.ensures.memory

pub returns-in-Err-clause-memory : goal.returns-in-Err-clause-memory
returns-in-Err-clause-memory g c = inl (some_calls (asked_call g.T.HoldsArray.held) c.args.calls.now (λ e. (let clash : false ≡ true = (c.in-Err.ensures {u = tt}).succeeds e in absurd cc)), ap (map said_reply) c.new.ensures.items)
