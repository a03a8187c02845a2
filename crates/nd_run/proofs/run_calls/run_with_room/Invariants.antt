use Rattle.std.proofs.Common.{◌≡◌, ◌≤◌, map, length, vec_len, vec_capacity}
use Rattle.nd_array_core.specs.ArrayMeaning.{meaning_of}
use Rattle.nd_read.specs.ScriptCalls.{asked_call}
use Rattle.nd_run.specs.CallReplies.{said_reply}
use Rattle.nd_run.proofs.RunCallByCall.{IsRunBelow}
use Rattle.nd_run.proofs.run_calls.run_with_room.Given as goal

abbrev pub invariant-loop-call : goal.invariant-loop-call
invariant-loop-call g l =
    (vec_len l.replies ≡ l.call-index)
    × (length l.calls ≤ vec_capacity l.replies)
    × IsRunBelow g.A.PartialEq.eq (map (asked_call g.T.HoldsArray.held) l.calls) (meaning_of l.fn.start) (map said_reply l.replies.items) (meaning_of l.array) l.call-index
