use Rattle.std.proofs.Common.{◌≡◌, ◌∙◌, ◌<◌, ◌≤◌, ◌++◌, ◌∷◌, [], sym, ap, arith, map, length, get_or}
use Rattle.std.proofs.lemmas.List.{length-map, get_or-map, map-append}
use Rattle.nd_array_core.specs.ArrayMeaning.{Meaning, meaning_of}
use Rattle.nd_read.specs.ScriptCalls.{asked_call}
use Rattle.nd_run.specs.CallReplies.{Said, said_reply}
use Rattle.nd_run.proofs.RunCallByCall.{run_all, run_more, run_stops}
use Rattle.nd_run.proofs.run_calls.run_with_room.Goals as goal

pub returns-clause-replies : goal.returns-clause-replies
returns-clause-replies g c =
    let calls = map (asked_call g.T.HoldsArray.held) c.args.calls.now in
    let ended : length calls ≤ c.loop-call.call-index = omega (arith, length-map c.args.calls.now (asked_call g.T.HoldsArray.held)) in
    (run_all g.A.PartialEq.eq calls (meaning_of c.args.start) (meaning_of c.loop-call.array) (map said_reply c.loop-call.replies.items) c.loop-call.call-index ended c.loop-call.invariant.2).0

pub returns-clause-array : goal.returns-clause-array
returns-clause-array g c =
    let calls = map (asked_call g.T.HoldsArray.held) c.args.calls.now in
    let ended : length calls ≤ c.loop-call.call-index = omega (arith, length-map c.args.calls.now (asked_call g.T.HoldsArray.held)) in
    (run_all g.A.PartialEq.eq calls (meaning_of c.args.start) (meaning_of c.loop-call.array) (map said_reply c.loop-call.replies.items) c.loop-call.call-index ended c.loop-call.invariant.2).1

pub returns-in-Err-clause-memory : goal.returns-in-Err-clause-memory
returns-in-Err-clause-memory g c =
    let held = g.T.HoldsArray.held in
    let calls = c.args.calls.now in
    let k = c.loop-call.call-index in
    let call = c.call-item.result in
    let within : k < length calls = omega arith in
    let mapped : k < length (map (asked_call held) calls) = omega (arith, length-map calls (asked_call held)) in
    let at : get_or (map (asked_call held) calls) k (asked_call held call) ≡ asked_call held call = get_or-map (asked_call held) calls k call (asked_call held call) within ∙ ap (asked_call held) (sym c.call-item.is) in
    run_stops g.A.PartialEq.eq (map (asked_call held) calls) (meaning_of c.args.start) (meaning_of c.loop-call.array) (map said_reply c.loop-call.replies.items) k (asked_call held call) mapped at c.in-Err.ensures c.loop-call.invariant.2

pub loop-call-preserved : goal.loop-call-preserved
loop-call-preserved g c =
    let held = g.T.HoldsArray.held in
    let calls = c.args.calls.now in
    let k = c.loop-call.call-index in
    let call = c.call-item.result in
    let within : k < length calls = omega arith in
    let mapped : k < length (map (asked_call held) calls) = omega (arith, length-map calls (asked_call held)) in
    let at : get_or (map (asked_call held) calls) k (asked_call held call) ≡ asked_call held call = get_or-map (asked_call held) calls k call (asked_call held call) within ∙ ap (asked_call held) (sym c.call-item.is) in
    let items : map said_reply c.push_reserved.new.self.items ≡ map said_reply c.loop-call.replies.items ++ said_reply c.in-Ok.reply ∷ [] = ap (map said_reply) c.push_reserved.ensures.items ∙ map-append said_reply c.loop-call.replies.items (c.in-Ok.reply ∷ []) in (
      omega (arith, c.push_reserved.ensures.len),
      omega (arith, c.push_reserved.ensures.capacity),
      rw items (run_more g.A.PartialEq.eq (map (asked_call held) calls) (meaning_of c.args.start) (meaning_of c.loop-call.array) (meaning_of c.act.new.array) (map said_reply c.loop-call.replies.items) k (asked_call held call) (said_reply c.in-Ok.reply) mapped at (ap (λ (x : Said _ × Meaning _). x.0) c.in-Ok.ensures) (ap (λ (x : Said _ × Meaning _). x.1) c.in-Ok.ensures) c.loop-call.invariant.2),
    )
