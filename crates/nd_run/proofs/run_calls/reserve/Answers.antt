use Rattle.std.proofs.Common.{◌≡◌, Option, None, Some, refl}
use Rattle.nd_array_core.specs.ArrayMeaning.{Meaning, meaning_of}
use Rattle.nd_steps.specs.declared.refusal_causes.Cause.{Cause}
use Rattle.nd_steps.specs.WriteResults.{unless_refused}
use Rattle.nd_read.specs.ScriptCalls.{Reserving}
use Rattle.nd_run.proofs.ReplyAndArrayOfOneCall.{carried}
use Rattle.nd_run.proofs.run_calls.reserve.Goals as goal

-- room made or not, the array means what it meant
same_either : {A : Type 0} (r : Option Cause) (m n : Meaning A) → n ≡ m → n ≡ unless_refused r m m
same_either None m n e = e
same_either (Some cause) m n e = e

pub returns : goal.returns
returns g c =
    let m = meaning_of c.args.array.now in
    let d = c.in_ok-refused.ensures.made in
    rw c.done_unless.ensures (carried g.A.PartialEq.eq (Reserving c.args.axis c.args.additional) m c.in_ok-refused.refused (meaning_of c.make_room.new.array) d.0 refl (same_either c.in_ok-refused.refused m (meaning_of c.make_room.new.array) d.1))
