use Rattle.std.proofs.Common.{refl}
use Rattle.nd_array_core.specs.ArrayMeaning.{meaning_of}
use Rattle.nd_read.specs.ScriptCalls.{acting, SplitWriting}
use Rattle.nd_run.proofs.ReplyAndArrayOfOneCall.{carried}
use Rattle.nd_run.proofs.writes_through_views.write_parts.Goals as goal

pub returns : goal.returns
returns g c =
    let d = c.in_ok-refused.ensures in
    let call = SplitWriting c.args.axis c.args.index (acting g.T.HoldsArray.held c.args.first.now) (acting g.T.HoldsArray.held c.args.second.now) in
    rw c.done_unless.ensures (carried g.A.PartialEq.eq call (meaning_of c.args.array.now) c.in_ok-refused.refused (meaning_of c.act_on_parts.new.array) d.0 refl d.1)
