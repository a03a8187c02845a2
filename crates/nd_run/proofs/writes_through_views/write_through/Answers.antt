use Rattle.std.proofs.Common.{map, refl}
use Rattle.nd_array_core.specs.ArrayMeaning.{meaning_of}
use Rattle.nd_read.specs.ScriptCalls.{asked_step, acting, Writing}
use Rattle.nd_run.proofs.ReplyAndArrayOfOneCall.{carried}
use Rattle.nd_run.proofs.writes_through_views.write_through.Goals as goal

pub returns : goal.returns
returns g c =
    let d = c.in_ok-refused.ensures in
    rw c.done_unless.ensures (carried g.A.PartialEq.eq (Writing (map asked_step c.args.path.now) (acting g.T.HoldsArray.held c.args.act.now)) (meaning_of c.args.array.now) c.in_ok-refused.refused (meaning_of c.act_along.new.array) d.0 refl d.1)
