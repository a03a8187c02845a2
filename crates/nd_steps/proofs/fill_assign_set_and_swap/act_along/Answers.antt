use Rattle.std.proofs.Common.{map}
use Rattle.nd_array_core.specs.ArrayMeaning.{meaning_of}
use Rattle.nd_read.specs.ScriptCalls.{asked_step, acting}
use Rattle.nd_steps.proofs.WriteLaws.{writes}
use Rattle.nd_steps.proofs.fill_assign_set_and_swap.act_along.Goals as goal

pub returns : goal.returns
returns g c =
    rw c.as_one.ensures
    (writes (map asked_step c.args.path.now) (acting g.T.HoldsArray.held c.args.act.now) (meaning_of c.args.array.now) (meaning_of c.with_path_mut.new.array) c.with_path_mut.ensures.frame.0 c.with_path_mut.result c.with_path_mut.ensures.done)
