use Rattle.std.proofs.Common.{refl}
use denote.MutBor.{at_last}
use Rattle.nd_elements.proofs.along.accumulate_axis.change_between.Goals as goal

pub returns : goal.returns
returns g c = (
  c.get.result.now,
  c.get_mut.result.now,
  c.f.new.arg3,
  c.get.ensures,
  c.get_mut.ensures.value,
  refl,
  refl,
  record { shown = c.get.result; shows = refl; given = c.get_mut.result; gives = refl; left = at_last c.get_mut.result c.f.new.arg3; called = c.f.ensures; leaves = refl },
)
