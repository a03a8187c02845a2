use Rattle.std.specs.Prelude.{codes}
use Rattle.nd_npy_run.proofs.TextsAroundNumbers.{counted_then}
use Rattle.nd_npy_run.proofs.fault_messages.put_size.Goals as goal

pub returns : goal.returns
returns g c = counted_then (codes "the elements take ") _ _ c.put_counted.ensures c.put_counted-2.ensures
