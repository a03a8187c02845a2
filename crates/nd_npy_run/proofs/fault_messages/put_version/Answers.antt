use Rattle.std.specs.Prelude.{codes}
use Rattle.nd_npy_run.proofs.TextsAroundNumbers.{counted_then}
use Rattle.nd_npy_run.proofs.fault_messages.put_version.Goals as goal

pub returns : goal.returns
returns g c = rw (← c.from.ensures, ← c.from-2.ensures) (counted_then (codes "the version ") _ _ c.put_counted.ensures c.put_counted-2.ensures)
