use Rattle.std.specs.Prelude.{codes}
use Rattle.nd_npy_run.proofs.TextsAroundNumbers.{counted_then}
use Rattle.nd_npy_run.proofs.fault_messages.put_bad_byte.Goals as goal

pub returns : goal.returns
returns g c = rw (← c.text.ensures, ← c.as_bytes.ensures.value) (counted_then (codes "byte ") _ _ c.put_counted.ensures c.put.ensures)
