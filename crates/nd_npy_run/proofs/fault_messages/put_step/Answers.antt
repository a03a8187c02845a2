use Rattle.std.specs.Prelude.{codes}
use Rattle.nd_npy_run.proofs.TextsAroundNumbers.{counted_then}
use Rattle.nd_npy_run.proofs.fault_messages.put_step.Goals as goal

pub returns : goal.returns
returns g c = rw (← c.word_needs.ensures, ← c.as_bytes.ensures.value) (counted_then (codes "step ") _ _ c.put_counted.ensures c.put_between.ensures)
