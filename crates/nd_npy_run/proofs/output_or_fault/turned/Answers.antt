use Rattle.std.proofs.Common.{Err, ap}
use Rattle.nd_npy_text.proofs.MemoryLackAfterHeader.{lengths_bytes}
use Rattle.nd_npy_run.proofs.output_or_fault.turned.Goals as goal

pub returns-in-Err-Memory : goal.returns-in-Err-Memory
returns-in-Err-Memory c = lengths_bytes _ (c.in-Err-Memory.ensures.memory (ap Err c.in-Err-Memory.field-0-is))
