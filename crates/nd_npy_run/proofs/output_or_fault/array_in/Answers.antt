use Rattle.std.proofs.Common.{refl}
use Rattle.nd_npy_run.proofs.FilesOfItemBytes.{items_read, items_wrong, some_items}
use Rattle.nd_npy_run.proofs.output_or_fault.array_in.Goals as goal

pub returns-in-Ok : goal.returns-in-Ok
returns-in-Ok g c = items_read _ _ _ _ _ c.in-Ok.ensures.read c.requires refl refl

pub returns-in-Err-WrongSize : goal.returns-in-Err-WrongSize
returns-in-Err-WrongSize g c = items_wrong _ _ _ _ _ _ _ c.in-Err-WrongSize.ensures.read c.in-Err-WrongSize.field-0-is c.requires refl

pub returns-in-Err : goal.returns-in-Err
returns-in-Err g c = some_items _ _ _ c.requires
