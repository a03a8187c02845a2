use Rattle.std.proofs.Common.{◌∙◌, Some, refl, sym, ap}
use Rattle.nd_npy_run.proofs.FilesOfItemBytes.{raw_file}
use Rattle.nd_npy_run.proofs.wanted_outputs.file_bytes.Goals as goal

pub returns-in-Ok : goal.returns-in-Ok
returns-in-Ok g c = ap Some (sym (c.in-Ok.ensures.written ∙ raw_file _ _ _ refl))
