use Rattle.std.proofs.Common.{sym, subst}
use Rattle.nd_array_core.specs.ArrayMeaning.{meaning_of}
use Rattle.nd_npy.specs.FileBytesAndArrays.{ReadsNpyAs}
use Rattle.nd_npy.proofs.ArrayAfterHeader.{npy_of_head, npy_of_cause}
use Rattle.nd_npy.proofs.reader.view_npy.Goals as goal

pub returns-in-Ok-clause-read : goal.returns-in-Ok-clause-read
returns-in-Ok-clause-read g c =
    let same = npy_of_head _ c.args.bytes.now _ c.in-Ok.ensures.read in
    subst (ReadsNpyAs meaning_of c.view_after_head.result) (sym same) c.view_after_head.ensures.read

pub returns-in-Err-clause-read : goal.returns-in-Err-clause-read
returns-in-Err-clause-read g c = npy_of_cause _ c.args.bytes.now c.in-Err.error c.in-Err.ensures.read
