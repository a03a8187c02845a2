use Rattle.std.proofs.Common.{sym, subst, inr}
use Rattle.std.specs.Prelude.{IsOk}
use Rattle.nd_npy.specs.FileBytesAndArrays.{npy_in}
use Rattle.nd_npy.proofs.ArrayAfterHeader.{npy_of_head, npy_of_cause}
use Rattle.nd_npy.proofs.reader.read_npy.Goals as goal

pub returns-in-Ok-clause-read : goal.returns-in-Ok-clause-read
returns-in-Ok-clause-read g c =
    let same = npy_of_head g.A.NpyItem c.args.bytes.now _ c.in-Ok.ensures.read in
    rw same c.array_after_head.ensures.read

pub returns-in-Ok-clause-memory : goal.returns-in-Ok-clause-memory
returns-in-Ok-clause-memory g c = λ is.
    let same = npy_of_head g.A.NpyItem c.args.bytes.now _ c.in-Ok.ensures.read in
    let whole : IsOk (npy_in g.A.NpyItem c.args.bytes.now) = subst IsOk (sym same) (c.array_after_head.ensures.memory is) in
    inr whole

pub returns-in-Err-clause-read : goal.returns-in-Err-clause-read
returns-in-Err-clause-read g c = npy_of_cause g.A.NpyItem c.args.bytes.now c.in-Err.error c.in-Err.ensures.read
