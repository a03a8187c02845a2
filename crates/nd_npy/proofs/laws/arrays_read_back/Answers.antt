use Rattle.std.proofs.Common.{◌∙◌, false, ap}
use Rattle.nd_npy.specs.FileBytesAndArrays.{npy_in}
use Rattle.nd_npy.proofs.FilesReadBack.{read_back_in, file_is}
use Rattle.nd_npy.proofs.laws.arrays_read_back.Goals as goal

pub returns : goal.returns
returns g c = λ m item_type whole fits accepts head.
    let laws = g.met.A.NpyItem in
    ap (npy_in g.A.NpyItem) (file_is g.A.NpyItem item_type m)
    ∙ read_back_in g.A.NpyItem laws.sizes laws.whole laws.reads_back m item_type false whole fits accepts c.headers_read_back.ensures head
