use Rattle.nd_npy.proofs.FilesReadBack.{read_back_in}
use Rattle.nd_npy.proofs.laws.arrays_read_back_in_order.Goals as goal

pub returns : goal.returns
returns g c = λ m item_type fortran_order whole fits accepts head.
    let laws = g.met.A.NpyItem in
    read_back_in g.A.NpyItem laws.sizes laws.whole laws.reads_back m item_type fortran_order whole fits accepts c.headers_read_back.ensures head
