use Rattle.std.proofs.Common.{◌∙◌, ap, subst}
use Rattle.nd_array_core.specs.ArrayMeaning.{meaning_of}
use Rattle.nd_npy.specs.FileBytesAndArrays.{file_in, little_items}
use Rattle.nd_npy.specs.StreamReadsAndWrites.{WritesFile}
use Rattle.nd_npy.proofs.streams.write_npy.Goals as goal

pub returns-clause-written : goal.returns-clause-written
returns-clause-written g c =
    let items = c.little_items.ensures ∙ ap little_items c.kind.ensures in
    let order = c.lies_in_fortran_order-fortran_order in
    let written = subst (λ item_type. WritesFile g.W.Write.contents c.args.output.now c.write_npy_in.new.output (file_in g.A.NpyItem order.result item_type (meaning_of c.args.array.now)) c.write_npy_in.result) items c.write_npy_in.ensures.written in
    (order.result, order.ensures, written)
