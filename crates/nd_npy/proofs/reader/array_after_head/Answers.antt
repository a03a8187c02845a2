use Rattle.std.proofs.Common.{◌∙◌, ◌*◌, ◌<◌, ℕ, List, slice_get, is_ok, Ok, ap, sym, subst, arith}
use Rattle.nd_shape_and_slice.specs.ShapesAndIndexOrders.{HasCheckedSize}
use Rattle.nd_elements.specs.ShapeAndElements.{inside}
use Rattle.nd_array_core.specs.ArrayMeaning.{meaning_of}
use Rattle.nd_npy_text.specs.ItemTypes.{kind_size}
use Rattle.nd_npy_text.specs.HeaderDescription.{description_of}
use Rattle.nd_npy.specs.FileBytesAndArrays.{item_number}
use Rattle.nd_npy.proofs.ArrayAfterHeader.{array_is, array_of_whole_bytes}
use Rattle.nd_npy.proofs.DataSizeAndErrorCauses.{checked_is}
use Rattle.nd_npy.proofs.reader.array_after_head.Goals as goal

pub laid_out-requires-clause-checked : goal.laid_out-requires-clause-checked
laid_out-requires-clause-checked g c =
    let some : 0 < kind_size c.args.header.now.item_type.kind = omega (arith, c.size.ensures.value, c.size.ensures.some) in
    subst HasCheckedSize (sym c.as_slice.ensures.value) (checked_is (kind_size c.args.header.now.item_type.kind) c.args.header.now.shape.items some c.requires.size_allowed)

pub returns-in-Ok-values_of-clause-read : goal.returns-in-Ok-values_of-clause-read
returns-in-Ok-values_of-clause-read g c =
    let item = g.A.NpyItem in
    let header = c.args.header.now in
    let bytes = c.args.bytes.now in
    let own = c.in-Ok.ensures in
    let values = c.in-Ok-values_of.values.items in
    let size = own.bytes ∙ ap (λ n. n * kind_size header.item_type.kind) own.count in
    let whole = array_of_whole_bytes item (description_of header) bytes own.accepted size in
    let shows = λ (i : List ℕ). c.laid_out.ensures.elements i ∙ ap (λ ns. inside ns i (slice_get values (item_number header.fortran_order ns i))) c.as_slice.ensures.value in
    let shape = c.laid_out.ensures.shape ∙ c.as_slice.ensures.value in
    whole ∙ ap Ok (sym (array_is item (description_of header) bytes (meaning_of c.laid_out.result) values c.size.result c.in-Ok.count shape c.size.ensures.value own.count c.in-Ok-values_of.ensures.values shows))

pub returns-in-Err-values_of-clause-memory : goal.returns-in-Err-values_of-clause-memory
returns-in-Err-values_of-clause-memory g c = λ is.
    let header = c.args.header.now in
    let own = c.in-Ok.ensures in
    let size = own.bytes ∙ ap (λ n. n * kind_size header.item_type.kind) own.count in
    ap is_ok (array_of_whole_bytes g.A.NpyItem (description_of header) c.args.bytes.now own.accepted size)
