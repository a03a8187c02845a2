use Rattle.std.proofs.Common.{◌≡◌, ◌∙◌, ◌*◌, ℕ, List, slice_get, refl, ap, sym, subst, eqb-true}
use Rattle.nd_shape_and_slice.specs.ShapesAndIndexOrders.{HasCheckedSize}
use Rattle.nd_elements.specs.ShapeAndElements.{inside}
use Rattle.nd_array_core.specs.ArrayMeaning.{meaning_of}
use Rattle.nd_npy_text.specs.ItemTypes.{kind_size}
use Rattle.nd_npy_text.specs.HeaderDescription.{description_of}
use Rattle.nd_npy.specs.FileBytesAndArrays.{item_number}
use Rattle.nd_npy.proofs.ArrayAfterHeader.{raw_array_is}
use Rattle.nd_npy.proofs.DataSizeAndErrorCauses.{checked_is, kind_some}
use Rattle.nd_npy.proofs.reader.view_after_head.Goals as goal

pub viewed-requires-clause-checked : goal.viewed-requires-clause-checked
viewed-requires-clause-checked g c =
    let header = c.args.header.now in
    subst HasCheckedSize (sym c.as_slice.ensures.value) (checked_is (kind_size header.item_type.kind) header.shape.items (kind_some header.item_type.kind) c.requires.size_allowed)

pub returns-in-Ok-clause-read : goal.returns-in-Ok-clause-read
returns-in-Ok-clause-read g c =
    let header = c.args.header.now in
    let bytes = c.args.bytes.now in
    let own = c.in-Ok.ensures in
    let values = c.chunks_of-items.result.now in
    let size = own.bytes ∙ ap (λ n. n * kind_size header.item_type.kind) own.count in
    let sized : g.row.N ≡ kind_size header.item_type.kind = sym (eqb-true _ _ own.accepted) in
    let shows = λ (i : List ℕ). c.viewed.ensures.elements i ∙ ap (λ ns. inside ns i (slice_get values (item_number header.fortran_order ns i))) c.as_slice.ensures.value in
    let shape = c.viewed.ensures.shape ∙ c.as_slice.ensures.value in
    raw_array_is _ (description_of header) bytes refl own.accepted size (meaning_of c.viewed.result) values g.row.N c.in-Ok.count shape sized own.count c.chunks_of-items.ensures.items shows
