use Rattle.std.proofs.Common.{rules, ◌≡◌, ◌≤◌, ◌∙◌, length, ℕ, false, true, List, slice_get, ap, sym, subst, arith}
use Rattle.nd_shape_and_slice.specs.ShapesAndIndexOrders.{size_of, HasCheckedSize}
use Rattle.nd_elements.specs.ShapeAndElements.{inside}
use Rattle.nd_array_core.specs.ArrayMeaning.{meaning_of}
use Rattle.nd_npy_text.specs.ItemTypes.{kind_size}
use Rattle.nd_npy_text.specs.HeaderDescription.{description_of}
use Rattle.nd_npy.specs.FileBytesAndArrays.{item_number}
use Rattle.nd_npy.specs.StreamReadsAndWrites.{bytes_ahead}
use Rattle.nd_npy.proofs.DataSizeAndErrorCauses.{checked_is, data_fits, kind_some, product_is}
use Rattle.nd_npy.proofs.ArraysFromStreams.{array_ahead_is, cause_ahead_is, other_ahead_is}
use Rattle.nd_npy.proofs.streams.array_ahead.Goals as goal

pub returns-then-not-accepts-clause-read : goal.returns-then-not-accepts-clause-read
returns-then-not-accepts-clause-read g c =
    let other : g.A.NpyItem.accepts c.args.header.now.item_type.kind ≡ false = search rules in
    other_ahead_is g.A.NpyItem (description_of c.args.header.now) (bytes_ahead g.R.Read.remaining c.args.pending.now.items c.args.input.now) other

pub size_of-count-requires-clause-checked : goal.size_of-count-requires-clause-checked
size_of-count-requires-clause-checked g c =
    let header = c.args.header.now in
    subst HasCheckedSize (sym c.as_slice.ensures.value) (checked_is (kind_size header.item_type.kind) header.shape.items (kind_some header.item_type.kind) c.requires.whole.size_allowed)

pub values_ahead-requires-clause-fits : goal.values_ahead-requires-clause-fits
values_ahead-requires-clause-fits g c =
    let header = c.args.header.now in
    let low = data_fits (kind_size header.item_type.kind) header.shape.items c.requires.whole.size_allowed in
    let product = product_is c.size_of-count.result c.size.result _ _ _ c.size_of-count.ensures c.as_slice.ensures.value c.size.ensures.value in
    omega (arith, low, product)

pub laid_out-requires-clause-checked : goal.laid_out-requires-clause-checked
laid_out-requires-clause-checked g c =
    let header = c.args.header.now in
    subst HasCheckedSize (sym c.as_slice-in-Ok.ensures.value) (checked_is (kind_size header.item_type.kind) header.shape.items (kind_some header.item_type.kind) c.requires.whole.size_allowed)

pub laid_out-requires-clause-axes : goal.laid_out-requires-clause-axes
laid_out-requires-clause-axes g c = subst (λ ns. length ns ≤ 32) (sym c.as_slice-in-Ok.ensures.value) c.requires.whole.axes_allowed

pub laid_out-requires-clause-count : goal.laid_out-requires-clause-count
laid_out-requires-clause-count g c = c.in-Ok.ensures.count ∙ c.size_of-count.ensures ∙ ap size_of (c.as_slice.ensures.value ∙ sym c.as_slice-in-Ok.ensures.value)

pub returns-in-Ok-clause-read : goal.returns-in-Ok-clause-read
returns-in-Ok-clause-read g c =
    let header = c.args.header.now in
    let own : g.A.NpyItem.accepts header.item_type.kind ≡ true = search rules in
    let values = c.values_ahead.new.values.items in
    let counted = c.size_of-count.ensures ∙ ap size_of c.as_slice.ensures.value in
    let shape = c.laid_out.ensures.shape ∙ c.as_slice-in-Ok.ensures.value in
    let shows = λ (i : List ℕ). c.laid_out.ensures.elements i ∙ ap (λ ns. inside ns i (slice_get values (item_number header.fortran_order ns i))) c.as_slice-in-Ok.ensures.value in
    array_ahead_is g.A.NpyItem (description_of header) c.size.result c.size_of-count.result own c.size.ensures.value counted (bytes_ahead g.R.Read.remaining c.args.pending.now.items c.args.input.now) values (meaning_of c.laid_out.result) c.in-Ok.ensures.read shape shows

pub returns-in-Err-clause-read : goal.returns-in-Err-clause-read
returns-in-Err-clause-read g c =
    let header = c.args.header.now in
    let own : g.A.NpyItem.accepts header.item_type.kind ≡ true = search rules in
    let counted = c.size_of-count.ensures ∙ ap size_of c.as_slice.ensures.value in
    cause_ahead_is g.A.NpyItem (description_of header) c.size.result c.size_of-count.result own c.size.ensures.value counted (bytes_ahead g.R.Read.remaining c.args.pending.now.items c.args.input.now) c.in-Err.error c.in-Err.ensures.read
