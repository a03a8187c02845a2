use Rattle.std.proofs.Common.{rules, ◌≡◌, ◌∙◌, ◌<◌, false, true, length, ap, sym, subst, arith}
use Rattle.std.specs.Prelude.{Err}
use Rattle.nd_shape_and_slice.specs.ShapesAndIndexOrders.{HasCheckedSize}
use Rattle.nd_npy_text.specs.ItemTypes.{kind_size}
use Rattle.nd_npy_text.specs.HeaderDescription.{description_of}
use Rattle.nd_npy.specs.declared.errors.ReadNpyError.TheVariants.{WrongSize}
use Rattle.nd_npy.specs.FileBytesAndArrays.{data_size}
use Rattle.nd_npy.proofs.ArrayAfterHeader.{array_of_other_kind, array_of_wrong_size}
use Rattle.nd_npy.proofs.DataSizeAndErrorCauses.{checked_is, data_fits, product_is}
use Rattle.nd_npy.proofs.reader.count_in.Goals as goal

pub returns-then-not-accepts-clause-refused : goal.returns-then-not-accepts-clause-refused
returns-then-not-accepts-clause-refused g c =
    let other : g.A.NpyItem.accepts c.args.header.now.item_type.kind ≡ false = search rules in
    array_of_other_kind g.A.NpyItem (description_of c.args.header.now) c.args.bytes.now other

pub size_of-count-requires-clause-checked : goal.size_of-count-requires-clause-checked
size_of-count-requires-clause-checked g c =
    let some : 0 < kind_size c.args.header.now.item_type.kind = omega (arith, c.size-size.ensures.value, c.size-size.ensures.some) in
    subst HasCheckedSize (sym c.as_slice.ensures.value) (checked_is (kind_size c.args.header.now.item_type.kind) c.args.header.now.shape.items some c.requires.size_allowed)

pub overflow_mul-expected : goal.overflow_mul-expected
overflow_mul-expected g c =
    let low = data_fits (kind_size c.args.header.now.item_type.kind) c.args.header.now.shape.items c.requires.size_allowed in
    let product = product_is c.size_of-count.result c.size-size.result _ _ _ c.size_of-count.ensures c.as_slice.ensures.value c.size-size.ensures.value in
    record { fits = omega (arith, low, product) }

pub returns-then-bytes-expected-clause-refused : goal.returns-then-bytes-expected-clause-refused
returns-then-bytes-expected-clause-refused g c =
    let d = description_of c.args.header.now in
    let own : g.A.NpyItem.accepts c.args.header.now.item_type.kind ≡ true = search rules in
    let product = product_is c.size_of-count.result c.size-size.result _ _ _ c.size_of-count.ensures c.as_slice.ensures.value c.size-size.ensures.value in
    let differs : length c.args.bytes.now ≡ data_size d → ⊥ = λ same. c.if-bytes-expected.true (same ∙ sym product) in
    array_of_wrong_size g.A.NpyItem d c.args.bytes.now own differs ∙ ap (λ n. Err (WrongSize n (length c.args.bytes.now))) (sym product)
