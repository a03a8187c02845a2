use Rattle.std.proofs.Common.{◌≡◌, rules}
use Rattle.nd_npy_text.specs.HeaderDescription.{described}
use Rattle.nd_npy_text.specs.HeaderWriting.{dict_text}
use Rattle.nd_npy_text.proofs.HeaderTextLength.{text_short}
use Rattle.nd_npy_text.proofs.writer.padded_text.Goals as goal

pub pad-requires : goal.pad-requires
pad-requires c =
    let a = c.args in
    let text : c.put_dict.new.bytes.items ≡ dict_text (described a.item_type a.fortran_order a.shape.now) = search rules in
    rw (text, c.growth_room.ensures) (text_short a.item_type a.fortran_order a.shape.now c.requires (λ k. search (rules, c.type_inv.shape)))
