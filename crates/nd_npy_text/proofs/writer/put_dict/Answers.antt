use Rattle.std.proofs.Common.{◌≡◌, ◌++◌, append_assoc, subst}
use Rattle.std.specs.Prelude.{OnOk, codes}
use Rattle.nd_npy_text.specs.HeaderDescription.{described}
use Rattle.nd_npy_text.specs.HeaderWriting.{dict_text}
use Rattle.nd_npy_text.proofs.writer.put_dict.Goals as goal

pub returns : goal.returns
returns c =
    let whole : c.put_shape.new.bytes.items ++ codes ", }" ≡ c.args.bytes.now.items ++ dict_text (described c.args.item_type c.args.fortran_order c.args.shape.now) =
    rw (c.in_ok-put_shape.ensures, c.in_ok-put_all.ensures, c.code.ensures, c.order_text.ensures, c.mark.ensures) (simp append_assoc) in
    subst (λ xs. OnOk c.put.result (c.put.new.bytes.items ≡ xs)) whole c.put.ensures
