use Rattle.std.proofs.Common.{◌≡◌, ◌++◌, List, ℕ, ◌+◌, ◌-◌, ◌%◌, length, take, subst, refl, rules}
use Rattle.std.specs.Prelude.{OnOk}
use Rattle.nd_npy_text.specs.HeaderWriting.{spaces}
use Rattle.nd_npy_text.proofs.HeaderTextLength.{padded_is}
use Rattle.nd_npy_text.proofs.writer.pad.Goals as goal

pub returns-clause-text : goal.returns-clause-text
returns-clause-text c =
    let text : List ℕ = c.args.text.now.items in
    let size : ℕ = length text + c.args.room in
    let end : ℕ = size + 64 - (11 + size) % 64 in
    let more : c.resize.new.self.items ≡ take end text ++ spaces (end - length text) = search rules in
    subst (λ xs. OnOk c.put.result (c.put.new.bytes.items ≡ xs)) (padded_is text c.resize.new.self.items c.args.room end refl more) c.put.ensures
