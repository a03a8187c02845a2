use Rattle.std.proofs.Common.{◌≡◌, ◌++◌, take}
use Rattle.std.specs.List.{flat_map}
use Rattle.nd_npy_text.proofs.writer.put_all.Given as goal

-- the texts so far stand after the bytes
abbrev pub invariant-loop-text : goal.invariant-loop-text
invariant-loop-text l = l.bytes.items ≡ l.fn.bytes.items ++ flat_map (λ text. text.now) (take l.text-index l.texts)
