use Rattle.nd_array_core.proofs.NamesFromOtherCrates.{rules, Some, codes, repeat}
use Rattle.nd_array_core.proofs.printing_lemmas.TextsInTurn.{styled_then}
use Rattle.nd_array_core.proofs.printing.separators.write_brackets.Goals as goal

pub returns-clause-styled : goal.returns-clause-styled
returns-clause-styled g c =
    styled_then g.W.Write.write_str_gives (Some (repeat c.args.axes (codes "["))) (λ _. Some (repeat c.args.axes (codes "]"))) c.args.f.now c.write_repeated.new.self c.write_repeated-2.new.self c.write_repeated.result c.write_repeated-2.result
    c.write_repeated.ensures.styled (search rules) c.write_repeated-2.ensures.styled
