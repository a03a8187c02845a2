use Rattle.nd_array_core.proofs.NamesFromOtherCrates.{rules, Some, codes, ◌++◌, repeat}
use Rattle.nd_array_core.proofs.printing_lemmas.TextsInTurn.{styled_then}
use Rattle.nd_array_core.proofs.printing.separators.write_breaks.Goals as goal

pub returns-clause-styled : goal.returns-clause-styled
returns-clause-styled g c =
    let took = g.W.Write.write_str_gives in
    let lines = repeat c.args.inner (codes "\n") in
    let spaces = repeat c.args.around (codes " ") in
    styled_then took (Some (codes ",")) (λ _. Some (lines ++ spaces)) c.args.f.now c.write_str.new.self c.write_repeated-2.new.self c.write_str.result c.write_repeated-2.result
    c.write_str.ensures.styled (search rules)
    (styled_then took (Some lines) (λ _. Some spaces) c.write_str.new.self c.write_repeated.new.self c.write_repeated-2.new.self c.write_repeated.result c.write_repeated-2.result
    c.write_repeated.ensures.styled (search rules) c.write_repeated-2.ensures.styled)
