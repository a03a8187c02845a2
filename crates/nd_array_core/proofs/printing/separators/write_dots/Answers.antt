use Rattle.nd_array_core.proofs.NamesFromOtherCrates.{rules, Some, codes}
use Rattle.nd_array_core.specs.printing.ArrayTexts.{separator_text}
use Rattle.nd_array_core.proofs.printing_lemmas.TextsInTurn.{styled_then}
use Rattle.nd_array_core.proofs.printing.separators.write_dots.Goals as goal

pub returns-clause-styled : goal.returns-clause-styled
returns-clause-styled g c =
    styled_then g.W.Write.write_str_gives (Some (separator_text c.args.around c.args.inner)) (λ _. Some (codes "...")) c.args.f.now c.write_separator.new.f c.write_str.new.self c.write_separator.result c.write_str.result
    c.write_separator.ensures.styled (search rules) c.write_str.ensures.styled
