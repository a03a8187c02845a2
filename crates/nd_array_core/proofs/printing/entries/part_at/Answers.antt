use Rattle.nd_array_core.specs.ArrayMeaning.{meaning_of}
use Rattle.nd_array_core.specs.printing.ArrayTexts.{first_at}
use Rattle.nd_array_core.proofs.printing_lemmas.TextsInTurn.{same_meaning}
use Rattle.nd_array_core.proofs.printing.entries.part_at.Goals as goal

pub returns-clause-meaning : goal.returns-clause-meaning
returns-clause-meaning g c =
    let part = c.index_axis.ensures.part in
    same_meaning (meaning_of c.index_axis.result) (first_at (meaning_of c.args.view.now) c.args.k) part.0 part.2
