use Rattle.nd_array_core.proofs.law_lemmas.LayoutLaws.{inverted_twice}
use Rattle.nd_array_core.proofs.laws.inverted_twice.Goals as goal

pub returns : goal.returns
returns g c = inverted_twice
