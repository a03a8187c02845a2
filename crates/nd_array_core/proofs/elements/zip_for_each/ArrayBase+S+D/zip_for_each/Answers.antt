use Rattle.nd_array_core.proofs.NamesFromOtherCrates.{sym, subst}
use Rattle.nd_elements.specs.elements.PairMaps.{AskableOfPairs, VisitsPairs}
use Rattle.nd_array_core.specs.ArrayMeaning.{meaning_of}
use Rattle.nd_array_core.proofs.elements.zip_for_each.ArrayBase+S+D.zip_for_each.Goals as goal

pub show_alike-requires-clause-callable : goal.show_alike-requires-clause-callable
show_alike-requires-clause-callable g c = subst (λ at. AskableOfPairs g.F.FnMut (meaning_of c.args.self.now) at c.args.f) (sym c.broadcast_to_match.ensures.elements) c.requires.callable

pub returns : goal.returns
returns g c = record { visits = subst (λ at. VisitsPairs g.F.FnMut (meaning_of c.args.self.now) at c.args.f) c.broadcast_to_match.ensures.elements c.show_alike.ensures.visits }
