use Rattle.nd_array_core.proofs.NamesFromOtherCrates.{sym, subst}
use Rattle.nd_elements.proofs.elements_lemmas.PairFolds.{pairs_settled}
use Rattle.nd_elements.specs.elements.PairFolds.{FoldablePairs, FoldsPairsInOrder}
use Rattle.nd_array_core.specs.ArrayMeaning.{meaning_of}
use Rattle.nd_array_core.specs.elements.BroadcastPairs.{other_at}
use Rattle.nd_array_core.proofs.elements.zip_fold.ArrayBase+S+D.zip_fold.Goals as goal

pub fold_alike-requires-clause-callable : goal.fold_alike-requires-clause-callable
fold_alike-requires-clause-callable g c = subst (λ at. FoldablePairs g.F.FnMut (meaning_of c.args.self.now) at c.args.f c.args.init) (sym c.broadcast_to_match.ensures.elements) c.requires.callable

pub returns-clause-visits : goal.returns-clause-visits
returns-clause-visits g c = subst (λ at. FoldsPairsInOrder g.F.FnMut (meaning_of c.args.self.now) at c.args.f c.args.init c.fold_alike.result) c.broadcast_to_match.ensures.elements c.fold_alike.ensures.visits

pub returns-clause-settled : goal.returns-clause-settled
returns-clause-settled g c h by =
    let array = c.args.self.now in
    pairs_settled g.F.FnMut (meaning_of array) (other_at array c.args.other.now) c.args.f c.args.init c.fold_alike.result (returns-clause-visits g c) h by
