use Rattle.nd_array_core.proofs.NamesFromOtherCrates.{◌∙◌, ap, refl, sym, subst, in_box, answers_alike}
use Rattle.nd_elements.proofs.elements_lemmas.PairMaps.{pair_by, pair_mapped, pair_none}
use Rattle.nd_elements.specs.elements.PairMaps.{AnswersPair, AskableOfPairs, HasAnswersOfPairs}
use Rattle.nd_array_core.specs.ArrayMeaning.{meaning_of, shape_of, element_at}
use Rattle.nd_array_core.specs.elements.BroadcastPairs.{other_at}
use Rattle.nd_array_core.specs.elements.PairMapsAndFolds.{paired_with}
use Rattle.nd_array_core.proofs.elements.zip_map.ArrayBase+S+D.zip_map.Goals as goal

pub zip_alike-requires-clause-callable : goal.zip_alike-requires-clause-callable
zip_alike-requires-clause-callable g c = subst (λ at. AskableOfPairs g.F.FnMut (meaning_of c.args.self.now) at c.args.f) (sym c.broadcast_to_match.ensures.elements) c.requires.callable

pub returns-clause-visits : goal.returns-clause-visits
returns-clause-visits g c = subst (λ at. HasAnswersOfPairs g.F.FnMut (meaning_of c.args.self.now) at c.args.f (element_at c.zip_alike.result)) c.broadcast_to_match.ensures.elements c.zip_alike.ensures.visits

pub returns-clause-alike : goal.returns-clause-alike
unfolding meaning_of
returns-clause-alike g c h by i =
    let array = c.args.self.now in
    let pairs = paired_with (meaning_of array) (other_at array c.args.other.now) in
    answers_alike (AnswersPair g.F.FnMut) (shape_of array) pairs.at (element_at c.zip_alike.result) c.args.f (λ p. h p.0 p.1) (pair_by g.F.FnMut h c.args.f by)
    (λ j out. rw (ap (λ ns. in_box ns j) c.zip_alike.ensures.shape ∙ out) refl) (λ j out. pair_none (other_at array c.args.other.now j) (rw out refl)) (returns-clause-visits g c) i
    ∙ pair_mapped h (element_at array i) (other_at array c.args.other.now i)
