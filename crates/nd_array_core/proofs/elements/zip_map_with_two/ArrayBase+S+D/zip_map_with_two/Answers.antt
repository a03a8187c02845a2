use Rattle.nd_array_core.proofs.NamesFromOtherCrates.{◌∙◌, ap, refl, sym, subst, in_box, answers_alike}
use Rattle.nd_elements.proofs.elements_lemmas.PairMaps.{pair_none}
use Rattle.nd_elements.specs.elements.PairMaps.{pair_of}
use Rattle.nd_array_core.specs.ArrayMeaning.{meaning_of, shape_of, element_at}
use Rattle.nd_array_core.specs.elements.BroadcastPairs.{other_at}
use Rattle.nd_array_core.specs.elements.TripleMaps.{AnswersTriple, AskableOfTriples, HasAnswersOfTriples, tripled_with}
use Rattle.nd_array_core.proofs.elements_lemmas.ClosuresOnTriples.{triple_by, triple_mapped}
use Rattle.nd_array_core.proofs.elements.zip_map_with_two.ArrayBase+S+D.zip_map_with_two.Goals as goal

pub zip_three-requires-clause-callable : goal.zip_three-requires-clause-callable
zip_three-requires-clause-callable g c =
    let array = c.args.self.now in
    subst (λ at. AskableOfTriples g.F.FnMut (meaning_of array) at (element_at c.broadcast_to_match-third_seen.result) c.args.f) (sym c.broadcast_to_match-second_seen.ensures.elements)
    (subst (λ at. AskableOfTriples g.F.FnMut (meaning_of array) (other_at array c.args.second.now) at c.args.f) (sym c.broadcast_to_match-third_seen.ensures.elements) c.requires.callable)

pub returns-clause-visits : goal.returns-clause-visits
returns-clause-visits g c =
    let array = c.args.self.now in
    let made = element_at c.zip_three.result in
    subst (λ at. HasAnswersOfTriples g.F.FnMut (meaning_of array) at (other_at array c.args.third.now) c.args.f made) c.broadcast_to_match-second_seen.ensures.elements
    (subst (λ at. HasAnswersOfTriples g.F.FnMut (meaning_of array) (element_at c.broadcast_to_match-second_seen.result) at c.args.f made) c.broadcast_to_match-third_seen.ensures.elements c.zip_three.ensures.visits)

pub returns-clause-alike : goal.returns-clause-alike
unfolding meaning_of
returns-clause-alike g c h by i =
    let array = c.args.self.now in
    let second = other_at array c.args.second.now in
    let third = other_at array c.args.third.now in
    let triples = tripled_with (meaning_of array) second third in
    answers_alike (AnswersTriple g.F.FnMut) (shape_of array) triples.at (element_at c.zip_three.result) c.args.f (λ t. h t.0 t.1.0 t.1.1) (triple_by g.F.FnMut h c.args.f by)
    (λ j out. rw (ap (λ ns. in_box ns j) c.zip_three.ensures.shape ∙ out) refl) (λ j out. pair_none (pair_of (second j) (third j)) (rw out refl)) (returns-clause-visits g c) i
    ∙ triple_mapped h (element_at array i) (second i) (third i)
