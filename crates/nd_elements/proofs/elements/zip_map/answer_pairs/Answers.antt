use Rattle.nd_elements.proofs.NamesFromOtherCrates.{ap, arith, sym, subst, along, ranked}
use Rattle.nd_elements.specs.ElementsAtNumberedPlaces.{Holds}
use Rattle.nd_elements.specs.elements.ElementMaps.{AnswersAfter}
use Rattle.nd_elements.specs.elements.PairMaps.{AnswersPair, MayShowPairs, PushesPairs, pairs_at}
use Rattle.nd_elements.proofs.elements.zip_map.answer_pairs.Goals as goal

pub answer_pairs_lane-now-requires-clause-holds : goal.answer_pairs_lane-now-requires-clause-holds
answer_pairs_lane-now-requires-clause-holds g c = subst (λ at. Holds g.S.Data.stored at c.args.storage.now) (sym c.in-Some.ensures.0) c.requires.holds

pub answer_pairs_lane-now-requires-clause-others_hold : goal.answer_pairs_lane-now-requires-clause-others_hold
answer_pairs_lane-now-requires-clause-others_hold g c = subst (λ at. Holds g.Z.Data.stored at c.args.others.now) (sym c.in-Some.ensures.1) c.requires.others_hold

pub answer_pairs_lane-now-requires-clause-room : goal.answer_pairs_lane-now-requires-clause-room
answer_pairs_lane-now-requires-clause-room g c = let count = ap (λ at. at.count) c.in-Some.ensures.0 in let room = c.requires.room in let none = c.requires.empty.1 in omega (arith, count, room, none)

pub answer_pairs_lane-now-requires-clause-callable : goal.answer_pairs_lane-now-requires-clause-callable
answer_pairs_lane-now-requires-clause-callable g c =
    subst (λ at. MayShowPairs g.F.FnMut g.S.Data.stored g.Z.Data.stored at (along c.in-Some.aside) c.args.storage.now c.args.others.now c.args.f) (sym c.in-Some.ensures.0)
    (subst (λ theirs. MayShowPairs g.F.FnMut g.S.Data.stored g.Z.Data.stored (ranked c.args.places) theirs c.args.storage.now c.args.others.now c.args.f) (sym c.in-Some.ensures.1) c.requires.callable)

pub returns-in-Some-clause-answers : goal.returns-in-Some-clause-answers
returns-in-Some-clause-answers g c =
    let new = c.answer_pairs_lane-now.new.items in
    let last = c.answer_pairs_lane-now.result in
    subst (λ xs. AnswersAfter (AnswersPair g.F.FnMut) (pairs_at g.S.Data.stored (ranked c.args.places) c.args.storage.now g.Z.Data.stored (ranked c.args.other_places) c.args.others.now) (ranked c.args.places).count xs new.items c.args.f last) c.requires.empty.0
    (subst (λ at. PushesPairs g.F.FnMut g.S.Data.stored g.Z.Data.stored at (ranked c.args.other_places) c.args.storage.now c.args.others.now c.args.f c.args.room new last) c.in-Some.ensures.0
    (subst (λ theirs. PushesPairs g.F.FnMut g.S.Data.stored g.Z.Data.stored (along c.in-Some.lane) theirs c.args.storage.now c.args.others.now c.args.f c.args.room new last) c.in-Some.ensures.1 c.answer_pairs_lane-now.ensures.pushed))

pub returns-in-Some-clause-count : goal.returns-in-Some-clause-count
returns-in-Some-clause-count g c = let count = ap (λ at. at.count) c.in-Some.ensures.0 in let long = c.answer_pairs_lane-now.ensures.len in let none = c.requires.empty.1 in omega (arith, count, long, none)
