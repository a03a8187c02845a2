use Rattle.nd_layout.proofs.NamesFromOtherCrates.{◌<◌, ap, subst, ◌∙◌}
use Rattle.nd_layout.proofs.walk_lemmas.RunsOfPlaces.{goes_on_place}
use Rattle.nd_layout.proofs.walk.places_in_turn.PlacesInTurn.next.Goals as goal

pub returns-clause-place : goal.returns-clause-place
returns-clause-place c =
    let turns = c.is_through.new.self in
    let here = goes_on_place _ _ turns.run.count turns.run.place turns.run.stride turns.begun c.args.given c.is_through.ensures.given (c.is_through.ensures.goes_on c.if-is_through.false) in
    let same = c.is_through.ensures.over in
    (subst (λ n. c.args.given < n) same.0 here.0, c.place_of.ensures ∙ (here.1 ∙ ap (λ f. f c.args.given) same.1))
