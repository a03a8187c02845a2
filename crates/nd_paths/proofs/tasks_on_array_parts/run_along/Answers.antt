use Rattle.std.proofs.Common.{◌≡◌, ◌∙◌, sym, ap, refl, subst}
use Rattle.nd_array_core.specs.ArrayMeaning.{meaning_of, placed_array}
use Rattle.nd_array_core.specs.ArrayInStorage.{found_at}
use Rattle.nd_paths.specs.CallbacksOnViewsAndSplits.{seen_along, meaning_placed, meaning_left}
use Rattle.nd_paths.proofs.ArrayAfterPartChanged.{stays, end_means, others_keep}
use Rattle.nd_paths.proofs.tasks_on_array_parts.run_along.Goals as goal

pub returns-in-Some-clause-done : goal.returns-in-Some-clause-done
returns-in-Some-clause-done g c =
    (sym c.follow-end.ensures.refused ∙ c.in-Some.is, stays (placed_array c.args.array) (placed_array c.follow-end.result.0) (ap g.S.Data.stored c.follow-end.ensures.storage))

pub run-answer-requires : goal.run-answer-requires
run-answer-requires g c =
    let p = g.P.ArrayPath.leads c.args.path in
    let v = placed_array c.args.array in
    let end = c.follow-end.result.0 in
    let e = placed_array end in
    let ends = c.follow-end.ensures.end c.in-None.is in
    let before : meaning_of end ≡ seen_along p (meaning_placed v) =
    end_means p v e ends.0 ends.1 (meaning_of end) v.stored refl (λ i. c.elements_have_places.ensures.elements i ∙ ap (λ s. found_at s (e.place i)) (ap g.S.Data.stored c.follow-end.ensures.storage)) in
    subst (λ m. g.K.ArrayTask.pre c.args.task m) (sym before) (c.requires (sym c.follow-end.ensures.refused ∙ c.in-None.is))

pub returns-in-None-clause-frame : goal.returns-in-None-clause-frame
returns-in-None-clause-frame g c = c.run-answer.ensures.frame.4 ∙ ap g.S.DataMut.frame c.follow-end.ensures.storage

pub returns-in-None-clause-done : goal.returns-in-None-clause-done
returns-in-None-clause-done g c =
    let p = g.P.ArrayPath.leads c.args.path in
    let v = placed_array c.args.array in
    let end = c.follow-end.result.0 in
    let after = c.run-answer.new.array in
    let e = placed_array end in
    let w = placed_array after in
    let frame = c.run-answer.ensures.frame in
    let ends = c.follow-end.ensures.end c.in-None.is in
    let stored : e.stored ≡ v.stored = ap g.S.Data.stored c.follow-end.ensures.storage in
    let before : meaning_of end ≡ seen_along p (meaning_placed v) = end_means p v e ends.0 ends.1 (meaning_of end) v.stored refl (λ i. c.elements_have_places.ensures.elements i ∙ ap (λ s. found_at s (e.place i)) stored) in
    let left : meaning_of after ≡ seen_along p (meaning_left v w) = end_means p v e ends.0 ends.1 (meaning_of after) w.stored frame.0 (λ i. c.elements_have_places-in-None.ensures.elements i ∙ ap (found_at w.stored) (frame.2 i)) in
    (sym c.follow-end.ensures.refused ∙ c.in-None.is, subst (λ m. g.K.ArrayTask.post c.args.task (seen_along p (meaning_placed v)) m c.run-answer.result) left (subst (λ m. g.K.ArrayTask.post c.args.task m (meaning_of after) c.run-answer.result) before c.run-answer.ensures.done), others_keep p v e ends.0 ends.1 w.stored c.elements_have_places.ensures.places c.distinct_places.ensures (λ q none. frame.3 q none ∙ ap (λ s. s q) stored))
