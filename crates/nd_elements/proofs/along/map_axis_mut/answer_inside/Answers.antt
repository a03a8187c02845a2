use Rattle.nd_elements.proofs.NamesFromOtherCrates.{◌≡◌, ◌∙◌, refl, ap, sym, Some, CalledAtMut, region_stored, borrow_of}
use Rattle.nd_elements.specs.CollectedElements.{stored_along}
use Rattle.nd_elements.specs.along.LanesWritten.{line_meaning, lane_held}
use Rattle.nd_elements.proofs.along.map_axis_mut.answer_inside.Goals as goal

pub f-answer-requires : goal.f-answer-requires
unfolding lane_held
f-answer-requires g c =
    let e = c.over-shown.ensures in
    c.requires.callable _ (λ i. Some (line_meaning (stored_along (region_stored (sym e.region i)) (sym e.lane.0 i) (sym e.lane.2 i)) (sym e.lane.1 i)))

pub returns : goal.returns
unfolding lane_held
returns g c =
    let e = c.over-shown.ensures in
    let v = c.over-shown.result in
    let w = c.f-answer.new.arg2 in
    let called : CalledAtMut g.F.FnMut c.args.f v c.f-answer.result c.f-answer.new.self w = record { shown = _; shows = refl; left = _; called = c.f-answer.ensures; leaves = refl } in
    let keeps = c.requires.keeps c.args.f v w c.f-answer.result c.f-answer.new.self called in
    let lane : w.lane ≡ v.lane = keeps.1 in (
      keeps.0 ∙ ap borrow_of e.region,
      (
        v,
        w,
        (λ i. Some (line_meaning (stored_along (region_stored (sym e.region i)) (sym e.lane.0 i) (sym e.lane.2 i)) (sym e.lane.1 i))),
        (λ i. line_meaning (stored_along (region_stored w.region) ((sym e.lane.0 ∙ ap (λ l. l.place) (sym lane)) i) ((sym e.lane.2 ∙ ap (λ l. l.stride) (sym lane)) i)) ((sym e.lane.1 ∙ ap (λ l. l.count) (sym lane)) i)),
        called,
      ),
    )
