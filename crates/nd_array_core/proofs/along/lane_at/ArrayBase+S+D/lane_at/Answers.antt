use Rattle.nd_array_core.proofs.NamesFromOtherCrates.{◌≡◌, ◌<◌, ◌∙◌, ℕ, Some, refl, is_some, ap, sym, subst, fun_ext, same_Some, insert, shown_by, stored_along, stored_at, names_place}
use Rattle.nd_array_core.specs.ArrayMeaning.{meaning_of, memory_layout_of, element_at}
use Rattle.nd_array_core.specs.along.AxisMaps.{lane_of, lanes_of, lane_seen}
use Rattle.nd_array_core.proofs.along_lemmas.LanesAsViews.{lane_met}
use Rattle.nd_array_core.proofs.along.lane_at.ArrayBase+S+D.lane_at.Goals as goal

pub lane_at-lane-requires-clause-within : goal.lane_at-lane-requires-clause-within
unfolding meaning_of
lane_at-lane-requires-clause-within g c = rw (c.slice.ensures ∙ c.coordinates.ensures) c.requires.within

pub over-requires : goal.over-requires
unfolding meaning_of memory_layout_of
over-requires g c k under =
    let array = c.args.self.now in
    let lane = c.lane_at-lane.result in
    let here = c.lane_at-lane.ensures.lane.1 k under in
    (λ i. is_some (stored_along (fun_ext c.borrowed.ensures i) lane.place lane.stride k)) ∙ (ap (names_place (g.S.Data.stored array.storage)) here.1 ∙ array.inside _ here.0)

pub returns : goal.returns
unfolding meaning_of memory_layout_of lane_seen
returns g c =
    let array = c.args.self.now in
    let a = c.args.axis.0 in
    let index = g.I.NdIndex.coordinates_of c.args.index in
    let lane = c.lane_at-lane.result in
    let through = c.lane_at-lane.ensures.lane in
    let view = c.over.result in
    let over = c.over.ensures in
    let found : (k : ℕ) → k < view.lane.count → stored_along (shown_by view.storage) view.lane.place view.lane.stride k ≡ element_at array (insert c.slice.result.now a k) = λ k under.
    let here = through.1 k (subst (λ m. k < m) over.lane.1 under) in
    (λ i. stored_along (shown_by (over.storage i)) (over.lane.0 i) (over.lane.2 i) k) ∙ ((λ i. stored_along (fun_ext c.borrowed.ensures i) lane.place lane.stride k) ∙ (rw here.0 (ap (stored_at (g.S.Data.stored array.storage)) here.1))) in
    let found_by : (k : ℕ) → k < view.lane.count → stored_along (shown_by view.storage) view.lane.place view.lane.stride k ≡ element_at array (insert index a k) = λ k under. found k under ∙ ap (λ j. element_at array (insert j a k)) (c.slice.ensures ∙ c.coordinates.ensures) in
    let met : (lanes_of (meaning_of array) a).at index ≡ Some (lane_seen view) = lane_met (meaning_of array) a index c.requires.within view (over.lane.1 ∙ through.0) found_by in
    record { lane = sym (same_Some (lane_of (meaning_of array) a index) (lane_seen view) ((rw c.requires.within refl) ∙ met)) }
