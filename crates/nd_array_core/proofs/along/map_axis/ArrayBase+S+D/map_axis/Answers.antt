use Rattle.nd_array_core.proofs.NamesFromOtherCrates.{◌≡◌, ◌∙◌, List, ℕ, refl, indexed_shape, RowMajor, found_by_rank, AnswersAt, answers_seen, answers_alike}
use Rattle.nd_array_core.specs.ArrayMeaning.{meaning_of, element_at}
use Rattle.nd_array_core.specs.along.AxisMaps.{lanes_of, AnswersLane}
use Rattle.nd_array_core.proofs.along_lemmas.LanesAsViews.{lane_by}
use Rattle.nd_array_core.proofs.along.map_axis.ArrayBase+S+D.map_axis.Goals as goal

pub returns-clause-visits : goal.returns-clause-visits
unfolding meaning_of
returns-clause-visits g c =
    let array = c.args.self.now in
    let ns = g.D.Dimension.lengths array.layout.dim in
    let a = c.args.axis.0 in
    let items = c.map_lanes-items.result.items in
    let seen : (i : List ℕ) → element_at c.of_items.result i ≡ found_by_rank (indexed_shape ns a, RowMajor) items i =
    λ i. c.of_items.ensures.owns.4 i ∙ (λ j. found_by_rank (c.first_places-firsts.ensures.lengths j, RowMajor) (c.of_items.ensures.stored j) i) in
    answers_seen (AnswersAt (AnswersLane g.F.FnMut) (lanes_of (meaning_of array) a).at) (indexed_shape ns a) c.args.f (found_by_rank (indexed_shape ns a, RowMajor) items) (element_at c.of_items.result) seen c.map_lanes-items.ensures.visits

pub returns-clause-alike : goal.returns-clause-alike
unfolding meaning_of
returns-clause-alike g c h by =
    let array = c.args.self.now in
    let ns = g.D.Dimension.lengths array.layout.dim in
    let a = c.args.axis.0 in
    let items = c.map_lanes-items.result.items in
    let seen : (i : List ℕ) → element_at c.of_items.result i ≡ found_by_rank (indexed_shape ns a, RowMajor) items i =
    λ i. c.of_items.ensures.owns.4 i ∙ (λ j. found_by_rank (c.first_places-firsts.ensures.lengths j, RowMajor) (c.of_items.ensures.stored j) i) in
    answers_alike (AnswersLane g.F.FnMut) (indexed_shape ns a) (lanes_of (meaning_of array) a).at (element_at c.of_items.result) c.args.f h (lane_by g.F.FnMut h c.args.f by)
    (λ i out. seen i ∙ (rw out refl)) (λ i out. rw out refl) (returns-clause-visits g c)
