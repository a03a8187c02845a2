use Rattle.nd_array_core.proofs.NamesFromOtherCrates.{◌≡◌, ◌∙◌, ℕ, List, refl, slice_get, indexed_shape, RowMajor, found_by_rank, lanes_hold}
use Rattle.nd_array_core.specs.ArrayMeaning.{meaning_of, memory_layout_of, shape_of, element_at}
use Rattle.nd_array_core.proofs.along_lemmas.AxisFolds.{axis_folded, lanes_foldable, lanes_visited}
use Rattle.nd_array_core.proofs.along.fold_axis.ArrayBase+S+D.fold_axis.Goals as goal

pub fold_lanes-requires-clause-holds : goal.fold_lanes-requires-clause-holds
unfolding meaning_of memory_layout_of
fold_lanes-requires-clause-holds g c =
    let array = c.args.self.now in lanes_hold c.lanes_along-lanes.ensures.along (g.S.Data.stored array.storage) array.inside

pub fold_lanes-requires-clause-callable : goal.fold_lanes-requires-clause-callable
unfolding meaning_of memory_layout_of
fold_lanes-requires-clause-callable g c =
    lanes_foldable g.F.FnMut c.requires.axis c.lanes_along-lanes.ensures.along (g.S.Data.stored c.args.self.now.storage) c.args.init c.args.f c.requires.callable

pub returns-clause-visits : goal.returns-clause-visits
unfolding meaning_of memory_layout_of
returns-clause-visits g c =
    let array = c.args.self.now in
    let items = c.in_ok-items.items.items in
    let seen : (i : List ℕ) → element_at c.of_items.result i ≡ found_by_rank (indexed_shape (shape_of array) c.args.axis.0, RowMajor) items i =
    λ i. c.of_items.ensures.owns.4 i ∙ (λ j. found_by_rank (c.first_places-firsts.ensures.lengths j, RowMajor) (c.of_items.ensures.stored j) i) in
    lanes_visited g.F.FnMut c.requires.axis c.lanes_along-lanes.ensures.along (g.S.Data.stored array.storage) c.args.init c.args.f (slice_get items) (element_at c.of_items.result) (λ j within. seen j ∙ (rw within refl)) c.in_ok-items.ensures.folds

pub returns-clause-alike : goal.returns-clause-alike
unfolding meaning_of memory_layout_of
returns-clause-alike g c h by =
    let array = c.args.self.now in
    let items = c.in_ok-items.items.items in
    let seen : (i : List ℕ) → element_at c.of_items.result i ≡ found_by_rank (indexed_shape (shape_of array) c.args.axis.0, RowMajor) items i =
    λ i. c.of_items.ensures.owns.4 i ∙ (λ j. found_by_rank (c.first_places-firsts.ensures.lengths j, RowMajor) (c.of_items.ensures.stored j) i) in
    axis_folded g.F.FnMut (shape_of array) c.args.axis.0 c.requires.axis (element_at array) c.args.init c.args.f (element_at c.of_items.result) (λ i out. seen i ∙ (rw out refl)) (returns-clause-visits g c) h by
