use Rattle.nd_array_core.proofs.NamesFromOtherCrates.{◌≡◌, ◌∙◌, ℕ, List, refl, rules, index_at, indexed_shape, place_of, RowMajor, Meaning, inside, stored_at, found_by_rank, lanes_hold, others_stayed, still_holds_all}
use Rattle.nd_array_core.specs.ArrayMeaning.{meaning_of, memory_layout_of, shape_of, element_at}
use Rattle.nd_array_core.proofs.along_lemmas.HandedLanes.{lanes_taken, lanes_answered, lanes_left, lanes_seen, found_there}
use Rattle.nd_array_core.proofs.along.map_axis_mut.ArrayBase+S+D.map_axis_mut.Goals as goal

pub answer_lanes-f-requires-clause-apart : goal.answer_lanes-f-requires-clause-apart
answer_lanes-f-requires-clause-apart g c = c.lanes_along-lanes.ensures.apart (c.args.self.now.separated g.met.S.DataMut.alone)

pub answer_lanes-f-requires-clause-holds : goal.answer_lanes-f-requires-clause-holds
answer_lanes-f-requires-clause-holds g c = lanes_hold c.lanes_along-lanes.ensures.along (g.S.Data.stored c.args.self.now.storage) c.args.self.now.inside

pub answer_lanes-f-requires-clause-callable : goal.answer_lanes-f-requires-clause-callable
unfolding meaning_of memory_layout_of
answer_lanes-f-requires-clause-callable g c = lanes_taken c.lanes_along-lanes.ensures.along g.F.FnMut (g.S.Data.stored c.args.self.now.storage) c.args.f c.requires.callable

pub invariant_of-self : goal.invariant_of-self
invariant_of-self g c =
    let array = c.args.self.now in
    record {
      inside = still_holds_all (g.S.Data.stored array.storage) (g.S.Data.stored c.answer_lanes-f.new.storage) array.layout.offset (g.D.Dimension.lengths array.layout.dim) (g.D.Strides.StrideList.strides_of array.layout.strides) c.answer_lanes-f.ensures.there array.inside;
      separated = array.separated;
    }

pub returns : goal.returns
unfolding meaning_of memory_layout_of
returns g c =
    let array = c.args.self.now in
    let after : Meaning _ = record { shape = shape_of array; at = λ i. inside (shape_of array) i (stored_at (g.S.Data.stored c.answer_lanes-f.new.storage) (place_of array.layout.offset (g.D.Strides.StrideList.strides_of array.layout.strides) i)) } in
    let items = c.answer_lanes-f.result.1.items in
    let os = indexed_shape (shape_of array) c.args.axis.0 in
    let seen : (i : List ℕ) → element_at c.of_items.result i ≡ found_by_rank (os, RowMajor) items i = λ i. c.of_items.ensures.owns.4 i ∙ (λ j. found_by_rank (c.first_places-firsts.ensures.lengths j, RowMajor) (c.of_items.ensures.stored j) i) in
    let visits = lanes_answered c.lanes_along-lanes.ensures.along g.F.FnMut (g.S.Data.stored array.storage) c.args.f (g.S.Data.stored c.answer_lanes-f.new.storage) c.answer_lanes-f.result.0 items c.answer_lanes-f.ensures.handed (element_at c.of_items.result) (λ k below. seen (index_at os k) ∙ found_there os items k below) in
    record {
      shape = search rules;
      visits = visits;
      alike = λ h by. lanes_left g.F.FnMut (meaning_of array) after c.args.axis.0 c.requires.axis refl (element_at c.of_items.result) c.args.f visits h by;
      answered = λ h by. lanes_seen g.F.FnMut (meaning_of array) after c.args.axis.0 c.requires.axis refl (element_at c.of_items.result) c.args.f visits h by (λ i out. seen i ∙ (rw out refl));
      refused = search rules;
      kept = search rules;
      frame = let handed = c.answer_lanes-f.ensures.handed in
          (refl, refl, (λ i. refl), others_stayed c.lanes_along-lanes.ensures.along (g.S.Data.stored c.args.self.now.storage) (g.S.Data.stored c.answer_lanes-f.new.storage) handed.left, c.answer_lanes-f.ensures.frame, refl);
    }
