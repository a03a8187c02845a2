use Rattle.nd_elements.proofs.NamesFromOtherCrates.{◌≡◌, ◌+◌, ◌*◌, ◌++◌, ◌∙◌, refl, subst, arith, slice_get_read, length, along}
use Rattle.nd_elements.proofs.BoolAndResultCases.{there, refused}
use Rattle.nd_elements.specs.CollectedElements.{collected}
use Rattle.nd_elements.specs.ElementsAtNumberedPlaces.{elements_at}
use Rattle.nd_elements.specs.elements.TransposedRowParts.{columns_of_lanes}
use Rattle.nd_elements.proofs.PartOfNumberedPlaces.{part_holds, part_clones, part_refused, part_after}
use Rattle.nd_elements.proofs.elements_lemmas.ListedHalves.{front_again}
use Rattle.nd_elements.proofs.elements_lemmas.RowsByParts.{row_goes_on}
use Rattle.nd_elements.proofs.elements.to_vec_by_parts_of_rows.clones_of_columns.Goals as goal

pub clones_of_lane-longer-requires-clause-clones : goal.clones_of_lane-longer-requires-clause-clones
clones_of_lane-longer-requires-clause-clones g c =
    let lanes = c.args.lanes.now in let nth = c.loop-nth.nth in let lane = c.index-lanes-nth.result in let test = c.loop-nth-test.true in
    let on = row_goes_on lanes c.args.from c.args.count nth lane c.part.result (slice_get_read lanes (length lanes) nth lane refl test c.index-lanes-nth.is) test c.part.ensures.count c.part.ensures.places in
    part_clones (columns_of_lanes lanes c.args.from c.args.count) (nth * c.args.count) (along c.part.result) on (g.S.Data.stored c.args.storage.now) g.S.Elem.Clone.is_clone c.requires.clones

pub clones_of_lane-longer-requires-clause-holds : goal.clones_of_lane-longer-requires-clause-holds
clones_of_lane-longer-requires-clause-holds g c =
    let lanes = c.args.lanes.now in let nth = c.loop-nth.nth in let lane = c.index-lanes-nth.result in let test = c.loop-nth-test.true in
    let on = row_goes_on lanes c.args.from c.args.count nth lane c.part.result (slice_get_read lanes (length lanes) nth lane refl test c.index-lanes-nth.is) test c.part.ensures.count c.part.ensures.places in
    part_holds (columns_of_lanes lanes c.args.from c.args.count) (nth * c.args.count) (along c.part.result) on (g.S.Data.stored c.args.storage.now) c.requires.holds

pub returns-in-Err-clause-refused : goal.returns-in-Err-clause-refused
returns-in-Err-clause-refused g c =
    let lanes = c.args.lanes.now in let lane = c.index-lanes-nth.result in let test = c.loop-nth-test.true in
    let on = row_goes_on lanes c.args.from c.args.count c.loop-nth.nth lane c.part.result (slice_get_read lanes (length lanes) c.loop-nth.nth lane refl test c.index-lanes-nth.is) test c.part.ensures.count c.part.ensures.places in
    part_refused (columns_of_lanes lanes c.args.from c.args.count) (c.loop-nth.nth * c.args.count) (along c.part.result) on (g.S.Data.stored c.args.storage.now) g.S.Elem.Clone.is_infallible
    (refused c.clones_of_lane-longer.result.1 c.in-Err.refused c.in-Err.is c.clones_of_lane-longer.ensures.refused)

pub loop-nth-preserved : goal.loop-nth-preserved
loop-nth-preserved g c =
    let lanes = c.args.lanes.now in let nth = c.loop-nth.nth in let lane = c.index-lanes-nth.result in let test = c.loop-nth-test.true in
    let on = row_goes_on lanes c.args.from c.args.count nth lane c.part.result (slice_get_read lanes (length lanes) nth lane refl test c.index-lanes-nth.is) test c.part.ensures.count c.part.ensures.places in
    let so_far = c.loop-nth.invariant in let end = c.clones_of_lane-longer.result.1 in let done = c.clones_of_lane-longer.ensures in
    let next : nth * c.args.count + c.part.result.count ≡ (nth + 1) * c.args.count = omega (arith, c.part.ensures.count) in (
      subst (λ n. c.clones_of_lane-longer.result.0.items ≡ c.args.items.items ++ collected (elements_at g.S.Data.stored (columns_of_lanes lanes c.args.from c.args.count) c.args.storage.now) n) next
          (part_after (columns_of_lanes lanes c.args.from c.args.count) (nth * c.args.count) (along c.part.result) on (g.S.Data.stored c.args.storage.now) c.args.items.items c.loop-nth.items.items c.clones_of_lane-longer.result.0.items so_far.0 (there end c.in-Ok.field-0 c.in-Ok.is done.items)),
      (let e = so_far.1 in let l = there end c.in-Ok.field-0 c.in-Ok.is done.len in omega (arith, e, l, next)),
      done.room ∙ so_far.2,
    )

pub returns-in-Err-clause-kept : goal.returns-in-Err-clause-kept
returns-in-Err-clause-kept g c =
    front_again c.args.items.items (collected (elements_at g.S.Data.stored (columns_of_lanes c.args.lanes.now c.args.from c.args.count) c.args.storage.now) (c.loop-nth.nth * c.args.count)) c.loop-nth.items.items c.clones_of_lane-longer.result.0.items c.loop-nth.invariant.0
    (refused c.clones_of_lane-longer.result.1 c.in-Err.refused c.in-Err.is c.clones_of_lane-longer.ensures.kept)
