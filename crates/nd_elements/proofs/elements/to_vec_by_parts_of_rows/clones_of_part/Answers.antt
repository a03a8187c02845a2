use Rattle.nd_elements.proofs.NamesFromOtherCrates.{◌≡◌, ◌+◌, ◌*◌, ◌++◌, refl, sym, subst, arith, slice_get_read, length, along, on_ok_weaker, on_err_weaker}
use Rattle.std.proofs.lemmas.Grind.{common_steps}
use Rattle.nd_elements.proofs.BoolAndResultCases.{there, refused}
use Rattle.std.proofs.Common.{append-nil}
use Rattle.nd_elements.specs.CollectedElements.{collected}
use Rattle.nd_elements.specs.ElementsAtNumberedPlaces.{elements_at}
use Rattle.nd_elements.specs.elements.TransposedRowParts.{columns_of_lanes, part_by_parts}
use Rattle.nd_elements.proofs.PartOfNumberedPlaces.{part_holds, part_clones, part_refused, part_after}
use Rattle.nd_elements.proofs.elements_lemmas.RowsByParts.{columns_go_on, rest_goes_on}
use Rattle.nd_elements.proofs.elements.to_vec_by_parts_of_rows.clones_of_part.Goals as goal

pub clones_of_columns-longer-requires-clause-clones : goal.clones_of_columns-longer-requires-clause-clones
clones_of_columns-longer-requires-clause-clones g c =
    let lanes = c.args.lanes.now in
    part_clones (part_by_parts lanes c.args.part c.args.width c.args.nth) 0 (columns_of_lanes lanes (c.args.nth * c.args.part) c.args.part) (columns_go_on lanes c.args.part c.args.width c.requires.fits c.args.nth c.requires.on) (g.S.Data.stored c.args.storage.now) g.S.Elem.Clone.is_clone c.requires.clones

pub clones_of_columns-longer-requires-clause-holds : goal.clones_of_columns-longer-requires-clause-holds
clones_of_columns-longer-requires-clause-holds g c =
    let lanes = c.args.lanes.now in
    part_holds (part_by_parts lanes c.args.part c.args.width c.args.nth) 0 (columns_of_lanes lanes (c.args.nth * c.args.part) c.args.part) (columns_go_on lanes c.args.part c.args.width c.requires.fits c.args.nth c.requires.on) (g.S.Data.stored c.args.storage.now) c.requires.holds

pub returns-in-Err-clause-refused : goal.returns-in-Err-clause-refused
returns-in-Err-clause-refused g c =
    let on = columns_go_on c.args.lanes.now c.args.part c.args.width c.requires.fits c.args.nth c.requires.on in
    part_refused (part_by_parts c.args.lanes.now c.args.part c.args.width c.args.nth) 0 (columns_of_lanes c.args.lanes.now (c.args.nth * c.args.part) c.args.part) on (g.S.Data.stored c.args.storage.now) g.S.Elem.Clone.is_infallible
    (refused c.clones_of_columns-longer.result.1 c.in-Err.refused c.in-Err.is c.clones_of_columns-longer.ensures.refused)

pub part-requires : goal.part-requires
part-requires g c =
    let lane = c.index-lanes-nth.result in
    record { within = omega (arith, c.requires.long c.args.nth lane (slice_get_read c.args.lanes.now (length c.args.lanes.now) c.args.nth lane refl c.requires.on c.index-lanes-nth.is), c.requires.fits) }

pub clones_of_lane-requires-clause-clones : goal.clones_of_lane-requires-clause-clones
clones_of_lane-requires-clause-clones g c =
    let lanes = c.args.lanes.now in let lane = c.index-lanes-nth.result in
    let on = rest_goes_on lanes c.args.part c.args.width c.requires.fits c.args.nth c.requires.on lane c.part.result (slice_get_read lanes (length lanes) c.args.nth lane refl c.requires.on c.index-lanes-nth.is) c.part.ensures.count c.part.ensures.places in
    part_clones (part_by_parts lanes c.args.part c.args.width c.args.nth) (length lanes * c.args.part) (along c.part.result) on (g.S.Data.stored c.args.storage.now) g.S.Elem.Clone.is_clone c.requires.clones

pub clones_of_lane-requires-clause-holds : goal.clones_of_lane-requires-clause-holds
clones_of_lane-requires-clause-holds g c =
    let lanes = c.args.lanes.now in let lane = c.index-lanes-nth.result in
    let on = rest_goes_on lanes c.args.part c.args.width c.requires.fits c.args.nth c.requires.on lane c.part.result (slice_get_read lanes (length lanes) c.args.nth lane refl c.requires.on c.index-lanes-nth.is) c.part.ensures.count c.part.ensures.places in
    part_holds (part_by_parts lanes c.args.part c.args.width c.args.nth) (length lanes * c.args.part) (along c.part.result) on (g.S.Data.stored c.args.storage.now) c.requires.holds

pub returns-in-Ok-clause-items : goal.returns-in-Ok-clause-items
returns-in-Ok-clause-items g c =
    let lanes = c.args.lanes.now in let lane = c.index-lanes-nth.result in let whole = part_by_parts lanes c.args.part c.args.width c.args.nth in
    let on = rest_goes_on lanes c.args.part c.args.width c.requires.fits c.args.nth c.requires.on lane c.part.result (slice_get_read lanes (length lanes) c.args.nth lane refl c.requires.on c.index-lanes-nth.is) c.part.ensures.count c.part.ensures.places in
    let first = columns_go_on lanes c.args.part c.args.width c.requires.fits c.args.nth c.requires.on in
    let found = elements_at g.S.Data.stored whole c.args.storage.now in let done = length lanes * c.args.part in
    let none : 0 + done ≡ done = omega arith in
    let all : done + c.part.result.count ≡ c.args.width = omega (arith, c.requires.fits, c.part.ensures.count) in
    let stored = g.S.Data.stored c.args.storage.now in
    on_ok_weaker c.clones_of_lane.result.1
    (λ put.
    subst (λ n. c.clones_of_lane.result.0.items ≡ c.args.items.items ++ collected found n) all
    (part_after whole done (along c.part.result) on stored c.args.items.items c.clones_of_columns-longer.result.0.items c.clones_of_lane.result.0.items
    (subst (λ n. c.clones_of_columns-longer.result.0.items ≡ c.args.items.items ++ collected found n) none
    (part_after whole 0 (columns_of_lanes lanes (c.args.nth * c.args.part) c.args.part) first stored c.args.items.items c.args.items.items c.clones_of_columns-longer.result.0.items (sym (append-nil c.args.items.items)) (there c.clones_of_columns-longer.result.1 c.in-Ok.field-0 c.in-Ok.is c.clones_of_columns-longer.ensures.items)))
    put))
    c.clones_of_lane.ensures.items

pub returns-in-Ok-clause-refused : goal.returns-in-Ok-clause-refused
returns-in-Ok-clause-refused g c =
    let lanes = c.args.lanes.now in let lane = c.index-lanes-nth.result in
    let on = rest_goes_on lanes c.args.part c.args.width c.requires.fits c.args.nth c.requires.on lane c.part.result (slice_get_read lanes (length lanes) c.args.nth lane refl c.requires.on c.index-lanes-nth.is) c.part.ensures.count c.part.ensures.places in
    on_err_weaker c.clones_of_lane.result.1
    (part_refused (part_by_parts lanes c.args.part c.args.width c.args.nth) (length lanes * c.args.part) (along c.part.result) on (g.S.Data.stored c.args.storage.now) g.S.Elem.Clone.is_infallible)
    c.clones_of_lane.ensures.refused

pub returns-in-Ok-clause-kept : goal.returns-in-Ok-clause-kept
returns-in-Ok-clause-kept g c = grind (arith, common_steps)

pub clones_of_columns-longer-requires-clause-long : goal.clones_of_columns-longer-requires-clause-long
clones_of_columns-longer-requires-clause-long g c = grind (arith, common_steps)
