use Rattle.nd_elements.proofs.NamesFromOtherCrates.{◌≡◌, ◌+◌, ◌*◌, ◌++◌, ◌∙◌, subst, arith, length, row_fits}
use Rattle.nd_elements.proofs.BoolAndResultCases.{there, refused}
use Rattle.nd_elements.specs.CollectedElements.{collected}
use Rattle.nd_elements.specs.ElementsAtNumberedPlaces.{elements_at}
use Rattle.nd_elements.specs.elements.TransposedRowParts.{rows_by_parts, part_by_parts}
use Rattle.nd_elements.proofs.PartOfNumberedPlaces.{part_holds, part_clones, part_refused, part_after}
use Rattle.nd_elements.proofs.elements_lemmas.ListedHalves.{front_again}
use Rattle.nd_elements.proofs.elements_lemmas.RowsByParts.{part_goes_on}
use Rattle.nd_elements.proofs.elements.to_vec_by_parts_of_rows.clones_by_parts.Goals as goal

pub clones_of_part-longer-requires-clause-clones : goal.clones_of_part-longer-requires-clause-clones
clones_of_part-longer-requires-clause-clones g c =
    let nth = c.loop-nth.nth in
    part_clones (rows_by_parts c.args.lanes.now c.args.part c.args.width) (nth * c.args.width) (part_by_parts c.args.lanes.now c.args.part c.args.width nth) (part_goes_on c.args.lanes.now c.args.part c.args.width c.requires.fits nth c.loop-nth-test.true) (g.S.Data.stored c.args.storage.now) g.S.Elem.Clone.is_clone c.requires.clones

pub clones_of_part-longer-requires-clause-holds : goal.clones_of_part-longer-requires-clause-holds
clones_of_part-longer-requires-clause-holds g c = let nth = c.loop-nth.nth in part_holds (rows_by_parts c.args.lanes.now c.args.part c.args.width) (nth * c.args.width) (part_by_parts c.args.lanes.now c.args.part c.args.width nth) (part_goes_on c.args.lanes.now c.args.part c.args.width c.requires.fits nth c.loop-nth-test.true) (g.S.Data.stored c.args.storage.now) c.requires.holds

pub returns-in-Err-clause-refused : goal.returns-in-Err-clause-refused
returns-in-Err-clause-refused g c =
    let lanes = c.args.lanes.now in let nth = c.loop-nth.nth in let test = c.loop-nth-test.true in
    let one = part_by_parts lanes c.args.part c.args.width nth in
    part_refused (rows_by_parts lanes c.args.part c.args.width) (nth * c.args.width) one (part_goes_on lanes c.args.part c.args.width c.requires.fits nth test) (g.S.Data.stored c.args.storage.now) g.S.Elem.Clone.is_infallible
    (refused c.clones_of_part-longer.result.1 c.in-Err.refused c.in-Err.is c.clones_of_part-longer.ensures.refused)

pub loop-nth-preserved : goal.loop-nth-preserved
loop-nth-preserved g c =
    let nth = c.loop-nth.nth in let whole = rows_by_parts c.args.lanes.now c.args.part c.args.width in
    let one = part_by_parts c.args.lanes.now c.args.part c.args.width nth in
    let on = part_goes_on c.args.lanes.now c.args.part c.args.width c.requires.fits nth c.loop-nth-test.true in let so_far = c.loop-nth.invariant in
    let end = c.clones_of_part-longer.result.1 in let done = c.clones_of_part-longer.ensures in
    let next : nth * c.args.width + c.args.width ≡ (nth + 1) * c.args.width = omega arith in (
      subst (λ n. c.clones_of_part-longer.result.0.items ≡ c.args.items.items ++ collected (elements_at g.S.Data.stored whole c.args.storage.now) n) next
          (part_after whole (nth * c.args.width) one on (g.S.Data.stored c.args.storage.now) c.args.items.items c.loop-nth.items.items c.clones_of_part-longer.result.0.items so_far.0 (there end c.in-Ok.field-0 c.in-Ok.is done.items)),
      (let e = so_far.1 in let l = there end c.in-Ok.field-0 c.in-Ok.is done.len in omega (arith, e, l, next)),
      done.room ∙ so_far.2,
    )

pub returns-in-Err-clause-kept : goal.returns-in-Err-clause-kept
returns-in-Err-clause-kept g c =
    front_again c.args.items.items (collected (elements_at g.S.Data.stored (rows_by_parts c.args.lanes.now c.args.part c.args.width) c.args.storage.now) (c.loop-nth.nth * c.args.width)) c.loop-nth.items.items c.clones_of_part-longer.result.0.items c.loop-nth.invariant.0
    (refused c.clones_of_part-longer.result.1 c.in-Err.refused c.in-Err.is c.clones_of_part-longer.ensures.kept)

pub clones_of_part-longer-requires-clause-room : goal.clones_of_part-longer-requires-clause-room
clones_of_part-longer-requires-clause-room g c = omega (arith, c.loop-nth.invariant.1, c.loop-nth.invariant.2, c.requires.room, row_fits c.loop-nth.nth c.args.width (length c.args.lanes.now) c.args.width c.loop-nth-test.true (omega arith))
