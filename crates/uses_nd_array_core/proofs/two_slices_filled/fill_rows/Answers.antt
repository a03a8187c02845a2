use Rattle.std.proofs.Common.{arith}
use Rattle.std.proofs.lemmas.Result.{on_ok_weaker}
use Rattle.nd_array_core.specs.ArrayMeaning.{shape_of, element_at}
use Rattle.uses_nd_array_core.proofs.ResultValues.{on_ok_both}
use Rattle.uses_nd_array_core.proofs.EverySecondRow.{lists_fit, interleaved_by, Filled}
use Rattle.uses_nd_array_core.proofs.two_slices_filled.fill_rows.Goals as goal

pub fill_slices-requires-clause-fits : goal.fill_slices-requires-clause-fits
fill_slices-requires-clause-fits g c =
    let ns = shape_of c.args.grid.now in
    lists_fit ns c.in-Ok.evens.elements.now c.in-Ok-new.odds.elements.now c.requires.two (λ e. omega (arith, e, c.requires.rows)) c.in-Ok.ensures.list c.in-Ok-new.ensures.list

pub returns-clause-rows : goal.returns-clause-rows
returns-clause-rows g c =
    let ns = shape_of c.args.grid.now in
    let new = element_at c.fill_slices.new.array in
    let es = c.in-Ok.evens.elements.now in
    let fs = c.in-Ok-new.odds.elements.now in
    let x = c.args.even in
    let y = c.args.odd in
    on_ok_weaker c.fill_slices.result (λ filled. interleaved_by ns es fs x y new c.requires.two (λ e. omega (arith, e, c.requires.rows)) c.in-Ok.ensures.list c.in-Ok-new.ensures.list filled.0 filled.1)
    (on_ok_both (Filled ns es new x) (Filled ns fs new y) c.fill_slices.result c.fill_slices.ensures.first c.fill_slices.ensures.second)
