use Rattle.std.proofs.Common.{◌-◌, refl, arith}
use Rattle.std.specs.List.{slice_range}
use Rattle.nd_array_core.specs.ConcatenationAndSplit.{row_major_elements}
use Rattle.nd_array_core.specs.ArrayMeaning.{meaning_of}
use Rattle.nd_iter.proofs.RowElementsTaken.{row_taken_after}
use Rattle.nd_iter.proofs.row_major_rank.row_after.Goals as goal

pub returns-clause-lists : goal.returns-clause-lists
returns-clause-lists g c =
    let all = row_major_elements (meaning_of c.args.array.now) in
    let row = c.in-Some.row.now in
    let first = c.in-Some.first in
    let is = c.in-Some.ensures.row in
    let from = is.from in
    let upto = is.upto in
    let most = c.max.ensures in
    let within = c.requires.within in
    let count = c.elements_by_rank.ensures.count in
    let some = c.requires.some in
    let low = c.max.result - first in
    row_taken_after all row first low (c.args.until - first) is.elements (omega (arith, upto, from, some)) (omega (arith, most, from, upto, some))
    (slice_range row low (c.args.until - first)) refl c.args.from c.args.until (omega (arith, within, count)) (omega (arith, most, from, some)) (omega (arith, from, some))
