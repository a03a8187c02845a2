use Rattle.std.proofs.Common.{◌-◌, refl, arith}
use Rattle.std.specs.List.{slice_range}
use Rattle.nd_array_core.specs.ConcatenationAndSplit.{row_major_elements}
use Rattle.nd_array_core.specs.ArrayMeaning.{meaning_of}
use Rattle.nd_iter.proofs.RowElementsTaken.{row_taken_ahead}
use Rattle.nd_iter.proofs.row_major_rank.row_ahead.Goals as goal

pub returns-clause-lists : goal.returns-clause-lists
returns-clause-lists g c =
    let all = row_major_elements (meaning_of c.args.array.now) in
    let row = c.in-Some.row.now in
    let first = c.in-Some.first in
    let is = c.in-Some.ensures.row in
    let from = is.from in
    let upto = is.upto in
    let least = c.min.ensures in
    let within = c.requires.within in
    let count = c.elements_by_rank.ensures.count in
    let some = c.requires.some in
    let high = c.min.result in
    row_taken_ahead all row first (c.args.from - first) high is.elements (omega (arith, least)) (omega (arith, least, from, upto, some))
    (slice_range row (c.args.from - first) high) refl c.args.from c.args.until (omega (arith, within, count)) (omega (arith, from)) (omega (arith, least, from, some))
