use Rattle.std.proofs.Common.{◌+◌, ◌*◌, length, arith}
use Rattle.nd_linalg.proofs.RowsOfCells.{row_within}
use Rattle.nd_linalg.proofs.sums_of_products.push_pairs.Goals as goal

pub overflow_mul-row-in-loop-pair : goal.overflow_mul-row-in-loop-pair
overflow_mul-row-in-loop-pair g c =
    let within = row_within (c.loop-pair.pair * 2) (c.args.pairs * 2) (length c.args.list.now) (omega (arith, c.loop-pair-test.true)) in omega (arith, within, c.requires.rows)

pub overflow_mul-row-in-loop-pair-2 : goal.overflow_mul-row-in-loop-pair-2
overflow_mul-row-in-loop-pair-2 g c =
    let within = row_within (c.loop-pair.pair * 2 + 1) (c.args.pairs * 2) (length c.args.list.now) (omega (arith, c.loop-pair-test.true)) in omega (arith, within, c.requires.rows)

pub sum_two-one-requires-clause-first : goal.sum_two-one-requires-clause-first
sum_two-one-requires-clause-first g c =
    let within = row_within (c.loop-pair.pair * 2) (c.args.pairs * 2) (length c.args.list.now) (omega (arith, c.loop-pair-test.true)) in omega (arith, within, c.requires.rows)

pub sum_two-one-requires-clause-second : goal.sum_two-one-requires-clause-second
sum_two-one-requires-clause-second g c =
    let within = row_within (c.loop-pair.pair * 2 + 1) (c.args.pairs * 2) (length c.args.list.now) (omega (arith, c.loop-pair-test.true)) in omega (arith, within, c.requires.rows)
