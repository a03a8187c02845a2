use Rattle.std.proofs.Common.{length, arith}
use Rattle.nd_linalg.proofs.RowsOfCells.{row_within}
use Rattle.nd_linalg.proofs.sums_of_products.rows_by_list.Goals as goal

pub overflow_mul-i : goal.overflow_mul-i
overflow_mul-i g c =
    let within = row_within c.loop-i.i c.args.rows (length c.args.list.now) c.loop-i-test.true in omega (arith, within, c.requires)
