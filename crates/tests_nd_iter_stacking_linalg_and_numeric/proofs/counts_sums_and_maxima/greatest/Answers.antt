use Rattle.std.proofs.Common.{rules}
use Rattle.tests_nd_iter_stacking_linalg_and_numeric.proofs.counts_sums_and_maxima.greatest.Goals as goal

pub returns-clause-there : goal.returns-clause-there
returns-clause-there g c = search rules
