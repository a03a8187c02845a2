use Rattle.std.proofs.Common.{T, sym, subst}
use Rattle.nd_npy.proofs.floats.F64NpyItem.append_to.Goals as goal

pub returns-clause-fits : goal.returns-clause-fits
returns-clause-fits c = subst T (sym c.well_formed.0.1) tt
