use Rattle.nd_array_core.proofs.base_lemmas.SizesOfThreeLengths.{in_one, all_fit, rows_fit}
use Rattle.nd_array_core.proofs.base.from.blocks_fit.Goals as goal

pub returns-clause-rows : goal.returns-clause-rows
returns-clause-rows c = rows_fit c.args.blocks c.args.rows c.args.columns c.requires

pub returns-clause-elements : goal.returns-clause-elements
returns-clause-elements c = all_fit c.args.blocks c.args.rows c.args.columns c.requires

pub returns-clause-size : goal.returns-clause-size
returns-clause-size c = in_one c.args.blocks c.args.rows c.args.columns
