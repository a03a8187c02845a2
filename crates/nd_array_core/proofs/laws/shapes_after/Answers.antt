use Rattle.nd_array_core.proofs.growth_lemmas.ShapesThatFitAfter.{as_many_axes, none_of_none}
use Rattle.nd_array_core.proofs.laws.shapes_after.Goals as goal

pub returns-clause-axes : goal.returns-clause-axes
returns-clause-axes c = as_many_axes

pub returns-clause-none : goal.returns-clause-none
returns-clause-none c = none_of_none
