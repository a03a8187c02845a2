use Rattle.std.proofs.Common.{sym}
use Rattle.nd_npy_run.proofs.NumberLists.{list_given, no_list}
use Rattle.nd_npy_run.proofs.steps.number_lists.split_list.Goals as goal

pub returns-in-Some : goal.returns-in-Some
returns-in-Some c = list_given _ _ _ _ _ (sym c.in-Some.ensures) c.split_numbers.ensures

pub returns-in-None : goal.returns-in-None
returns-in-None c = no_list _ (sym c.in-None.ensures)
