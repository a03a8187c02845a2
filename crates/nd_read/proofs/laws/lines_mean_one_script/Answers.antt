use Rattle.nd_read.proofs.AtMostOneMeaning.{means_one_script, has_no_bad_line}
use Rattle.nd_read.proofs.laws.lines_mean_one_script.Goals as goal

pub returns-clause-one : goal.returns-clause-one
returns-clause-one c = means_one_script

pub returns-clause-none_bad : goal.returns-clause-none_bad
returns-clause-none_bad c = has_no_bad_line
