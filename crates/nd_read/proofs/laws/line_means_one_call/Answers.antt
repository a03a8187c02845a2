use Rattle.nd_read.proofs.AtMostOneMeaning.{means_one_call}
use Rattle.nd_read.proofs.laws.line_means_one_call.Goals as goal

pub returns : goal.returns
returns c = means_one_call
