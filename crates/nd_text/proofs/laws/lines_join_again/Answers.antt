use Rattle.nd_text.proofs.JoinedLines.{lines_join}
use Rattle.nd_text.proofs.laws.lines_join_again.Goals as goal

pub returns : goal.returns
returns c = lines_join
