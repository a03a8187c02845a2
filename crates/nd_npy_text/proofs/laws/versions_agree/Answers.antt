use Rattle.nd_npy_text.proofs.HeaderReadBack.{versions_agree}
use Rattle.nd_npy_text.proofs.laws.versions_agree.Goals as goal

pub returns : goal.returns
returns c = versions_agree
