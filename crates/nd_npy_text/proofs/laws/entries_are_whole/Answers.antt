use Rattle.nd_npy_text.proofs.DictOfThreeEntries.{entries_whole}
use Rattle.nd_npy_text.proofs.laws.entries_are_whole.Goals as goal

pub returns : goal.returns
returns c = entries_whole
