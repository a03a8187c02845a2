use Rattle.nd_npy_text.proofs.errors.HeaderErrorDisplay.fmt.Goals as goal

pub returns-in-UnknownVersion-clause-writes : goal.returns-in-UnknownVersion-clause-writes
returns-in-UnknownVersion-clause-writes g c = rw c.in-UnknownVersion.is c.write.ensures.writes

pub returns-in-BadByte-clause-writes : goal.returns-in-BadByte-clause-writes
returns-in-BadByte-clause-writes g c = rw c.in-BadByte.is c.write-in-BadByte.ensures.writes
