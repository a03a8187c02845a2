use Rattle.nd_npy.proofs.errors.ReadNpyErrorDisplay.fmt.Goals as goal

pub returns-in-OtherKind-clause-writes : goal.returns-in-OtherKind-clause-writes
returns-in-OtherKind-clause-writes g c = rw (c.in-OtherKind.is, ← c.kind_name.ensures) c.write.ensures.writes
