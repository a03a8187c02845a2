use Rattle.nd_picture.proofs.program.put_fault.Goals as goal

pub returns-in-BadStep : goal.returns-in-BadStep
returns-in-BadStep g c = rw (c.in-BadStep.is, ← c.text.ensures) c.put_step_fault.ensures

pub returns-in-BadByte : goal.returns-in-BadByte
returns-in-BadByte g c = rw (c.in-BadByte.is, ← c.text-in-BadByte.ensures) c.put_byte_fault.ensures

pub returns-in-Refused : goal.returns-in-Refused
returns-in-Refused g c = rw (c.in-Refused.is, ← c.refusal.ensures) c.put_step_fault-in-Refused.ensures

pub returns-in-Memory : goal.returns-in-Memory
returns-in-Memory g c = rw c.in-Memory.is c.put.ensures

pub returns-in-ReadFailed : goal.returns-in-ReadFailed
returns-in-ReadFailed g c = rw c.in-ReadFailed.is c.put-in-ReadFailed.ensures
