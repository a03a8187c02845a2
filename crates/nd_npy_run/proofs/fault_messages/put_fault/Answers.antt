use Rattle.nd_npy_run.proofs.fault_messages.put_fault.Goals as goal

pub returns-in-BadStep : goal.returns-in-BadStep
returns-in-BadStep g c = rw c.in-BadStep.is c.put_step.ensures

pub returns-in-BadHead : goal.returns-in-BadHead
returns-in-BadHead g c = rw c.in-BadHead.is c.put_head_error.ensures

pub returns-in-WrongSize : goal.returns-in-WrongSize
returns-in-WrongSize g c = rw c.in-WrongSize.is c.put_size.ensures

pub returns-in-Refused : goal.returns-in-Refused
returns-in-Refused g c = rw c.in-Refused.is c.put_refusal.ensures

pub returns-in-NoText : goal.returns-in-NoText
returns-in-NoText g c = rw c.in-NoText.is c.put_no_text.ensures

pub returns-in-NotReduced : goal.returns-in-NotReduced
returns-in-NotReduced g c = rw c.in-NotReduced.is c.put_reduction.ensures

pub returns-in-Memory : goal.returns-in-Memory
returns-in-Memory g c = rw c.in-Memory.is c.put.ensures

pub returns-in-ReadFailed : goal.returns-in-ReadFailed
returns-in-ReadFailed g c = rw c.in-ReadFailed.is c.put-in-ReadFailed.ensures
