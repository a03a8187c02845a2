use Rattle.nd_npy_run.proofs.fault_messages.put_no_text.Goals as goal

pub returns : goal.returns
returns g c = rw (← c.code.ensures) c.put_between.ensures
