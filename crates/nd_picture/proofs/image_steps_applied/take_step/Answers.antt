use Rattle.nd_picture.proofs.image_steps_applied.take_step.Goals as goal

pub returns-in-Invert-clause-after : goal.returns-in-Invert-clause-after
returns-in-Invert-clause-after c = rw c.in-Invert.is c.invert.ensures
