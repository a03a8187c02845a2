use Rattle.nd_npy_run.proofs.StepMapsLeadInside.{steps_lead}
use Rattle.nd_npy_run.proofs.steps.laws.steps_lead_along.Goals as goal

pub returns : goal.returns
returns g c = steps_lead c.npy_steps_lead_inside.ensures
