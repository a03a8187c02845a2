use Rattle.nd_npy_run.proofs.StepMapsLeadInside.{each_leads}
use Rattle.nd_npy_run.proofs.steps.laws.npy_steps_lead_inside.Goals as goal

pub returns : goal.returns
returns c = each_leads c.steps_lead_inside.ensures
