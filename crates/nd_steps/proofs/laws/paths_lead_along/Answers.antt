use Rattle.nd_steps.proofs.PathMapComposition.{path_leads}
use Rattle.nd_steps.proofs.laws.paths_lead_along.Goals as goal

pub returns : goal.returns
returns g c = path_leads c.steps_lead_inside.ensures
