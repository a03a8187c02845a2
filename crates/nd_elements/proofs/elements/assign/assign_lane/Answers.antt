use Rattle.nd_elements.proofs.NamesFromOtherCrates.{subst, fun_ext, along}
use Rattle.nd_elements.specs.elements.AssignedElements.{AssignsAt}
use Rattle.nd_elements.proofs.elements.assign.assign_lane.Goals as goal

pub returns-then-lane-eq0-clause-outcome : goal.returns-then-lane-eq0-clause-outcome
returns-then-lane-eq0-clause-outcome g c =
    subst (λ others. AssignsAt g.S.Data.stored (λ _. others) (along c.args.lane) (along c.args.other_lane) c.args.others.now c.args.storage.now c.assign_lent.new.storage c.assign_lent.result)
    (fun_ext c.borrowed.ensures) c.assign_lent.ensures.outcome

pub returns-clause-outcome : goal.returns-clause-outcome
returns-clause-outcome g c =
    subst (λ others. AssignsAt g.S.Data.stored (λ _. others) (along c.args.lane) (along c.args.other_lane) c.args.others.now c.args.storage.now c.assign_contiguous_from_strided.new.storage c.assign_contiguous_from_strided.result)
    (fun_ext c.borrowed-2.ensures) c.assign_contiguous_from_strided.ensures.outcome
