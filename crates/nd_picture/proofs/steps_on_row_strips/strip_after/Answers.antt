use Rattle.std.proofs.Common.{refl, sym, subst}
use Rattle.nd_picture.specs.declared.steps_on_row_strips.Strip.{Strip}
use Rattle.nd_picture_text.specs.declared.step.Step.{Step}
use Rattle.nd_picture.specs.RowStrips.{MeetsStep, IsStripAfter}
use Rattle.nd_picture.proofs.RowwiseSteps.{flop_after, over_after, invert_after, gray_after}
use Rattle.nd_picture.proofs.steps_on_row_strips.strip_after.Goals as goal

pub returns-in-Flop : goal.returns-in-Flop
returns-in-Flop c =
    let t : Strip = record { first = c.args.strip.first; rows = c.flop.result } in
    subst (λ (step : Step). IsStripAfter c.args.maxval step c.args.strip t) (sym c.in-Flop.is) (flop_after c.args.maxval c.args.strip t refl c.flop.ensures (subst (λ (step : Step). MeetsStep c.args.maxval step c.args.strip) c.in-Flop.is c.requires))

pub returns-in-Threshold : goal.returns-in-Threshold
returns-in-Threshold c =
    let t : Strip = record { first = c.args.strip.first; rows = c.threshold.result } in
    subst (λ (step : Step). IsStripAfter c.args.maxval step c.args.strip t) (sym c.in-Threshold.is)
    (over_after c.args.maxval c.args.strip t refl c.in-Threshold.limit c.threshold.ensures (subst (λ (step : Step). MeetsStep c.args.maxval step c.args.strip) c.in-Threshold.is c.requires))

pub returns-in-Invert : goal.returns-in-Invert
returns-in-Invert c =
    let t : Strip = record { first = c.args.strip.first; rows = c.invert.result } in
    subst (λ (step : Step). IsStripAfter c.args.maxval step c.args.strip t) (sym c.in-Invert.is) (invert_after c.args.maxval c.args.strip t refl c.invert.ensures (subst (λ (step : Step). MeetsStep c.args.maxval step c.args.strip) c.in-Invert.is c.requires))

pub returns-in_ok-rows-in-Gray : goal.returns-in_ok-rows-in-Gray
returns-in_ok-rows-in-Gray c =
    let t : Strip = record { first = c.args.strip.first; rows = c.in_ok-rows-in-Gray.rows } in
    subst (λ (step : Step). IsStripAfter c.args.maxval step c.args.strip t) (sym c.in-Gray.is) (gray_after c.args.maxval c.args.strip t refl c.in_ok-rows-in-Gray.ensures (subst (λ (step : Step). MeetsStep c.args.maxval step c.args.strip) c.in-Gray.is c.requires))
