use Rattle.nd_layout.proofs.NamesFromOtherCrates.{◌∙◌, arith, refl, sym, false≢true}
use Rattle.nd_layout.specs.MergedAxes.{CanMerge, merged_index}
use Rattle.nd_layout.specs.ValidLayoutsAndSteps.{IsStep}
use Rattle.nd_layout.proofs.steps.MergeStep.{merge_is_step, merged_fits}
use Rattle.nd_layout.proofs.steps.StepsKeepValidLayouts.{step_reaches}
use Rattle.nd_layout.proofs.layout.Layout.merge_axes.Goals as goal

pub merge-requires-clause-fits : goal.merge-requires-clause-fits
merge-requires-clause-fits g c =
    let can : CanMerge (g.D.Dimension.lengths c.args.self.now.dim) (g.T.StrideList.strides_of c.args.self.now.strides) c.args.take c.args.into = rw (← c.slice.ensures.lengths, ← c.slice-2.ensures) (c.can_merge.ensures.0 c.if-not-can_merge.false) in
    merged_fits (g.D.Dimension.lengths c.args.self.now.dim) (g.T.StrideList.strides_of c.args.self.now.strides) c.args.take c.args.into c.requires.take c.requires.into c.args.self.now.checked can

pub invariant_of-self-2 : goal.invariant_of-self-2
invariant_of-self-2 g c =
    let can : CanMerge (g.D.Dimension.lengths c.args.self.now.dim) (g.T.StrideList.strides_of c.args.self.now.strides) c.args.take c.args.into = rw (← c.slice.ensures.lengths, ← c.slice-2.ensures) (c.can_merge.ensures.0 c.if-not-can_merge.false) in
    let step : IsStep c.args.self.now.offset (g.D.Dimension.lengths c.args.self.now.dim) (g.T.StrideList.strides_of c.args.self.now.strides) c.args.self.now.offset (g.D.Dimension.lengths c.merge.new.dim) (g.T.StrideList.strides_of c.merge.new.strides) (merged_index (g.D.Dimension.lengths c.args.self.now.dim) c.args.take c.args.into) =
    rw (c.merge.ensures.lengths, c.merge.ensures.strides) (merge_is_step c.args.self.now.offset (g.D.Dimension.lengths c.args.self.now.dim) (g.T.StrideList.strides_of c.args.self.now.strides) c.args.take c.args.into c.args.self.now.as_many c.requires.take c.requires.into can) in
    record { as_many = step.as_many; spread = omega (arith, step.spread, c.args.self.now.spread); checked = step.checked c.args.self.now.checked; reach = step_reaches step c.args.self.now.reach }

pub returns-clause-step : goal.returns-clause-step
returns-clause-step g c _ =
    let can : CanMerge (g.D.Dimension.lengths c.args.self.now.dim) (g.T.StrideList.strides_of c.args.self.now.strides) c.args.take c.args.into = rw (← c.slice.ensures.lengths, ← c.slice-2.ensures) (c.can_merge.ensures.0 c.if-not-can_merge.false) in
    rw (c.merge.ensures.lengths, c.merge.ensures.strides) (merge_is_step c.args.self.now.offset (g.D.Dimension.lengths c.args.self.now.dim) (g.T.StrideList.strides_of c.args.self.now.strides) c.args.take c.args.into c.args.self.now.as_many c.requires.take c.requires.into can)

pub returns-clause-merges : goal.returns-clause-merges
returns-clause-merges g c = (λ _. rw (← c.slice.ensures.lengths, ← c.slice-2.ensures) (c.can_merge.ensures.0 c.if-not-can_merge.false), λ _. refl)

pub returns-then-not-can_merge-clause-merges : goal.returns-then-not-can_merge-clause-merges
returns-then-not-can_merge-clause-merges g c = (λ no. absurd (false≢true no), λ can. absurd (false≢true (sym c.if-not-can_merge.true ∙ c.can_merge.ensures.1 (rw (c.slice.ensures.lengths, c.slice-2.ensures) can))))
