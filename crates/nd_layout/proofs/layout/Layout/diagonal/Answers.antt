use Rattle.nd_layout.proofs.NamesFromOtherCrates.{[], ◌∷◌, arith, w64, to_z, of_z, diagonal_index, to_z-of_z}
use Rattle.nd_layout.specs.ValidLayoutsAndSteps.{IsStep}
use Rattle.nd_layout.proofs.steps.StepsKeepValidLayouts.{step_reaches}
use Rattle.nd_layout.proofs.steps.DiagonalStep.{diagonal_is_step}
use Rattle.nd_layout.proofs.layout.Layout.diagonal.Goals as goal

pub returns-clause-step : goal.returns-clause-step
returns-clause-step g c =
    rw (c.into_dimension.ensures, to_z-of_z w64 c.stride_of_diagonal-stride.result (record { sfits = c.stride_of_diagonal-stride.type_inv }), c.stride_of_diagonal-stride.ensures, c.len_of_diagonal-len.ensures, c.slice.ensures.lengths, c.slice-2.ensures.lengths, c.slice-3.ensures) (diagonal_is_step (g.D.Dimension.lengths c.args.self.now.dim) (g.T.StrideList.strides_of c.args.self.now.strides) c.args.self.now.as_many c.args.self.now.offset)

pub invariant_of-result : goal.invariant_of-result
invariant_of-result g c =
    let step : IsStep c.args.self.now.offset (g.D.Dimension.lengths c.args.self.now.dim) (g.T.StrideList.strides_of c.args.self.now.strides) c.args.self.now.offset c.into_dimension.result.lens (to_z w64 (of_z w64 c.stride_of_diagonal-stride.result) ∷ []) (diagonal_index (g.D.Dimension.lengths c.args.self.now.dim)) =
    rw (c.into_dimension.ensures, to_z-of_z w64 c.stride_of_diagonal-stride.result (record { sfits = c.stride_of_diagonal-stride.type_inv }), c.stride_of_diagonal-stride.ensures, c.len_of_diagonal-len.ensures, c.slice.ensures.lengths, c.slice-2.ensures.lengths, c.slice-3.ensures) (diagonal_is_step (g.D.Dimension.lengths c.args.self.now.dim) (g.T.StrideList.strides_of c.args.self.now.strides) c.args.self.now.as_many c.args.self.now.offset) in
    record { as_many = step.as_many; spread = omega (arith, step.spread, c.args.self.now.spread); checked = step.checked c.args.self.now.checked; reach = step_reaches step c.args.self.now.reach }
