use Rattle.std.proofs.Common.{◌≡◌, None, map, ap, sym, subst, ◌∙◌}
use Rattle.std.specs.Prelude.{nat_le}
use Rattle.nd_array_core.specs.ArrayMeaning.{meaning_of}
use Rattle.nd_array_core.specs.growth.AppendEach.{meanings_of}
use Rattle.nd_stacking.specs.ConcatenateAndStack.{stack_refusal, MayHaveAnotherAxis, IsStack, Tells}
use Rattle.nd_run.proofs.JoinedArrays.{clones_of_each, not_refused, may_have_another_axis, stack_allowed}
use Rattle.nd_run.proofs.concatenate_and_stack.stacked.Goals as goal

pub stack-requires-clause-axes_fit : goal.stack-requires-clause-axes_fit
stack-requires-clause-axes_fit g c =
    let are = ap (λ vs. meanings_of vs) c.as_slice.ensures.value ∙ c.in-Ok.ensures {u = tt} in
    let others = map g.T.HoldsArray.held c.args.others.now in
    let m = meaning_of c.args.array.now in
    subst (MayHaveAnotherAxis (λ n. nat_le n 32)) (sym are) (may_have_another_axis m others (stack_allowed c.args.axis m others c.requires.fits).1)

pub stack-requires-clause-clones : goal.stack-requires-clause-clones
stack-requires-clause-clones g c = clones_of_each g.A.Clone.is_clone (meanings_of c.as_slice.result.now) c.requires.clones

pub unreachable-requires : goal.unreachable-requires
unreachable-requires g c =
    let axis = c.args.axis in
    let ms = meanings_of c.as_slice.result.now in
    let are = ap (λ vs. meanings_of vs) c.as_slice.ensures.value ∙ c.in-Ok.ensures {u = tt} in
    let none : stack_refusal axis ms ≡ None = ap (stack_refusal axis) are ∙ (stack_allowed axis (meaning_of c.args.array.now) (map g.T.HoldsArray.held c.args.others.now) c.requires.fits).0 in
    not_refused (stack_refusal axis ms) c.in-Err-Shape.field-0-0 none (subst (Tells (stack_refusal axis ms)) c.in-Err-Shape.field-0-is (c.in-Err-Shape.ensures {u = tt}).refused)

pub returns-in-Ok-stack : goal.returns-in-Ok-stack
returns-in-Ok-stack g c =
    let are = ap (λ vs. meanings_of vs) c.as_slice.ensures.value ∙ c.in-Ok.ensures {u = tt} in
    subst (λ ms. IsStack c.args.axis ms (meaning_of c.in-Ok-stack.all)) are (c.in-Ok-stack.ensures {u = tt}).stacked
