use Rattle.std.proofs.Common.{◌≡◌, None, map, ap, subst, ◌∙◌}
use Rattle.nd_array_core.specs.ArrayMeaning.{meaning_of}
use Rattle.nd_array_core.specs.growth.AppendEach.{meanings_of}
use Rattle.nd_stacking.specs.ConcatenateAndStack.{concatenation_refusal, IsConcatenation, Tells}
use Rattle.nd_run.proofs.JoinedArrays.{clones_of_each, concatenate_allowed, not_refused}
use Rattle.nd_run.proofs.concatenate_and_stack.concatenated.Goals as goal

pub concatenate-requires : goal.concatenate-requires
concatenate-requires g c = record { clones = clones_of_each g.A.Clone.is_clone (meanings_of c.as_slice.result.now) c.requires.clones }

pub unreachable-requires : goal.unreachable-requires
unreachable-requires g c =
    let axis = c.args.axis in
    let ms = meanings_of c.as_slice.result.now in
    let are = ap (λ vs. meanings_of vs) c.as_slice.ensures.value ∙ c.in-Ok.ensures {u = tt} in
    let none : concatenation_refusal axis ms ≡ None = ap (concatenation_refusal axis) are ∙ concatenate_allowed axis (meaning_of c.args.array.now) (map g.T.HoldsArray.held c.args.others.now) c.requires.fits in
    not_refused (concatenation_refusal axis ms) c.in-Err-Shape.field-0-0 none (subst (Tells (concatenation_refusal axis ms)) c.in-Err-Shape.field-0-is (c.in-Err-Shape.ensures {u = tt}).refused)

pub returns-in-Ok-concatenate : goal.returns-in-Ok-concatenate
returns-in-Ok-concatenate g c =
    let are = ap (λ vs. meanings_of vs) c.as_slice.ensures.value ∙ c.in-Ok.ensures {u = tt} in
    subst (λ ms. IsConcatenation c.args.axis ms (meaning_of c.in-Ok-concatenate.all)) are (c.in-Ok-concatenate.ensures {u = tt}).joined
