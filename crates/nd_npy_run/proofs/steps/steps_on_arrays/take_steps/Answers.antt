use Rattle.std.proofs.Common.{◌<◌, length, refl, arith}
use Rattle.nd_array_core.specs.ArrayMeaning.{meaning_of}
use Rattle.nd_npy_run.proofs.StepListsJoined.{taken_fails, taken_next}
use Rattle.nd_npy_run.proofs.steps.steps_on_arrays.take_steps.Goals as goal

pub loop-nth-init : goal.loop-nth-init
loop-nth-init g c = refl

pub loop-nth-preserved : goal.loop-nth-preserved
loop-nth-preserved g c =
    let inside : c.loop-nth.nth < length c.args.steps.now = omega (arith, c.loop-nth-test.true, c.requires.few) in
    taken_next c.args.steps.now c.loop-nth.nth (meaning_of c.args.array) (meaning_of c.loop-nth.array) c.loop-nth.invariant c.index-steps-nth.result (meaning_of c.in-Ok.next) c.index-steps-nth.is inside c.in-Ok.ensures

pub returns-in-Err : goal.returns-in-Err
returns-in-Err g c =
    let inside : c.loop-nth.nth < length c.args.steps.now = omega (arith, c.loop-nth-test.true, c.requires.few) in
    taken_fails c.args.steps.now c.loop-nth.nth (meaning_of c.args.array) (meaning_of c.loop-nth.array) c.loop-nth.invariant c.index-steps-nth.result c.args.count c.in-Err.error c.index-steps-nth.is inside
    (c.requires.copies (omega (arith, c.loop-nth-test.true))) c.in-Err.ensures
