use Rattle.std.proofs.Common.{◌≤◌, length, map, arith}
use Rattle.std.proofs.lemmas.List.{length-map}
use Rattle.nd_array_core.specs.ArrayMeaning.{meaning_of}
use Rattle.nd_npy_run.specs.ViewSelectAndReshapeSteps.{asked_npy_step}
use Rattle.nd_steps.proofs.StepEquations.{same_meaning}
use Rattle.nd_npy_run.proofs.FilesOfItemBytes.{array_fails, clone_same, refused_taking, rest_comes, some_items}
use Rattle.nd_npy_run.proofs.output_or_fault.turned_by_copies.Goals as goal

pub returns-in-Err : goal.returns-in-Err
returns-in-Err g c = array_fails c.args.wanted (map asked_npy_step c.args.steps.now) c.args.bytes.now c.args.item_type c.in-Err.fault c.in-Err.ensures

pub returns-in-Err-Refused : goal.returns-in-Err-Refused
returns-in-Err-Refused g c =
    rw c.in-Err-Refused.field-0-is (refused_taking (map asked_npy_step c.args.steps.now) c.args.bytes.now c.args.item_type (meaning_of c.in-Ok.array) c.in-Ok.ensures c.copying_steps-done.result c.in-Err-Refused.field-0 c.in-Err-Refused.refusal c.in-Err-Refused.field-0-is c.in-Err-Refused.ensures)

pub returns-in-Err-Memory : goal.returns-in-Err-Memory
returns-in-Err-Memory g c = some_items _ _ _ c.requires

pub returns-in-Ok-take_steps : goal.returns-in-Ok-take_steps
returns-in-Ok-take_steps g c =
    let steps = map asked_npy_step c.args.steps.now in
    let few : c.copying_steps-done.result ≤ length steps = omega (arith, c.copying_steps-done.ensures.few, length-map c.args.steps.now asked_npy_step) in
    let same = same_meaning (meaning_of c.in-Ok-take_steps.array) (meaning_of c.view.result) c.view.ensures.whole.0 c.view.ensures.whole.2 in
    rest_comes steps c.args.bytes.now c.args.item_type (meaning_of c.in-Ok.array) c.in-Ok.ensures c.args.wanted c.copying_steps-done.result _ _ _ few c.in-Ok-take_steps.ensures same c.wanted_after.ensures

pub take_steps-requires-clause-clones : goal.take_steps-requires-clause-clones
take_steps-requires-clause-clones g c = λ x copy clone. clone_same _ (λ x y same. same) x copy clone.whole
