use Rattle.std.proofs.Common.{map, refl, arith}
use Rattle.nd_array_core.specs.ArrayMeaning.{meaning_of}
use Rattle.nd_npy_run.specs.ViewSelectAndReshapeSteps.{asked_npy_step}
use Rattle.nd_npy_run.proofs.FilesOfItemBytes.{array_fails, rest_comes}
use Rattle.nd_npy_run.proofs.output_or_fault.turned_by_views.Goals as goal

pub returns-in-Ok : goal.returns-in-Ok
returns-in-Ok g c = rest_comes (map asked_npy_step c.args.steps.now) c.args.bytes.now c.args.item_type (meaning_of c.in-Ok.view) c.in-Ok.ensures c.args.wanted 0 _ _ _ (omega arith) refl refl c.wanted_after.ensures

pub returns-in-Err : goal.returns-in-Err
returns-in-Err g c = array_fails c.args.wanted (map asked_npy_step c.args.steps.now) c.args.bytes.now c.args.item_type c.in-Err.fault c.in-Err.ensures
