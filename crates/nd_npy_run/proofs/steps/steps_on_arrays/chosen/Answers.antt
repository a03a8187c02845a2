use Rattle.nd_array_core.specs.ArrayMeaning.{meaning_of}
use Rattle.nd_npy_run.proofs.SingleStepResults.{chosen_ok, chosen_err, chosen_lacks, choice_axis, choice_by, choice_listed, choice_checked}
use Rattle.nd_npy_run.proofs.steps.steps_on_arrays.chosen.Goals as goal

pub select-requires-clause-axis : goal.select-requires-clause-axis
select-requires-clause-axis g c =
    let m = meaning_of c.args.array.now in
    let known = choice_by c.args.axis c.args.indexes.now m _ c.raw_dim.ensures c.in-Ok.ensures in
    choice_axis c.args.axis c.args.indexes.now m known

pub select-requires-clause-coordinates : goal.select-requires-clause-coordinates
select-requires-clause-coordinates g c =
    let m = meaning_of c.args.array.now in
    let known = choice_by c.args.axis c.args.indexes.now m _ c.raw_dim.ensures c.in-Ok.ensures in
    choice_listed c.args.axis c.args.indexes.now m known

pub select-requires-clause-checked : goal.select-requires-clause-checked
select-requires-clause-checked g c =
    let m = meaning_of c.args.array.now in
    let known = choice_by c.args.axis c.args.indexes.now m _ c.raw_dim.ensures c.in-Ok.ensures in
    choice_checked c.args.axis c.args.indexes.now m known

pub returns-in-Ok-select : goal.returns-in-Ok-select
returns-in-Ok-select g c =
    let m = meaning_of c.args.array.now in
    let known = choice_by c.args.axis c.args.indexes.now m _ c.raw_dim.ensures c.in-Ok.ensures in
    chosen_ok c.args.axis c.args.indexes.now m (meaning_of c.in-Ok-select.selected) known c.in-Ok-select.ensures.shape c.in-Ok-select.ensures.elements

pub returns-in-Err-select : goal.returns-in-Err-select
returns-in-Err-select g c =
    let m = meaning_of c.args.array.now in
    let known = choice_by c.args.axis c.args.indexes.now m _ c.raw_dim.ensures c.in-Ok.ensures in
    chosen_lacks c.args.axis c.args.indexes.now m known c.in-Err-select.ensures.refused

pub returns-in-Err : goal.returns-in-Err
returns-in-Err g c =
    let m = meaning_of c.args.array.now in
    let known = choice_by c.args.axis c.args.indexes.now m _ c.raw_dim.ensures c.in-Err.ensures in
    rw c.refused_for.ensures (chosen_err c.args.axis c.args.indexes.now m c.args.number c.in-Err.cause known)
