use Rattle.std.proofs.Common.{take, ap, ◌∙◌}
use Rattle.nd_array_core.specs.ArrayMeaning.{meaning_of}
use Rattle.nd_stacking.proofs.ConcatenationByRuns.{run_elements}
use Rattle.nd_stacking.proofs.concatenate_by_runs.run_of.Goals as goal

pub returns-clause-elements : goal.returns-clause-elements
returns-clause-elements g c =
    run_elements (meaning_of c.args.array.now) (c.elements_by_rank.ensures.count, c.elements_by_rank.ensures.each) c.in-Some.all.now c.split_at-in-Some.result.0.now _ _ (c.in-Some.ensures {u = tt}).elements
    (c.split_at-in-Some.ensures.front ∙ ap (take _) c.split_at.ensures.back)
