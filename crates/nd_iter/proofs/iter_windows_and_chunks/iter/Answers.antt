use Rattle.nd_iter.proofs.CallsOnTheListLeft.{refs_run, refs_run_back}
use Rattle.nd_iter.proofs.iter_windows_and_chunks.iter.Goals as goal

pub returns-clause-runs : goal.returns-clause-runs
returns-clause-runs g c = refs_run

pub returns-clause-runs_back : goal.returns-clause-runs_back
returns-clause-runs_back g c = refs_run_back
