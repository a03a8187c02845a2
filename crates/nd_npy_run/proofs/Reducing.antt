-- What comes of an array that is to be reduced.
use Rattle.std.proofs.Common.{◌≡◌, ℕ, List, Result, Ok, Err, ap}
use Rattle.std.specs.Result.{result_ok}
use Rattle.nd_npy_text.specs.declared.item_type.ItemType.{ItemType}
use Rattle.nd_npy_run.specs.declared.output_or_fault.Fault.{Fault}
use Rattle.nd_npy_run.specs.declared.output_or_fault.Fault.TheVariants.{BadStep, BadHead, WrongSize, Refused, NoText, NotReduced, Memory, ReadFailed}
use Rattle.nd_npy_run.specs.declared.reduction.Reduction.{Reduction}
use Rattle.nd_npy_run.specs.declared.wanted_outputs.Wanted.{Wanted}
use Rattle.nd_npy_run.specs.declared.wanted_outputs.Wanted.TheVariants.{Reduced}
use Rattle.nd_npy_run.specs.Reductions.{reduced_file}
use Rattle.nd_npy_run.specs.FilesAfterSteps.{Items}
use Rattle.nd_npy_run.specs.OutputAndStatus.{ComesOfArray, ComesOfReduced}

pub reduced_comes : (wanted : Wanted) (reduction : Reduction) (axis : ℕ) (t : ItemType) (m : Items) (made : Result (List ℕ) Fault) → wanted ≡ Reduced reduction axis → ComesOfReduced (reduced_file reduction axis t m) made → ComesOfArray wanted t m made
reduced_comes wanted reduction axis t m (Ok file) is comes = rw is (ap result_ok comes)
reduced_comes wanted reduction axis t m (Err (BadStep number word)) is comes = absurd comes
reduced_comes wanted reduction axis t m (Err (BadHead error)) is comes = absurd comes
reduced_comes wanted reduction axis t m (Err (WrongSize expected found)) is comes = absurd comes
reduced_comes wanted reduction axis t m (Err (Refused refusal)) is comes = absurd comes
reduced_comes wanted reduction axis t m (Err (NoText kind)) is comes = absurd comes
reduced_comes wanted reduction axis t m (Err (NotReduced error)) is comes = (reduction, axis, is, comes)
reduced_comes wanted reduction axis t m (Err Memory) is comes = tt
reduced_comes wanted reduction axis t m (Err ReadFailed) is comes = absurd comes
