use Rattle.std.specs.Prelude.{ℕ, List, Option}
use Rattle.nd_array_core.specs.ShapesAndIndexOrders.{HasCheckedSize}
use Rattle.nd_array_core.specs.Prelude.{ErrorKind}
use Rattle.nd_array_core.specs.declared.base.array_error.ArrayError.{ArrayError}
use Rattle.nd_array_core.specs.declared.base.array_error.ArrayError.TheVariants.{Shape, NoMemory}
use Rattle.nd_array_core.specs.ConcatenationAndSplit.{concatenated_shape}
use Rattle.nd_array_core.specs.ArrayMeaning.{meaning_of}
use Rattle.nd_array_core.specs.growth.Append.{FitsAfter, IsAppendRefused, IsJoiningRefused, NotFitting, TooLarge}
use Rattle.nd_array_core.specs.growth.StorageOfAppend.{IsNotForMemory}
use Rattle.uses_nd_array_core.specs.ClonesNeverRefused.{AreAlwaysCloned}
use Rattle.uses_nd_array_core.proofs.appends_within_capacity.append_in_room.Goals as goal

no_kind : (ns ms : List ℕ) (a : ℕ) (kind : ErrorKind) → IsJoiningRefused ns ms a kind → FitsAfter ns ms a → HasCheckedSize (concatenated_shape ns ms a) → ⊥
no_kind ns ms a kind (NotFitting other) fits checked = other fits
no_kind ns ms a kind (TooLarge there large) fits checked = large checked

never_refused : {A : Type 0} (is_infallible : A → Type 0) (at : List ℕ → Option A) (ns ms : List ℕ) (a : ℕ) (e : ArrayError) → IsAppendRefused ns ms a e → IsNotForMemory is_infallible at e → FitsAfter ns ms a → HasCheckedSize (concatenated_shape ns ms a) → AreAlwaysCloned is_infallible at → ⊥
never_refused is_infallible at ns ms a (Shape kind) refused memory fits checked cloned = no_kind ns ms a kind refused fits checked
never_refused is_infallible at ns ms a NoMemory refused memory fits checked cloned = memory.3 (cloned memory.0 memory.1 memory.2)

pub unreachable-requires : goal.unreachable-requires
unreachable-requires g c =
    let array = meaning_of c.args.array.now in
    let more = meaning_of c.args.more in
    never_refused g.A.Clone.is_infallible more.at array.shape more.shape c.args.axis.0 c.in-Err.field-0 c.in-Err.ensures.refused (c.in-Err.ensures.enough c.requires.ready) c.requires.fits c.requires.checked c.requires.cloned

pub returns-clause-goes_on : goal.returns-clause-goes_on
returns-clause-goes_on g c = c.in-Ok.ensures.goes_on c.requires.ready.0
