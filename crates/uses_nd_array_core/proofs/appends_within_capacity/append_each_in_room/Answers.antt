use Rattle.std.specs.Prelude.{ℕ, List}
use Rattle.std.proofs.Common.{subst}
use Rattle.nd_array_core.specs.declared.base.array_error.ArrayError.{ArrayError}
use Rattle.nd_array_core.specs.ArrayMeaning.{Meaning}
use Rattle.nd_array_core.specs.growth.AppendEach.{meanings_of, IsNotForMemoryInTurn, LacksMemory}
use Rattle.uses_nd_array_core.specs.ClonesNeverRefused.{AreAllCloned}
use Rattle.uses_nd_array_core.proofs.appends_within_capacity.append_each_in_room.Goals as goal

never_refused : {A : Type 0} (is_infallible : A → Type 0) (ms : List (Meaning A)) (e : ℕ × ArrayError) → LacksMemory e → IsNotForMemoryInTurn is_infallible ms e.0 e.1 → AreAllCloned is_infallible ms → ⊥
never_refused is_infallible ms e lacks memory cloned =
    let refused = subst (IsNotForMemoryInTurn is_infallible ms e.0) lacks memory in
    refused.2.3 (cloned e.0 refused.0 refused.1 refused.2.0 refused.2.1 refused.2.2)

pub unreachable-requires : goal.unreachable-requires
unreachable-requires g c = never_refused g.A.Clone.is_infallible (meanings_of c.args.arrays.now) c.in-Err.field-0 (c.in-Err.ensures.fitting c.requires.fits) (c.in-Err.ensures.enough c.requires.ready) c.requires.cloned

pub returns-clause-goes_on : goal.returns-clause-goes_on
returns-clause-goes_on g c = c.append_each.ensures.goes_on c.requires.ready.0
