use Rattle.std.proofs.Common.{◌≡◌, ◌<◌, ◌≤◌, ◌+◌, ◌^◌, ℕ, List, length, set, get_or, not, None, Some, refl, ap, sym, ⊎_elim, arith, rules}
use Rattle.std.proofs.lemmas.Bool.{cases_lt, lt-ltb, le-ltb, ne_eqb}
use Rattle.nd_array_core.specs.growth.ReservedAlongAxis.{added_elements}
use Rattle.nd_shape_and_slice.specs.ShapesAndIndexOrders.{nonzero_product, HasCheckedSize}
use Rattle.nd_array_core.specs.ArrayMeaning.{meaning_of, shape_of}
use Rattle.nd_steps.specs.declared.refusal_causes.Cause.TheVariants as causes
use Rattle.nd_steps.specs.StepTestsAndShapes.{first_failed}
use Rattle.nd_steps.specs.ReservedCapacity.{reserve_tests}
use Rattle.nd_steps.proofs.StepEquations.{same_meaning}
use Rattle.nd_steps.proofs.reserve.make_room.Goals as goal

module _ (axis n : ℕ) (ns : List ℕ) (on : axis < length ns) where
  can_grow : HasCheckedSize (set ns axis (get_or ns axis 0 + n)) → first_failed (reserve_tests axis n ns) ≡ None
  can_grow fits = rw (lt-ltb axis (length ns) on, lt-ltb (nonzero_product (set ns axis (get_or ns axis 0 + n))) (2 ^ 63) fits) refl

  cannot_grow : (HasCheckedSize (set ns axis (get_or ns axis 0 + n)) → ⊥) → first_failed (reserve_tests axis n ns) ≡ Some causes.Overflow
  cannot_grow too_large = rw (lt-ltb axis (length ns) on, le-ltb (nonzero_product (set ns axis (get_or ns axis 0 + n))) (2 ^ 63) (omega (arith, too_large))) refl

-- what isn't refused can grow
by_refusal : (ns : List ℕ) → ((HasCheckedSize ns → ⊥) → ⊥) → HasCheckedSize ns
by_refusal ns allowed = ⊎_elim (λ less. less) (λ (large : 2 ^ 63 ≤ nonzero_product ns). absurd (allowed (λ less. omega (arith, large, less)))) (cases_lt (nonzero_product ns) (2 ^ 63))

pub returns-in-Ok-clause-made : goal.returns-in-Ok-clause-made
returns-in-Ok-clause-made g c =
    let m = meaning_of c.args.array.now in
    let on : c.args.axis < length m.shape = search rules in
    (sym (can_grow c.args.axis c.args.additional m.shape on c.in-Ok.ensures.fits), same_meaning m (meaning_of c.reserve.new.self) c.reserve.ensures.whole.0 c.reserve.ensures.whole.2)

pub returns-in-Err-Shape-clause-made : goal.returns-in-Err-Shape-clause-made
returns-in-Err-Shape-clause-made g c =
    let m = meaning_of c.args.array.now in
    let on : c.args.axis < length m.shape = search rules in
    (sym (cannot_grow c.args.axis c.args.additional m.shape on (λ fits. (let e = c.in-Err-Shape.ensures.no_memory fits in absurd cc))), same_meaning m (meaning_of c.reserve.new.self) c.reserve.ensures.whole.0 c.reserve.ensures.whole.2)

pub returns-in-Err-NoMemory-clause-made : goal.returns-in-Err-NoMemory-clause-made
returns-in-Err-NoMemory-clause-made g c =
    let ns = shape_of c.args.array.now in
    let axis = c.args.axis in
    let n = c.args.additional in
    let on : axis < length ns = search rules in
    let fits = by_refusal (set ns axis (get_or ns axis 0 + n)) (λ unfit. (let e = c.in-Err-NoMemory.ensures.overflow unfit in absurd cc)) in
    let some : 0 < added_elements ns axis n = c.in-Err-NoMemory.ensures.refused fits in
    (can_grow axis n ns on fits, ap not (ne_eqb (added_elements ns axis n) 0 (λ none. omega (arith, some, none))))

pub returns-in-Err-NoMemory-clause-enough : goal.returns-in-Err-NoMemory-clause-enough
returns-in-Err-NoMemory-clause-enough g c =
    let ns = shape_of c.args.array.now in
    let axis = c.args.axis in
    let n = c.args.additional in
    let fits = by_refusal (set ns axis (get_or ns axis 0 + n)) (λ unfit. (let e = c.in-Err-NoMemory.ensures.overflow unfit in absurd cc)) in
    λ room. (let e = c.in-Err-NoMemory.ensures.enough fits room in absurd cc)
