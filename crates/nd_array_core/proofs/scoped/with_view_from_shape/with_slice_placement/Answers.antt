use Rattle.nd_array_core.proofs.NamesFromOtherCrates.{◌≡◌, ℕ, sym, subst, slice_get, region_stored, HoldsEach, with_named, IsNamedPart}
use Rattle.nd_array_core.specs.scoped.ViewTasks.{IsNamedMap}
use Rattle.nd_array_core.proofs.tasks.ClosureOnView.{part_sound}
use Rattle.nd_array_core.proofs.scoped.with_view_from_shape.with_slice_placement.Goals as goal

pub part_of_slice-requires-clause-callable : goal.part_of_slice-requires-clause-callable
part_of_slice-requires-clause-callable g c x part =
    let offset = c.args.layout.offset in
    let ns = g.D.Dimension.lengths c.args.layout.dim in
    let ss = g.D.Strides.StrideList.strides_of c.args.layout.strides in
    let m = slice_get c.args.slice.now in
    let named : IsNamedMap m offset ns ss (region_stored x) = subst (λ p. IsNamedPart m p.offset p.lengths p.strides x) c.places.ensures part in
    rw (c.copied-lent.ensures.offset, c.copied-lent.ensures.lengths, c.copied-lent.ensures.strides) (part_sound m offset ns ss (region_stored x) named c.requires.sound, c.requires.callable (region_stored x) named)

pub part_of_slice-requires-clause-holds : goal.part_of_slice-requires-clause-holds
part_of_slice-requires-clause-holds g c = subst (HoldsEach (slice_get c.args.slice.now)) (sym c.places.ensures) c.requires.sound.holds

pub returns-clause-done : goal.returns-clause-done
returns-clause-done g c =
    let m = slice_get c.args.slice.now in
    let new = slice_get c.part_of_slice.new.items in
    let e = c.part_of_slice.ensures.part in
    let named = subst (λ l. IsNamedPart m l.offset l.lengths l.strides e.0) c.places.ensures e.2 in
    let left = subst (λ l. (k : ℕ) → new k ≡ with_named m l.offset l.lengths l.strides (region_stored e.1) k) c.places.ensures e.4 in
    (region_stored e.0, region_stored e.1, named, rw (c.copied-lent.ensures.offset, c.copied-lent.ensures.lengths, c.copied-lent.ensures.strides) at e.3.1.1, left)
