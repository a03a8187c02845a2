use Rattle.nd_array_core.proofs.NamesFromOtherCrates.{◌≡◌, ℕ, sym, subst, rules, region_stored, HoldsEach, with_named, IsNamedPart}
use Rattle.nd_array_core.specs.scoped.ViewTasks.{IsNamedMap}
use Rattle.nd_array_core.proofs.tasks.ClosureOnView.{part_sound}
use Rattle.nd_array_core.proofs.tasks.StorageAfterTwoViews.{unnamed_left}
use Rattle.nd_array_core.proofs.scoped.with_view_mut.with_placement.Goals as goal

pub with_part-requires-clause-callable : goal.with_part-requires-clause-callable
with_part-requires-clause-callable g c x part =
    let layout = c.args.layout.now in
    let ns = g.D.Dimension.lengths layout.dim in
    let ss = g.D.Strides.StrideList.strides_of layout.strides in
    let m = g.S.Data.stored c.args.storage.now in
    let named : IsNamedMap m layout.offset ns ss (region_stored x) = subst (λ p. IsNamedPart m p.offset p.lengths p.strides x) c.places.ensures part in
    rw (c.copied-lent.ensures.offset, c.copied-lent.ensures.lengths, c.copied-lent.ensures.strides) (part_sound m layout.offset ns ss (region_stored x) named c.requires.sound, c.requires.callable (region_stored x) named)

pub with_part-requires-clause-holds : goal.with_part-requires-clause-holds
with_part-requires-clause-holds g c = subst (HoldsEach (g.S.Data.stored c.args.storage.now)) (sym c.places.ensures) c.requires.sound.holds

pub returns : goal.returns
returns g c =
    let layout = c.args.layout.now in
    let m = g.S.Data.stored c.args.storage.now in
    let new = g.S.Data.stored c.with_part.new.self in
    let e = c.with_part.ensures.part in
    let left = subst (λ l. (k : ℕ) → new k ≡ with_named m l.offset l.lengths l.strides (region_stored e.1) k) c.places.ensures e.4 in
    record {
      there = search rules;
      frame = search rules;
      done = let named = subst (λ l. IsNamedPart m l.offset l.lengths l.strides e.0) c.places.ensures e.2 in
          (region_stored e.0, region_stored e.1, named, rw (c.copied-lent.ensures.offset, c.copied-lent.ensures.lengths, c.copied-lent.ensures.strides) at e.3.1.1, left);
      kept = λ p unnamed. unnamed_left m new (region_stored e.1) layout.offset (g.D.Dimension.lengths layout.dim) (g.D.Strides.StrideList.strides_of layout.strides) left p unnamed;
    }
