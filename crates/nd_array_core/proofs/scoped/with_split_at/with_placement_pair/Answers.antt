use Rattle.nd_array_core.proofs.NamesFromOtherCrates.{◌≡◌, ℕ, sym, subst, ◌∙◌, rules, region_stored, HoldsEach, with_named, IsNamedPart}
use Rattle.nd_array_core.specs.scoped.ViewTasks.{IsNamedMap}
use Rattle.nd_array_core.proofs.tasks.TwoBorrowedParts.{agrees_sound}
use Rattle.nd_array_core.proofs.tasks.StorageAfterTwoViews.{within_agrees, within_left, unnamed_left, named_left}
use Rattle.nd_array_core.proofs.scoped.with_split_at.with_placement_pair.Goals as goal

pub with_part-requires-clause-callable : goal.with_part-requires-clause-callable
with_part-requires-clause-callable g c x is_x =
    let m = g.S.Data.stored c.args.storage.now in
    let offset = c.args.whole.now.offset in
    let ns = g.W.Dimension.lengths c.args.whole.now.dim in
    let ss = g.W.Strides.StrideList.strides_of c.args.whole.now.strides in
    let f1 = c.args.one.offset in
    let n1 = g.D.Dimension.lengths c.args.one.dim in
    let s1 = g.D.Strides.StrideList.strides_of c.args.one.strides in
    let f2 = c.args.two.offset in
    let n2 = g.E.Dimension.lengths c.args.two.dim in
    let s2 = g.E.Strides.StrideList.strides_of c.args.two.strides in
    let named : IsNamedMap m offset ns ss (region_stored x) = subst (λ p. IsNamedPart m p.offset p.lengths p.strides x) c.places.ensures is_x in
    let one = within_agrees m offset ns ss f1 n1 s1 c.requires.one_within (region_stored x) named in
    let two = within_agrees m offset ns ss f2 n2 s2 c.requires.two_within (region_stored x) named in (
      agrees_sound m (region_stored x) f1 n1 s1 one c.requires.one,
      (agrees_sound m (region_stored x) f2 n2 s2 two c.requires.two, (c.requires.apart, λ m1 m2 a b. c.requires.callable m1 m2 (λ p h. a p h ∙ one p h) (λ p h. b p h ∙ two p h))),
    )

pub with_part-requires-clause-holds : goal.with_part-requires-clause-holds
with_part-requires-clause-holds g c = subst (HoldsEach (g.S.Data.stored c.args.storage.now)) (sym c.places.ensures) c.requires.whole

pub returns : goal.returns
returns g c =
    let m = g.S.Data.stored c.args.storage.now in
    let offset = c.args.whole.now.offset in
    let ns = g.W.Dimension.lengths c.args.whole.now.dim in
    let ss = g.W.Strides.StrideList.strides_of c.args.whole.now.strides in
    let e = c.with_part.ensures.part in
    let left = subst (λ l. (k : ℕ) → g.S.Data.stored c.with_part.new.self k ≡ with_named m l.offset l.lengths l.strides (region_stored e.1) k) c.places.ensures e.4 in
    let named = subst (λ l. IsNamedPart m l.offset l.lengths l.strides e.0) c.places.ensures e.2 in
    record {
      there = search rules;
      frame = search rules;
      others = λ p unnamed. unnamed_left m (g.S.Data.stored c.with_part.new.self) (region_stored e.1) offset ns ss left p unnamed;
      kept = λ p one two. named_left m (g.S.Data.stored c.with_part.new.self) (region_stored e.0) (region_stored e.1) offset ns ss named left p (e.3.1.1.1 p one two);
      done = let f1 = c.args.one.offset in
          let n1 = g.D.Dimension.lengths c.args.one.dim in
          let s1 = g.D.Strides.StrideList.strides_of c.args.one.strides in
          let f2 = c.args.two.offset in
          let n2 = g.E.Dimension.lengths c.args.two.dim in
          let s2 = g.E.Strides.StrideList.strides_of c.args.two.strides in
          let new = g.S.Data.stored c.with_part.new.self in
          let x = e.0 in
          let s = e.1 in
          let done = e.3.1.1.0 in
          let one = within_agrees m offset ns ss f1 n1 s1 c.requires.one_within (region_stored x) named in
          let two = within_agrees m offset ns ss f2 n2 s2 c.requires.two_within (region_stored x) named in (
            done.0,
            done.1,
            done.2,
            done.3,
            λ p h. done.4 p h ∙ one p h,
            λ p h. done.5 p h ∙ two p h,
            done.6,
            within_left m offset ns ss f1 n1 s1 c.requires.one_within new (region_stored s) done.2 left done.7,
            within_left m offset ns ss f2 n2 s2 c.requires.two_within new (region_stored s) done.3 left done.8,
          );
    }
