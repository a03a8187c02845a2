use Rattle.nd_array_core.proofs.NamesFromOtherCrates.{◌≡◌, ℕ, Bool, ◌∙◌, subst, rules, if◌then◌else◌, names_either, region_stored, IsPartWhere}
use Rattle.nd_array_core.proofs.tasks.TwoBorrowedParts.{agrees_sound, either_same, either_first, either_second, first_left, second_left, neither_left}
use Rattle.nd_array_core.proofs.scoped.with_split_at.run_on_either.Goals as goal

pub with_either-answer-requires-clause-callable : goal.with_either-answer-requires-clause-callable
with_either-answer-requires-clause-callable g c x is_x =
    let r = c.args.region in
    let f1 = c.args.one.offset in
    let n1 = g.D.Dimension.lengths c.args.one.dim in
    let s1 = g.D.Strides.StrideList.strides_of c.args.one.strides in
    let f2 = c.args.two.offset in
    let n2 = g.E.Dimension.lengths c.args.two.dim in
    let s2 = g.E.Strides.StrideList.strides_of c.args.two.strides in
    let one = c.copied-first.ensures in
    let two = c.copied-second.ensures in
    let same = either_same one.offset (c.slice.ensures.lengths ∙ one.lengths) (c.slice-2.ensures ∙ one.strides) two.offset (c.slice-3.ensures.lengths ∙ two.lengths) (c.slice-4.ensures ∙ two.strides) in
    let part : IsPartWhere (names_either f1 n1 s1 f2 n2 s2) r x = subst (λ (h : ℕ → Bool). IsPartWhere h r x) same is_x in
    let at_one = either_first f1 n1 s1 f2 n2 s2 r x part in
    let at_two = either_second f1 n1 s1 f2 n2 s2 r x part in
    (agrees_sound (region_stored r) (region_stored x) f1 n1 s1 at_one c.requires.one, (agrees_sound (region_stored r) (region_stored x) f2 n2 s2 at_two c.requires.two, (c.requires.apart, λ m1 m2 a b. c.requires.callable m1 m2 (λ p h. a p h ∙ at_one p h) (λ p h. b p h ∙ at_two p h))))

pub returns : goal.returns
returns g c =
    let r = c.args.region in
    let f1 = c.args.one.offset in
    let n1 = g.D.Dimension.lengths c.args.one.dim in
    let s1 = g.D.Strides.StrideList.strides_of c.args.one.strides in
    let f2 = c.args.two.offset in
    let n2 = g.E.Dimension.lengths c.args.two.dim in
    let s2 = g.E.Strides.StrideList.strides_of c.args.two.strides in
    let one = c.copied-first.ensures in
    let two = c.copied-second.ensures in
    let same = either_same one.offset (c.slice.ensures.lengths ∙ one.lengths) (c.slice-2.ensures ∙ one.strides) two.offset (c.slice-3.ensures.lengths ∙ two.lengths) (c.slice-4.ensures ∙ two.strides) in
    let e = c.with_either-answer.ensures.part in
    let new = region_stored c.with_either-answer.new.self in
    record {
      borrow = search rules;
      done = let x = e.0 in
          let part : IsPartWhere (names_either f1 n1 s1 f2 n2 s2) r x = subst (λ (h : ℕ → Bool). IsPartWhere h r x) same e.2 in
          let at_one = either_first f1 n1 s1 f2 n2 s2 r x part in
          let at_two = either_second f1 n1 s1 f2 n2 s2 r x part in
          let left = subst (λ (h : ℕ → Bool). (p : ℕ) → new p ≡ if h p then region_stored e.1 p else region_stored r p) same e.4 in
          let done = e.3.1.1 in (
            done.0,
            done.1,
            done.2,
            done.3,
            λ p h. done.4 p h ∙ at_one p h,
            λ p h. done.5 p h ∙ at_two p h,
            done.6,
            first_left f1 n1 s1 f2 n2 s2 (region_stored r) (region_stored e.1) new left done.2 done.7,
            second_left f1 n1 s1 f2 n2 s2 (region_stored r) (region_stored e.1) new left done.3 done.8,
          );
      kept = neither_left f1 n1 s1 f2 n2 s2 (region_stored r) (region_stored e.1) new (subst (λ (h : ℕ → Bool). (p : ℕ) → new p ≡ if h p then region_stored e.1 p else region_stored r p) same e.4);
    }
