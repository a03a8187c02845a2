use Rattle.nd_array_core.proofs.NamesFromOtherCrates.{ℕ, Bool, ap, sym, ◌∙◌, subst, names, names_not, region_stored, IsPartWhere, named_once}
use Rattle.nd_array_core.proofs.tasks.TwoBorrowedParts.{agrees_sound, part_agrees, rest_agrees, first_back, second_back}
use Rattle.nd_array_core.proofs.scoped.with_split_at.run_on_split.Goals as goal

pub split_with-answer-requires-clause-callable : goal.split_with-answer-requires-clause-callable
split_with-answer-requires-clause-callable g c x y is_x is_y =
    let r = c.args.region in
    let offset = c.args.one.offset in
    let ns = g.D.Dimension.lengths c.args.one.dim in
    let ss = g.D.Strides.StrideList.strides_of c.args.one.strides in
    let offset' = c.args.two.offset in
    let ns' = g.E.Dimension.lengths c.args.two.dim in
    let ss' = g.E.Strides.StrideList.strides_of c.args.two.strides in
    let part : IsPartWhere (names offset ns ss) r x = subst (λ (g : ℕ → Bool). IsPartWhere g r x) (λ k. names offset (c.slice.ensures.lengths k) (c.slice-2.ensures k)) is_x in
    let rest : IsPartWhere (names_not offset ns ss) r y = subst (λ (g : ℕ → Bool). IsPartWhere g r y) (λ k. names_not offset (c.slice.ensures.lengths k) (c.slice-2.ensures k)) is_y in
    let one = part_agrees offset ns ss r x part in
    let two = rest_agrees offset ns ss r y offset' ns' ss' c.requires.apart rest in
    rw (c.copied-lent.ensures.offset, c.copied-lent.ensures.lengths, c.copied-lent.ensures.strides)
    (agrees_sound (region_stored r) (region_stored x) offset ns ss one c.requires.one, (agrees_sound (region_stored r) (region_stored y) offset' ns' ss' two c.requires.two, c.requires.callable (region_stored x) (region_stored y) one two))

pub returns-clause-done : goal.returns-clause-done
returns-clause-done g c =
    let r = c.args.region in
    let offset = c.args.one.offset in
    let ns = g.D.Dimension.lengths c.args.one.dim in
    let ss = g.D.Strides.StrideList.strides_of c.args.one.strides in
    let offset' = c.args.two.offset in
    let ns' = g.E.Dimension.lengths c.args.two.dim in
    let ss' = g.E.Strides.StrideList.strides_of c.args.two.strides in
    let e = c.split_with-answer.ensures in
    let x = e.0 in
    let y = e.1 in
    let s = e.2 in
    let t = e.3 in
    let part : IsPartWhere (names offset ns ss) r x = subst (λ (g : ℕ → Bool). IsPartWhere g r x) (λ k. names offset (c.slice.ensures.lengths k) (c.slice-2.ensures k)) e.4 in
    let rest : IsPartWhere (names_not offset ns ss) r y = subst (λ (g : ℕ → Bool). IsPartWhere g r y) (λ k. names_not offset (c.slice.ensures.lengths k) (c.slice-2.ensures k)) e.5 in
    let post = e.6.2 in
    let g' = names offset ns ss in (
      region_stored x,
      region_stored y,
      region_stored s,
      region_stored t,
      part_agrees offset ns ss r x part,
      rest_agrees offset ns ss r y offset' ns' ss' c.requires.apart rest,
      (rw (c.copied-lent.ensures.offset, c.copied-lent.ensures.lengths, c.copied-lent.ensures.strides) at post.1.1),
      λ p named. first_back g' r x y s t part rest post.0 post.1.0 e.8 e.9 p named ∙ ap (λ q. region_stored q p) (sym e.7),
      λ p named. second_back g' r x y s t part rest post.0 post.1.0 e.8 e.9 p (named_once offset ns ss offset' ns' ss' c.requires.apart p named) ∙ ap (λ q. region_stored q p) (sym e.7),
    )
