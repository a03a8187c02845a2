use Rattle.nd_array_core.proofs.NamesFromOtherCrates.{◌≡◌, ◌∙◌, ℕ, ◌+◌, ◌<◌, ◌≤◌, ap, arith, leb, length, pos, refl, subst, sym, true, le-leb, true≢false, length-insert, insert, inserted_index, inserted_shape, size_of, inside}
use Rattle.nd_array_core.specs.ArrayMeaning.{shape_of}
use Rattle.nd_array_core.proofs.growth.push.with_axis.Goals as goal

one_more : (n : ℕ) → n < 32 → leb (n + 1) 32 ≡ true
one_more n below = le-leb (n + 1) 32 (omega (arith, below))

pub insert_axis-requires-clause-place : goal.insert_axis-requires-clause-place
insert_axis-requires-clause-place g c = subst (λ ns. c.args.axis.0 ≤ length ns) (sym c.into_dyn.ensures.whole.0.0) c.requires.place

pub insert_axis-requires-clause-axes_fit : goal.insert_axis-requires-clause-axes_fit
insert_axis-requires-clause-axes_fit g c = ap (λ ns. leb (length ns + 1) 32) c.into_dyn.ensures.whole.0.0 ∙ one_more (length (shape_of c.args.array)) c.requires.few

pub unreachable-requires : goal.unreachable-requires
unreachable-requires g c =
    let axis = c.args.axis.0 in
    let long = ap length (c.insert_axis.ensures.part.0.0 ∙ ap (λ ns. inserted_shape ns axis) c.into_dyn.ensures.whole.0.0) ∙ length-insert (shape_of c.args.array) axis 1 c.requires.place in
    true≢false (sym c.requires.axes_fit ∙ (ap g.D.Dimension.has_axes (sym long) ∙ (c.in-Err.ensures {u = tt}).refused.0 refl))

pub returns : goal.returns
returns g c =
    let axis = c.args.axis.0 in
    let dyn = c.into_dyn.ensures.whole.0 in
    let part = c.insert_axis.ensures.part.0 in
    let view = c.in-Ok.ensures.whole.0 in
    record {
      part = (
        view.0 ∙ (part.0 ∙ ap (λ ns. inserted_shape ns axis) dyn.0),
        view.1 ∙ (part.1 ∙ ap (λ ss. insert ss axis (pos 1)) dyn.1),
        (λ i. view.2 i ∙ (part.2 i ∙ (λ k. inside (inserted_shape (dyn.0 k) axis) i (dyn.2 (inserted_index axis i) k)))),
        (λ i. view.3 i ∙ (part.3 i ∙ (λ k. inside (inserted_shape (dyn.0 k) axis) i (dyn.3 (inserted_index axis i) k)))),
        (λ none. view.4 ∙ (part.4 (ap size_of dyn.0 ∙ none) ∙ dyn.4)),
      );
    }
