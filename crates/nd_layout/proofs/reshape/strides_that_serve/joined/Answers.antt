use Rattle.nd_layout.proofs.NamesFromOtherCrates.{rules, arith, FitsSigned, w64, ◌<◌, ◌≡◌, ◌*ℤ◌, pos, ◌∷◌, refl, to_z-of_z}
use Rattle.nd_layout.proofs.reshape_lemmas.RegroupedAxes.{Regroups-one_second, Regroups-one_out, Regroups-glued, both_positive}
use Rattle.nd_layout.proofs.reshape.strides_that_serve.joined.Goals as goal

pub returns-then-len-eq1 : goal.returns-then-len-eq1
returns-then-len-eq1 c =
    let f : FitsSigned w64 c.args.group.step = search rules in
    (refl, λ ns ss e. rw (to_z-of_z w64 c.args.group.step f, c.if-len-eq1.true) (Regroups-one_second c.args.group.length c.args.group.step c.args.stride ns ss e))

pub returns-then-group-eq1 : goal.returns-then-group-eq1
returns-then-group-eq1 c =
    (refl, λ ns ss e. rw (to_z-of_z w64 c.args.stride c.ranges.stride, c.if-group-eq1.true) (Regroups-one_out (c.args.len ∷ ns) (c.args.stride ∷ ss) c.args.group.step (omega arith)))

pub returns-then-continues : goal.returns-then-continues
returns-then-continues c =
    let f : FitsSigned w64 c.args.group.step = search rules in
    let g : c.args.stride ≡ pos c.args.group.length *ℤ c.args.group.step = search rules in
    let w = both_positive c.args.group.length c.args.len c.requires.some in let long : 1 < c.args.group.length = omega arith in
    let wide : 1 < c.args.len = omega arith in
    (refl, λ ns ss e. rw (to_z-of_z w64 c.args.group.step f, g) (Regroups-glued c.args.group.length c.args.len c.args.group.step ns ss e long wide))
