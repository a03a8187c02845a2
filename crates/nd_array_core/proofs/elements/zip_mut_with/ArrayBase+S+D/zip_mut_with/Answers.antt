use Rattle.nd_array_core.proofs.NamesFromOtherCrates.{◌∙◌, refl, sym, subst, true≢false, fun_ext, broadcast_index, placement_of, as_placement, IsViewStep, shown_at, inside, ZippableInAnyOrder, ZipsAll, zips_settled, seen_holds, seen_element}
use Rattle.nd_array_core.specs.ArrayMeaning.{meaning_of, memory_layout_of}
use Rattle.nd_array_core.proofs.elements.zip_mut_with.ArrayBase+S+D.zip_mut_with.Goals as goal

pub unreachable-requires : goal.unreachable-requires
unfolding meaning_of
unreachable-requires g c = true≢false (sym c.requires.broadcasts ∙ (c.in-None.ensures {u = tt}).none.0 refl)

pub zip_layouts-requires-clause-apart : goal.zip_layouts-requires-clause-apart
zip_layouts-requires-clause-apart g c = c.args.self.now.separated g.met.S.DataMut.alone

pub zip_layouts-requires-clause-others_hold : goal.zip_layouts-requires-clause-others_hold
zip_layouts-requires-clause-others_hold g c = seen_holds (g.Z.Data.stored c.args.rhs.now.storage) c.in-Some.ensures.seen c.args.rhs.now.inside

pub zip_layouts-requires-clause-callable : goal.zip_layouts-requires-clause-callable
unfolding meaning_of
zip_layouts-requires-clause-callable g c =
    let one = placement_of c.args.self.now.layout in
    let right = placement_of c.args.rhs.now.layout in
    let others = g.Z.Data.stored c.args.rhs.now.storage in
    let old = g.S.Data.stored c.args.self.now.storage in
    let seen = placement_of c.in-Some.seen in
    let two = as_placement seen.offset one.lengths seen.strides in
    let view : IsViewStep right.offset right.lengths right.strides seen.offset one.lengths seen.strides (broadcast_index right.lengths one.lengths) = rw c.in-Some.ensures.lengths at c.in-Some.ensures.seen in
    let callable : ZippableInAnyOrder g.F.FnMut one.lengths (shown_at old one) (shown_at others two) c.args.f = subst (λ other. ZippableInAnyOrder g.F.FnMut one.lengths (shown_at old one) other c.args.f) (sym (fun_ext (seen_element others view))) c.requires.callable in
    rw c.in-Some.ensures.lengths callable

pub invariant_of-self : goal.invariant_of-self
invariant_of-self g c = record { inside = c.zip_layouts.ensures.holds; separated = c.args.self.now.separated }

pub returns-clause-visits : goal.returns-clause-visits
unfolding meaning_of
returns-clause-visits g c =
    let one = placement_of c.args.self.now.layout in
    let right = placement_of c.args.rhs.now.layout in
    let others = g.Z.Data.stored c.args.rhs.now.storage in
    let old = g.S.Data.stored c.args.self.now.storage in
    let new = g.S.Data.stored c.zip_layouts.new.storage in
    let seen = placement_of c.in-Some.seen in
    let two = as_placement seen.offset one.lengths seen.strides in
    let view : IsViewStep right.offset right.lengths right.strides seen.offset one.lengths seen.strides (broadcast_index right.lengths one.lengths) = rw c.in-Some.ensures.lengths at c.in-Some.ensures.seen in
    let visits : ZipsAll g.F.FnMut one.lengths (shown_at old one) (shown_at others two) (shown_at new one) c.args.f = rw c.in-Some.ensures.lengths at c.zip_layouts.ensures.visits in
    subst (λ other. ZipsAll g.F.FnMut one.lengths (shown_at old one) other (shown_at new one) c.args.f) (fun_ext (seen_element others view)) visits

pub returns-clause-alike : goal.returns-clause-alike
unfolding meaning_of
returns-clause-alike g c h by =
    let one = placement_of c.args.self.now.layout in
    let right = placement_of c.args.rhs.now.layout in
    let others = g.Z.Data.stored c.args.rhs.now.storage in
    zips_settled g.F.FnMut one.lengths (shown_at (g.S.Data.stored c.args.self.now.storage) one) (shown_at (g.S.Data.stored c.zip_layouts.new.storage) one) (λ i. inside one.lengths i (shown_at others right (broadcast_index right.lengths one.lengths i))) c.args.f (λ i out. rw out refl) (λ i out. rw out refl) (returns-clause-visits g c) h by

pub returns-clause-frame : goal.returns-clause-frame
unfolding meaning_of memory_layout_of
returns-clause-frame g c = (refl, refl, (λ i. refl), c.zip_layouts.ensures.others, c.zip_layouts.ensures.frame, refl)
