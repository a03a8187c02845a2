use Rattle.nd_array_core.proofs.NamesFromOtherCrates.{◌≡◌, ◌∙◌, ℕ, List, refl, sym, OnOk, OnErr, true≢false, on_ok_weaker, on_err_weaker, broadcast_index, placement_of, as_placement, IsViewStep, shown_at, MayLackForClone, IsOldOrOf, old_or_same, seen_holds, seen_element}
use Rattle.nd_array_core.specs.ArrayMeaning.{meaning_of, memory_layout_of}
use Rattle.nd_array_core.proofs.elements_lemmas.LackOfMemory.{inside_some, refused_alike}
use Rattle.nd_array_core.proofs.elements.assign.ArrayBase+S+D.assign.Goals as goal

pub unreachable-requires : goal.unreachable-requires
unfolding meaning_of
unreachable-requires g c = true≢false (sym c.requires.broadcasts ∙ (c.in-None.ensures {u = tt}).none.0 refl)

pub assign_layouts-requires-clause-apart : goal.assign_layouts-requires-clause-apart
assign_layouts-requires-clause-apart g c = c.args.self.now.separated g.met.S.DataMut.alone

pub assign_layouts-requires-clause-others_hold : goal.assign_layouts-requires-clause-others_hold
assign_layouts-requires-clause-others_hold g c = seen_holds (g.Z.Data.stored c.args.rhs.now.storage) c.in-Some.ensures.seen c.args.rhs.now.inside

pub assign_layouts-requires-clause-clones : goal.assign_layouts-requires-clause-clones
unfolding meaning_of
assign_layouts-requires-clause-clones g c =
    let right = c.args.rhs.now in
    let others = g.Z.Data.stored right.storage in
    let two = placement_of c.in-Some.seen in
    let before = broadcast_index (g.E.Dimension.lengths right.layout.dim) two.lengths in
    λ i x is. c.requires.clones (before i) x (inside_some two.lengths i (shown_at others (placement_of right.layout) (before i)) x (sym (seen_element others c.in-Some.ensures.seen i) ∙ is))

pub returns : goal.returns
unfolding meaning_of memory_layout_of
returns g c =
    let one = placement_of c.args.self.now.layout in
    let right = placement_of c.args.rhs.now.layout in
    let others = g.Z.Data.stored c.args.rhs.now.storage in
    let new = g.S.Data.stored c.assign_layouts.new.storage in
    let seen = placement_of c.in-Some.seen in
    let two = as_placement seen.offset one.lengths seen.strides in
    let view : IsViewStep right.offset right.lengths right.strides seen.offset one.lengths seen.strides (broadcast_index right.lengths one.lengths) = rw c.in-Some.ensures.lengths at c.in-Some.ensures.seen in
    record {
      assigned = let assigned : OnOk c.assign_layouts.result ((i : List ℕ) → shown_at new one i ≡ shown_at others two i) = rw c.in-Some.ensures.lengths at c.assign_layouts.ensures.assigned in
          on_ok_weaker c.assign_layouts.result (λ all i. all i ∙ seen_element others view i) assigned;
      stopped = let old = g.S.Data.stored c.args.self.now.storage in
          let stopped : OnErr c.assign_layouts.result (IsOldOrOf (shown_at old one) (shown_at others two) (shown_at new one)) = rw c.in-Some.ensures.lengths at c.assign_layouts.ensures.stopped in
          on_err_weaker c.assign_layouts.result (λ either. old_or_same (shown_at old one) (shown_at others two) _ (shown_at new one) (seen_element others view) either) stopped;
      refused = let refused : OnErr c.assign_layouts.result (MayLackForClone g.A.Clone.is_infallible (shown_at others two)) = rw c.in-Some.ensures.lengths at c.assign_layouts.ensures.refused in
          on_err_weaker c.assign_layouts.result (refused_alike g.A.Clone.is_infallible (shown_at others two) _ (seen_element others view)) refused;
      frame = (refl, refl, (λ i. refl), c.assign_layouts.ensures.others, c.assign_layouts.ensures.frame, refl);
    }

pub invariant_of-self : goal.invariant_of-self
invariant_of-self g c = record { inside = c.assign_layouts.ensures.holds; separated = c.args.self.now.separated }
