use Rattle.nd_layout.proofs.NamesFromOtherCrates.{◌≡◌, ◌∙◌, ap, sym, length, pos, true, refl, length-replicate, broadcasts, broadcast_index}
use Rattle.nd_layout.specs.ValidLayoutsAndSteps.{IsValid, IsViewStep}
use Rattle.nd_layout.proofs.steps.BroadcastStep.{broadcast_is_seen, broadcast_is_valid}
use Rattle.nd_layout.proofs.layout.Layout.broadcast.Goals as goal

pub returns-clause-seen : goal.returns-clause-seen
returns-clause-seen g c =
    let from = g.D.Dimension.lengths c.args.self.now.dim in let to = g.E.Dimension.lengths c.args.to in
    let fits : broadcasts from to ≡ true = rw (c.slice.ensures.lengths, c.slice-2.ensures.lengths) at (c.if-not-can_broadcast.ensures.0 refl) in
    let seen : IsViewStep c.args.self.now.offset from (g.T.StrideList.strides_of c.args.self.now.strides) c.args.self.now.offset to (g.E.Strides.StrideList.strides_of c.put_strides_under.new.out) (broadcast_index from to) =
    rw (c.put_strides_under.ensures, c.slice-3.ensures.lengths, c.slice-4.ensures, c.slice-5.ensures.lengths) (broadcast_is_seen c.args.self.now.offset from to (g.T.StrideList.strides_of c.args.self.now.strides) c.args.self.now.as_many fits) in
    seen

pub invariant_of-result : goal.invariant_of-result
invariant_of-result g c =
    let from = g.D.Dimension.lengths c.args.self.now.dim in let to = g.E.Dimension.lengths c.args.to in
    let strides = g.T.StrideList.strides_of c.args.self.now.strides in
    let fits : broadcasts from to ≡ true = rw (c.slice.ensures.lengths, c.slice-2.ensures.lengths) at (c.if-not-can_broadcast.ensures.0 refl) in
    let old : IsValid c.args.self.now.offset from strides = record { as_many = c.args.self.now.as_many; spread = c.args.self.now.spread; checked = c.args.self.now.checked; reach = c.args.self.now.reach } in
    let valid : IsValid c.args.self.now.offset to (g.E.Strides.StrideList.strides_of c.put_strides_under.new.out) =
    rw (c.put_strides_under.ensures, c.slice-3.ensures.lengths, c.slice-4.ensures, c.slice-5.ensures.lengths) (broadcast_is_valid c.args.self.now.offset from to strides fits old) in
    record { as_many = valid.as_many; spread = valid.spread; checked = valid.checked; reach = valid.reach }

pub put_strides_under-requires-clause-wide : goal.put_strides_under-requires-clause-wide
put_strides_under-requires-clause-wide g c =
    ap length c.zero_strides-strides.ensures ∙ (length-replicate (length (g.E.Dimension.lengths c.args.to)) (pos 0) ∙ sym (ap length c.slice-5.ensures.lengths))
