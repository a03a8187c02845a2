use Rattle.nd_elements.proofs.NamesFromOtherCrates.{arith, refl, rules, w64, FitsSigned, to_z-of_z, is_place}
use Rattle.nd_elements.proofs.along_lemmas.RowPairs.{rows_checked, rows_pass, rows_held, rows_ask, rows_changed, rows_left}
use Rattle.nd_elements.proofs.along.accumulate_lanes_together.change_row_contiguous.Goals as goal

pub with_part-requires-clause-holds : goal.with_part-requires-clause-holds
with_part-requires-clause-holds g c =
    rows_held c.args.p c.args.q c.args.count c.args.stride _ _ c.requires.after (to_z-of_z w64 c.args.stride (search rules)) refl (g.S.Data.stored c.args.storage.now) c.requires.holds.0 c.requires.holds.1

pub with_part-requires-clause-callable : goal.with_part-requires-clause-callable
with_part-requires-clause-callable g c x part =
    let asked = rows_ask c.args.p c.args.q c.args.count c.args.stride _ _ c.requires.after (to_z-of_z w64 c.args.stride c.ranges.stride) refl (g.S.Data.stored c.args.storage.now) c.requires.holds.0 c.requires.holds.1 g.F.FnMut c.args.f c.requires.apart c.requires.callable x part in
    (asked.0, (asked.1, λ left r now below run v w shows gives. asked.2 left r now below run v w shows gives))

pub returns : goal.returns
returns g c =
    let e = c.with_part.ensures.part in
    let fits : FitsSigned w64 c.args.stride = search rules in record {
      changed = rows_changed c.args.p c.args.q c.args.count c.args.stride _ _ c.requires.after (to_z-of_z w64 c.args.stride fits) refl (g.S.Data.stored c.args.storage.now) c.requires.holds.0 c.requires.holds.1 g.F.FnMut c.args.f (g.S.Data.stored c.with_part.new.self) e.0 e.1 c.with_part.result e.2 e.3.1 e.4;
      left = rows_left c.args.p c.args.q c.args.count c.args.stride _ _ c.requires.after (to_z-of_z w64 c.args.stride fits) refl (g.S.Data.stored c.args.storage.now) c.requires.holds.0 c.requires.holds.1 g.F.FnMut c.args.f (g.S.Data.stored c.with_part.new.self) e.0 e.1 c.with_part.result e.2 e.3.1 e.4;
      frame = search rules;
    }

pub invariant_of-with_part : goal.invariant_of-with_part
invariant_of-with_part g c =
    record {
      as_many = refl;
      few = omega arith;
      checked = rows_checked c.args.count c.requires.checked;
      reach = rows_pass c.args.p c.args.q c.args.count c.args.stride _ _ c.requires.after (to_z-of_z w64 c.args.stride (search rules)) refl is_place c.requires.reach.0 c.requires.reach.1;
    }
