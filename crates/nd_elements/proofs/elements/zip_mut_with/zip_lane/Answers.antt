use Rattle.nd_elements.proofs.NamesFromOtherCrates.{sym, subst, fun_ext, along}
use Rattle.nd_elements.specs.elements.PairsWithOneWritten.{IsZippedTo, TakesPairs}
use Rattle.nd_elements.proofs.elements.zip_mut_with.zip_lane.Goals as goal

pub zip_lent-requires-clause-callable : goal.zip_lent-requires-clause-callable
zip_lent-requires-clause-callable g c =
    subst (λ at. TakesPairs g.F.FnMut (g.S.Data.stored c.args.storage.now) (along c.args.lane).place at (along c.args.other_lane).place c.args.f c.args.lane.count)
    (sym (fun_ext c.borrowed.ensures)) c.requires.callable

pub returns-then-lane-eq0-clause-changed : goal.returns-then-lane-eq0-clause-changed
returns-then-lane-eq0-clause-changed g c =
    subst (λ at. IsZippedTo g.F.FnMut (along c.args.lane).place at (along c.args.other_lane).place c.args.lane.count (g.S.Data.stored c.args.storage.now) (g.S.Data.stored c.zip_lent.new.storage) c.args.f c.zip_lent.result)
    (fun_ext c.borrowed.ensures) c.zip_lent.ensures.changed

pub zip_contiguous_with_strided-requires-clause-callable : goal.zip_contiguous_with_strided-requires-clause-callable
zip_contiguous_with_strided-requires-clause-callable g c =
    subst (λ at. TakesPairs g.F.FnMut (g.S.Data.stored c.args.storage.now) (along c.args.lane).place at (along c.args.other_lane).place c.args.f c.args.lane.count)
    (sym (fun_ext c.borrowed-2.ensures)) c.requires.callable

pub returns-clause-changed : goal.returns-clause-changed
returns-clause-changed g c =
    subst (λ at. IsZippedTo g.F.FnMut (along c.args.lane).place at (along c.args.other_lane).place c.args.lane.count (g.S.Data.stored c.args.storage.now) (g.S.Data.stored c.zip_contiguous_with_strided.new.storage) c.args.f c.zip_contiguous_with_strided.result)
    (fun_ext c.borrowed-2.ensures) c.zip_contiguous_with_strided.ensures.changed
