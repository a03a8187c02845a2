use Rattle.nd_array_core.proofs.NamesFromOtherCrates.{subst, sym, fun_ext, false≢true, placement_of, HoldsAll, seen_holds}
use Rattle.nd_array_core.proofs.layout.broadcast.ArrayBase+S+D.broadcast.Goals as goal

pub invariant_of-result : goal.invariant_of-result
invariant_of-result g c =
    let array = c.args.self.now in
    let layout = placement_of c.in_ok-layout.layout in
    record {
      inside = subst (λ f. HoldsAll f layout.offset layout.lengths layout.strides) (sym (fun_ext c.borrowed.ensures)) (seen_holds (g.S.Data.stored array.storage) c.in_ok-layout.ensures.seen array.inside);
      separated = λ is. absurd (false≢true is);
    }
