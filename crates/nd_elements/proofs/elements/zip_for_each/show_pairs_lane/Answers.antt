use Rattle.nd_elements.proofs.NamesFromOtherCrates.{subst, along}
use Rattle.nd_elements.specs.elements.PairMaps.{ShowsPairs}
use Rattle.nd_elements.proofs.elements.zip_for_each.show_pairs_lane.Goals as goal

pub returns : goal.returns
returns g c =
    let ours = c.side_by_side-ours in
    let theirs = c.side_by_side-theirs in
    record {
      ran = subst (λ at. ShowsPairs g.F.FnMut g.S.Data.stored g.Z.Data.stored at (along c.args.other_lane) c.args.storage.now c.args.others.now c.args.f c.show_pairs_strided-2.result) ours.ensures.places
          (subst (λ at. ShowsPairs g.F.FnMut g.S.Data.stored g.Z.Data.stored (along ours.result) at c.args.storage.now c.args.others.now c.args.f c.show_pairs_strided-2.result) theirs.ensures.places c.show_pairs_strided-2.ensures.ran);
    }
