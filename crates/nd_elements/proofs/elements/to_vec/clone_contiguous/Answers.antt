use Rattle.nd_elements.proofs.NamesFromOtherCrates.{◌+◌, ◌∙◌, ap, sym, refl, rules, is_some}
use Rattle.nd_elements.specs.CollectedElements.{stored_along}
use Rattle.nd_elements.proofs.elements_lemmas.ElementsCollectedInOrder.{contiguous, contiguous_has}
use Rattle.nd_elements.proofs.elements_lemmas.SliceClonesAppended.{run_after, run_clones, run_front, run_refuses}
use Rattle.nd_elements.proofs.elements.to_vec.clone_contiguous.Goals as goal

pub run-run-requires : goal.run-run-requires
run-run-requires g c k below =
    ap is_some (c.borrowed.ensures (c.args.lane.place + k))
    ∙ contiguous_has (g.S.Data.stored c.args.storage.now) c.args.lane.place c.args.lane.count c.args.lane.stride c.requires.contiguous c.requires.holds k below

pub clone_slice-requires-clause-clones : goal.clone_slice-requires-clause-clones
clone_slice-requires-clause-clones g c =
    run_clones c.run-run.result.now (stored_along (g.S.Data.stored c.args.storage.now) c.args.lane.place c.args.lane.stride) c.args.lane.count c.run-run.ensures.count
    (λ k d below. contiguous (g.S.Data.stored c.args.storage.now) c.args.lane.place k c.args.lane.stride c.requires.contiguous ∙ (sym (c.borrowed.ensures (c.args.lane.place + k)) ∙ c.run-run.ensures.elements k d below))
    g.S.Elem.Clone.is_clone c.requires.clones

pub returns : goal.returns
returns g c = record {
  items = run_after c.run-run.result.now (stored_along (g.S.Data.stored c.args.storage.now) c.args.lane.place c.args.lane.stride) c.args.lane.count c.run-run.ensures.count
      (λ k d below. contiguous (g.S.Data.stored c.args.storage.now) c.args.lane.place k c.args.lane.stride c.requires.contiguous ∙ (sym (c.borrowed.ensures (c.args.lane.place + k)) ∙ c.run-run.ensures.elements k d below))
      c.clone_slice.result.1 c.args.items.items c.clone_slice.result.0.items c.args.items.items c.clone_slice.result.0.items
      refl refl c.clone_slice.ensures.items;
  len = search rules;
  room = search rules;
  kept = run_front c.run-run.result.now (stored_along (g.S.Data.stored c.args.storage.now) c.args.lane.place c.args.lane.stride) c.args.lane.count c.run-run.ensures.count
      (λ k d below. contiguous (g.S.Data.stored c.args.storage.now) c.args.lane.place k c.args.lane.stride c.requires.contiguous ∙ (sym (c.borrowed.ensures (c.args.lane.place + k)) ∙ c.run-run.ensures.elements k d below))
      c.clone_slice.result.1 c.args.items.items c.clone_slice.result.0.items c.args.items.items c.clone_slice.result.0.items
      refl refl c.clone_slice.ensures.kept;
  refused = run_refuses c.run-run.result.now (stored_along (g.S.Data.stored c.args.storage.now) c.args.lane.place c.args.lane.stride) c.args.lane.count c.run-run.ensures.count
      (λ k d below. contiguous (g.S.Data.stored c.args.storage.now) c.args.lane.place k c.args.lane.stride c.requires.contiguous ∙ (sym (c.borrowed.ensures (c.args.lane.place + k)) ∙ c.run-run.ensures.elements k d below))
      c.clone_slice.result.1 g.S.Elem.Clone.is_infallible c.clone_slice.ensures.refused;
}
