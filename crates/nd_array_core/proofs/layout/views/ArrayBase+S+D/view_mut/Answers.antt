use Rattle.nd_array_core.proofs.NamesFromOtherCrates.{refl, ◌∙◌, place_of, stored_at, place_number, inside}
use Rattle.nd_array_core.specs.ArrayMeaning.{meaning_of, memory_layout_of}
use Rattle.nd_array_core.proofs.layout.views.ArrayBase+S+D.view_mut.Goals as goal

pub lent_as-requires-clause-holds : goal.lent_as-requires-clause-holds
lent_as-requires-clause-holds g c = let same = c.copied-layout.ensures in rw (same.offset, same.lengths, same.strides) c.args.self.now.inside

pub lent_as-requires-clause-separated : goal.lent_as-requires-clause-separated
lent_as-requires-clause-separated g c = let same = c.copied-layout.ensures in rw (same.lengths, same.strides) (c.args.self.now.separated g.met.S.DataMut.alone)

pub returns : goal.returns
unfolding meaning_of memory_layout_of
returns g c =
    let same = c.copied-layout.ensures in let seen = c.lent_as.ensures.seen in let m = g.S.Data.stored c.args.self.now.storage in (
      (refl, λ w. refl),
      record {
        writes_back = tt;
        whole = (
          seen.shape_is ∙ same.lengths,
          seen.strides_are ∙ same.strides,
          (λ i. seen.elements i ∙ (λ k. inside (same.lengths k) i (stored_at m (place_of (same.offset k) (same.strides k) i)))),
          (λ i. seen.places i ∙ (λ k. inside (same.lengths k) i (place_number (place_of (same.offset k) (same.strides k) i)))),
          c.lent_as.ensures.offset ∙ same.offset,
        );
        refilled = c.lent_as.ensures.refilled;
        others = c.lent_as.ensures.others;
      },
    )
