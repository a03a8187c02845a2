use Rattle.nd_array_core.proofs.NamesFromOtherCrates.{refl, region_stored, placement_of}
use Rattle.nd_array_core.specs.ArrayMeaning.{meaning_of, memory_layout_of}
use Rattle.nd_array_core.proofs.layout_lemmas.TakenAndLeftStorage.{taken_holds, taken_element}
use Rattle.nd_array_core.proofs.layout.splits.tied_part.Goals as goal

pub invariant_of-result : goal.invariant_of-result
invariant_of-result g c =
    let l = placement_of c.args.layout in
    record {
      inside = taken_holds (region_stored c.args.storage.now.region) (region_stored c.split-part.result.region) l.offset l.lengths l.strides c.split-part.ensures.taken c.requires.holds;
      separated = λ _. c.requires.own_places;
    }

pub returns-clause-taken : goal.returns-clause-taken
unfolding meaning_of memory_layout_of
returns-clause-taken g c =
    let l = placement_of c.args.layout in (
      record {
        shape_is = refl;
        strides_are = refl;
        elements = taken_element (region_stored c.args.storage.now.region) (region_stored c.split-part.result.region) l.offset l.lengths l.strides c.split-part.ensures.taken;
        places = λ i. refl;
      },
      refl,
    )
