use Rattle.nd_array_core.proofs.NamesFromOtherCrates.{rules, shape_after, index_before}
use Rattle.nd_array_core.specs.ArrayMeaning.{shape_of, element_at, place_at}
use Rattle.nd_array_core.proofs.scoped_lemmas.FilledSlicesByTest.{kept_unnamed}
use Rattle.nd_array_core.proofs.scoped_lemmas.AssignedSlices.{part_changeable, part_changes, named_changed}
use Rattle.nd_array_core.proofs.scoped.map_slice.ArrayBase+S+D.map_slice.Goals as goal

pub with_slice_mut-requires-clause-callable : goal.with_slice_mut-requires-clause-callable
with_slice_mut-requires-clause-callable g c v seen = part_changeable g.F.FnMut c.args.f (shape_after (shape_of c.args.self.now) (g.I.SliceArg.elements_of c.args.info)) (index_before (shape_of c.args.self.now) (g.I.SliceArg.elements_of c.args.info)) (place_at c.args.self.now) (element_at c.args.self.now) v seen c.requires.callable

pub returns : goal.returns
returns g c =
    let done = c.with_slice_mut.ensures.done in
    record {
      visits = part_changes g.F.FnMut c.args.f (shape_after (shape_of c.args.self.now) (g.I.SliceArg.elements_of c.args.info)) (index_before (shape_of c.args.self.now) (g.I.SliceArg.elements_of c.args.info)) (place_at c.args.self.now) (place_at c.with_slice_mut.new.self) (element_at c.args.self.now) (element_at c.with_slice_mut.new.self) done.0 done.1 done.2 done.3 done.4.0;
      named = named_changed g.F.FnMut c.args.f (shape_of c.args.self.now) (g.I.SliceArg.elements_of c.args.info) c.requires.fits (place_at c.args.self.now) (place_at c.with_slice_mut.new.self) (element_at c.args.self.now) (element_at c.with_slice_mut.new.self) done.0 done.1 done.2 done.3 done.4.1;
      kept = search rules;
      unnamed = kept_unnamed (shape_of c.args.self.now) (g.I.SliceArg.elements_of c.args.info) (element_at c.args.self.now) (element_at c.with_slice_mut.new.self) c.requires.fits c.with_slice_mut.ensures.kept;
      frame = search rules;
    }
