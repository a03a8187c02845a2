use Rattle.nd_array_core.proofs.NamesFromOtherCrates.{sym, ◌∙◌, on_ok_weaker, on_err_weaker, shape_after, index_before}
use Rattle.nd_array_core.specs.ArrayMeaning.{shape_of, element_at, place_at}
use Rattle.nd_array_core.specs.scoped.AssignedOrChangedParts.{AssignsPart}
use Rattle.nd_array_core.proofs.elements_lemmas.LackOfMemory.{refused_alike}
use Rattle.nd_array_core.proofs.scoped_lemmas.FilledSlicesByTest.{kept_unnamed}
use Rattle.nd_array_core.proofs.scoped_lemmas.AssignedSlices.{part_assigned, part_stopped, named_assigned}
use Rattle.nd_array_core.proofs.scoped.assign_slice.ArrayBase+S+D.assign_slice.Goals as goal

pub with_slice_mut-requires-clause-callable : goal.with_slice_mut-requires-clause-callable
with_slice_mut-requires-clause-callable g c v seen = (c.view.ensures.whole.0 ∙ c.requires.same ∙ sym seen.same_shape, λ i x is. c.requires.clones i x (sym (c.view.ensures.whole.2 i) ∙ is))

pub returns-clause-assigned : goal.returns-clause-assigned
unfolding AssignsPart
returns-clause-assigned g c =
    let done = c.with_slice_mut.ensures.done in
    on_ok_weaker c.with_slice_mut.result (part_assigned (shape_after (shape_of c.args.self.now) (g.I.SliceArg.elements_of c.args.info)) (index_before (shape_of c.args.self.now) (g.I.SliceArg.elements_of c.args.info)) (place_at c.args.self.now) (place_at c.with_slice_mut.new.self) (element_at c.args.self.now) (element_at c.with_slice_mut.new.self) done.0 done.1 done.2 done.3 (element_at c.view.result) (element_at c.args.patch.now) c.view.ensures.whole.2) done.4.0

pub returns-clause-stopped : goal.returns-clause-stopped
returns-clause-stopped g c =
    let done = c.with_slice_mut.ensures.done in
    on_err_weaker c.with_slice_mut.result (part_stopped (shape_after (shape_of c.args.self.now) (g.I.SliceArg.elements_of c.args.info)) (index_before (shape_of c.args.self.now) (g.I.SliceArg.elements_of c.args.info)) (place_at c.args.self.now) (place_at c.with_slice_mut.new.self) (element_at c.args.self.now) (element_at c.with_slice_mut.new.self) done.0 done.1 done.2 done.3 (element_at c.view.result) (element_at c.args.patch.now) c.view.ensures.whole.2) done.4.1

pub returns-clause-named : goal.returns-clause-named
unfolding AssignsPart
returns-clause-named g c =
    on_ok_weaker c.with_slice_mut.result (named_assigned (shape_of c.args.self.now) (g.I.SliceArg.elements_of c.args.info) c.requires.fits (element_at c.with_slice_mut.new.self) (element_at c.args.patch.now)) (returns-clause-assigned g c)

pub returns-clause-unnamed : goal.returns-clause-unnamed
returns-clause-unnamed g c = kept_unnamed (shape_of c.args.self.now) (g.I.SliceArg.elements_of c.args.info) (element_at c.args.self.now) (element_at c.with_slice_mut.new.self) c.requires.fits c.with_slice_mut.ensures.kept

pub returns-clause-refused : goal.returns-clause-refused
returns-clause-refused g c = on_err_weaker c.with_slice_mut.result (refused_alike g.A.Clone.is_infallible (element_at c.view.result) (element_at c.args.patch.now) c.view.ensures.whole.2) c.with_slice_mut.ensures.done.4.2
