use Rattle.nd_array_core.proofs.NamesFromOtherCrates.{rules, OnOk, on_ok_weaker}
use Rattle.nd_array_core.specs.ArrayMeaning.{shape_of, element_at}
use Rattle.nd_array_core.specs.scoped.TasksOnParts.{IsFilledWith}
use Rattle.nd_array_core.specs.PartsOfArrays.{sliced_part}
use Rattle.nd_array_core.proofs.scoped_lemmas.FilledSlicesByTest.{filled_where, named_filled, kept_unnamed}
use Rattle.nd_array_core.proofs.scoped.fill_slice.ArrayBase+S+D.fill_slice.Goals as goal

pub returns-clause-unnamed : goal.returns-clause-unnamed
returns-clause-unnamed g c = kept_unnamed (shape_of c.args.self.now) (g.I.SliceArg.elements_of c.args.info) (element_at c.args.self.now) (element_at c.with_slice_mut.new.self) c.requires.fits c.with_slice_mut.ensures.kept

pub returns-clause-named : goal.returns-clause-named
returns-clause-named g c =
    let filled : OnOk c.with_slice_mut.result (IsFilledWith c.with_slice_mut.new.self (sliced_part c.args.self.now (g.I.SliceArg.elements_of c.args.info)) c.args.value) = search rules in
    on_ok_weaker c.with_slice_mut.result (named_filled (shape_of c.args.self.now) (g.I.SliceArg.elements_of c.args.info) (element_at c.args.self.now) (element_at c.with_slice_mut.new.self) c.args.value c.requires.fits) filled

pub returns-clause-exact : goal.returns-clause-exact
returns-clause-exact g c =
    let filled : OnOk c.with_slice_mut.result (IsFilledWith c.with_slice_mut.new.self (sliced_part c.args.self.now (g.I.SliceArg.elements_of c.args.info)) c.args.value) = search rules in
    on_ok_weaker c.with_slice_mut.result (filled_where (shape_of c.args.self.now) (g.I.SliceArg.elements_of c.args.info) (element_at c.args.self.now) (element_at c.with_slice_mut.new.self) c.args.value c.requires.fits c.with_slice_mut.ensures.kept) filled
