use Rattle.nd_array_core.proofs.NamesFromOtherCrates.{[], ◌∷◌, ◌∙◌, reverse, place_of, stored_at}
use Rattle.nd_array_core.specs.ArrayMeaning.{meaning_of, memory_layout_of}
use Rattle.nd_array_core.proofs.law_lemmas.LayoutLaws.{transposed_pair}
use Rattle.nd_array_core.proofs.layout_lemmas.PartOfWholeView.{shown_through}
use Rattle.nd_array_core.proofs.layout.axes.ArrayBase+S+D.t.Goals as goal

pub returns-clause-part : goal.returns-clause-part
returns-clause-part g c = shown_through (λ ns ss. record { part_shape = reverse ns; part_strides = reverse ss; index_named = reverse }) c.view.ensures.whole c.reversed_axes.ensures.part.0

pub returns-clause-elements : goal.returns-clause-elements
unfolding meaning_of memory_layout_of
returns-clause-elements g c row column =
    let old = c.args.self.now in let ns = g.D.Dimension.lengths old.layout.dim in let ss = g.D.Strides.StrideList.strides_of old.layout.strides in
    (returns-clause-part g c).2 (row ∷ column ∷ []) ∙ transposed_pair ns row column (stored_at (g.S.Data.stored old.storage) (place_of old.layout.offset ss (column ∷ row ∷ [])))
