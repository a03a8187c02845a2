use Rattle.std.proofs.Common.{ap}
use Rattle.nd_array_core.specs.ArrayMeaning.{meaning_of}
use Rattle.nd_npy_run.specs.OutputAndStatus.{bytes_made}
use Rattle.nd_npy_run.proofs.ArrayTextByElements.{text_known, each_some}
use Rattle.nd_npy_run.proofs.PrintedTextByItemKind.{line_comes}
use Rattle.nd_npy_run.proofs.printed_arrays.printed_as.Goals as goal

pub returns-in-Ok-text_of : goal.returns-in-Ok-text_of
returns-in-Ok-text_of g c =
    let items = meaning_of c.args.array.now in
    let full = each_some items _ c.elements_by_rank.ensures.count c.elements_by_rank.ensures.below c.elements_by_rank.ensures.each in
    let both = text_known g.A.Display.output (g.A.NpyItem.value_of c.args.order) c.requires.known (meaning_of c.in-Ok.values) items c.in-Ok.ensures.shape (λ i. ap (λ m. m.at i) c.in-Ok.ensures.numbers) full in
    line_comes _ _ _ (bytes_made c.line_of.result) both c.in-Ok-text_of.ensures c.line_of.ensures
