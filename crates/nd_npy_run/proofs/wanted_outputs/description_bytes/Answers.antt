use Rattle.std.proofs.Common.{◌∙◌, ◌++◌, Some, drop, sym, ap}
use Rattle.nd_npy_run.proofs.DictOfHeader.{dict_after_front}
use Rattle.nd_npy_run.proofs.wanted_outputs.description_bytes.Goals as goal

pub returns-in-Ok-extend_from_slice : goal.returns-in-Ok-extend_from_slice
returns-in-Ok-extend_from_slice c =
    let copied = c.in-Ok-extend_from_slice.ensures.items ∙ ap (λ front. front ++ c.after_front.result.now) c.new-text.ensures.items in
    ap Some (sym (copied ∙ c.after_front.ensures ∙ ap (drop 10) c.as_slice.ensures.value ∙ dict_after_front _ _ c.in-Ok.ensures.written))
