use Rattle.std.proofs.lemmas.Result.{IfOk-weaker, on_ok_weaker}
use Rattle.uses_nd_array_core.proofs.SliceFrontAsArray.{front_filled}
use Rattle.uses_nd_array_core.proofs.slices_filled_through_view.fill_front.Goals as goal

pub returns-clause-elements : goal.returns-clause-elements
returns-clause-elements g c =
    let call = c.fill_seen in
    IfOk-weaker call.result _ _ (λ done. on_ok_weaker done (front_filled c.args.slice.now call.new.slice c.args.count c.args.value call.ensures.kept)) call.ensures.filled
