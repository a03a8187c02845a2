use Rattle.std.proofs.Common.{sym, ◌∙◌, ◌≡◌, ◌++◌, false, take}
use Rattle.nd_text.specs.WatchedReadersAndWriters.{watched_failed}
use Rattle.nd_text.proofs.PrintingInTurn.{writes_then, writes_taken, cut_off}
use Rattle.nd_text.proofs.buffered_printing.write_text.Goals as goal

pub loop-out-preserved : goal.loop-out-preserved
loop-out-preserved g c =
    let inv = c.loop-out.invariant in
    let rest = c.loop-out.rest.now in
    let fine : watched_failed c.loop-out.out ≡ false = sym c.failed.ensures ∙ c.if-not-failed.true in
    (inv.0 ++ take c.in-Ok.count rest, cut_off c.args.text.now inv.0 rest c.in-Ok.count inv.1, writes_then inv.2 (writes_taken _ _ c.in-Ok.count rest fine c.in-Ok.ensures.bytes c.in-Ok.ensures.retried c.in-Ok.ensures.flushes))
