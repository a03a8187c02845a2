use Rattle.std.proofs.Common.{take}
use Rattle.std.specs.List.{flat_map}
use Rattle.nd_run.specs.CallReplies.{said_reply}
use Rattle.nd_text.specs.BufferedPrinting.{Puts}
use Rattle.nd_run.specs.ReplyTexts.{reply_text}
use Rattle.nd_run.proofs.printer.put_replies.Given as goal

-- the lines so far are put
abbrev pub invariant-loop-reply : goal.invariant-loop-reply
invariant-loop-reply g l = Puts g.W.Write.contents l.fn.out l.fn.page l.out l.page (flat_map (λ r. reply_text (said_reply r)) (take l.reply-index l.replies))
