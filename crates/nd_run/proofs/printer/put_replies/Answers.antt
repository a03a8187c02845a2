use Rattle.std.proofs.Common.{refl}
use Rattle.nd_run.specs.CallReplies.{said_reply}
use Rattle.nd_run.specs.ReplyTexts.{reply_text}
use Rattle.nd_text.proofs.PrintingInTurn.{puts_nothing, puts_item, puts_listed}
use Rattle.nd_run.proofs.printer.put_replies.Goals as goal

pub loop-reply-init : goal.loop-reply-init
loop-reply-init g c = puts_nothing _ _

pub loop-reply-preserved : goal.loop-reply-preserved
loop-reply-preserved g c = puts_item (λ r. reply_text (said_reply r)) c.args.replies.now c.loop-reply.reply-index c.reply-item.result c.reply-item.result c.loop-reply-test.true c.reply-item.is refl c.loop-reply.invariant c.put_words.ensures c.put.ensures

pub returns : goal.returns
returns g c = puts_listed reply_text said_reply c.args.replies.now c.loop-reply.reply-index c.loop-reply-test.false c.loop-reply.invariant
