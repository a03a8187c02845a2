use Rattle.std.proofs.Common.{sym}
use Rattle.nd_picture_text.proofs.HeaderIgnoresFollowingBytes.{is_front}
use Rattle.nd_picture_text.proofs.header_from_stream.header_and_size.Goals as goal

pub returns-in-Ok : goal.returns-in-Ok
returns-in-Ok c = is_front c.args.bytes.now c.in-Ok.header c.in-Ok.rest.now c.saturating_sub.result c.in-Ok.ensures.whole (sym c.in-Ok.ensures.value) c.saturating_sub.ensures
