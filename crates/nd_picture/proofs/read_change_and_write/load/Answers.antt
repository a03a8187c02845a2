use Rattle.std.proofs.Common.{◌<◌, ◌^◌, length, ap, subst, arith, Ok, Err}
use Rattle.nd_text.specs.WatchedReadersAndWriters.{watched_inner}
use Rattle.nd_picture_text.specs.ImageFormatsAndHeaders.{pixmap_of}
use Rattle.nd_picture.specs.declared.read_change_and_write.Fault.TheVariants.{Memory}
use Rattle.nd_picture.specs.OutputAndStatus.{IsImageRead}
use Rattle.nd_picture.proofs.OutcomeOfFaultyInput.{all_given, at_end, uncounted, some_asked}
use Rattle.nd_picture.proofs.read_change_and_write.load.Goals as goal

pub returns-in-Ok-read_image-clause-image : goal.returns-in-Ok-read_image-clause-image
returns-in-Ok-read_image-clause-image g c =
    let read = c.in-Ok.ensures.bytes in
    let few : length c.fill.new.bytes.items < 2 ^ 63 = omega (arith, c.deref.ensures.len, c.fill.new.bytes.small) in
    let end = at_end (g.R.Read.remaining (watched_inner c.fill.new.input)) c.fill.new.bytes.items c.in-Ok.ensures.filled few in
    let image = rw c.deref.ensures.value at c.in-Ok-read_image.ensures.read in
    all_given (g.R.Read.remaining (watched_inner c.args.input.now)) (g.R.Read.remaining (watched_inner c.fill.new.input)) c.args.bytes.items read.0 c.fill.new.bytes.items (λ bytes. IsImageRead bytes (Ok (pixmap_of c.in-Ok-read_image.image))) read.2 end read.1
    (uncounted _ _ _ image)

pub returns-clause-image : goal.returns-clause-image
returns-clause-image g c =
    let read = c.in-Ok.ensures.bytes in
    let few : length c.fill.new.bytes.items < 2 ^ 63 = omega (arith, c.deref.ensures.len, c.fill.new.bytes.small) in
    let end = at_end (g.R.Read.remaining (watched_inner c.fill.new.input)) c.fill.new.bytes.items c.in-Ok.ensures.filled few in
    let asks = c.in-Err-Memory-read_image.ensures.memory (ap (λ e. Err e) c.in-Err-Memory-read_image.field-0-is) in
    let some : 0 < length c.fill.new.bytes.items = subst (λ l. 0 < length l) c.deref.ensures.value (some_asked c.deref.result.now asks) in
    all_given (g.R.Read.remaining (watched_inner c.args.input.now)) (g.R.Read.remaining (watched_inner c.fill.new.input)) c.args.bytes.items read.0 c.fill.new.bytes.items (λ bytes. IsImageRead bytes (Err Memory)) read.2 end read.1 some
