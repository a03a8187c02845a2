use Rattle.std.proofs.Common.{◌∙◌, sym}
use Rattle.nd_picture_text.proofs.RasterSamples.{bit_texts, narrow_texts, plain_texts, wide_texts}
use Rattle.nd_picture_text.proofs.writer.put_samples.Goals as goal

pub returns-then-is_bitmap : goal.returns-then-is_bitmap
returns-then-is_bitmap g c = rw (bit_texts c.args.header c.args.samples.now (sym c.is_plain.ensures ∙ c.if-is_plain.true) (sym c.is_bitmap.ensures ∙ c.if-is_bitmap.true)) c.put_bits.ensures

pub returns-else-is_bitmap : goal.returns-else-is_bitmap
returns-else-is_bitmap g c = rw (plain_texts c.args.header c.args.samples.now (sym c.is_plain.ensures ∙ c.if-is_plain.true) (sym c.is_bitmap.ensures ∙ c.if-is_bitmap.false)) c.put_plain.ensures

pub returns-then-header-lt256 : goal.returns-then-header-lt256
returns-then-header-lt256 g c = rw (narrow_texts c.args.header c.args.samples.now (sym c.is_plain.ensures ∙ c.if-is_plain.false) c.if-header-lt256.true) c.put_narrow.ensures

pub returns-else-header-lt256 : goal.returns-else-header-lt256
returns-else-header-lt256 g c = rw (wide_texts c.args.header c.args.samples.now (sym c.is_plain.ensures ∙ c.if-is_plain.false) c.if-header-lt256.false) c.put_wide.ensures
