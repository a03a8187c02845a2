use Rattle.std.proofs.Common.{sym}
use Rattle.nd_array_core.specs.ArrayMeaning.{meaning_of}
use Rattle.nd_picture.proofs.PictureChangesOnArrays.{gray_made, gray_kept}
use Rattle.nd_picture.proofs.gray.gray.Goals as goal

pub returns-then-not-is_coloured : goal.returns-then-not-is_coloured
returns-then-not-is_coloured c = λ p shows. gray_kept (meaning_of c.args.picture) c.args.maxval p (sym c.if-not-is_coloured.ensures) shows

pub returns : goal.returns
returns c = λ p shows. gray_made (meaning_of c.args.picture) (meaning_of c.in_ok-light.light) c.args.maxval p (sym c.if-not-is_coloured.ensures) shows (c.in_ok-light.ensures p shows)
