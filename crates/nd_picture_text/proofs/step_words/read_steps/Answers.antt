use Rattle.std.proofs.Common.{sym}
use Rattle.nd_text.specs.LinesAndWords.{words_of}
use Rattle.nd_picture_text.proofs.StepLists.{fewer_words}
use Rattle.nd_picture_text.proofs.step_words.read_steps.Goals as goal

pub loop-rest-smaller : goal.loop-rest-smaller
loop-rest-smaller c = fewer_words (words_of c.loop-rest.rest.now) (words_of c.in-Some.after.now) c.in-Some.step (sym c.in-Some.ensures)
