use Rattle.std.proofs.Common.{refl, arith}
use Rattle.std.proofs.lemmas.List.{take_rest}
use Rattle.nd_text.proofs.LineAndWordSplits.{after_split}
use Rattle.nd_text.proofs.lines_and_words.has_words_after.Goals as goal

pub returns-then-left-found : goal.returns-then-left-found
returns-then-left-found c =
    let split = after_split 64 c.loop-rest.rest.now (omega arith) in
    (λ _. omega (arith, split), λ _. refl)

pub loop-rest-preserved : goal.loop-rest-preserved
loop-rest-preserved c =
    let split = after_split 64 c.loop-rest.rest.now (omega arith) in
    rw (take_rest c.loop-rest.rest.now 64) (omega (arith, split))
