use Rattle.std.proofs.Common.{◌≡◌, ◌++◌, ◌+◌, ℕ, List, length, cond}
use Rattle.nd_text.specs.BufferedPrinting.{Writes}
use Rattle.nd_text.specs.WatchedReadersAndWriters.{watched_failed}
use Rattle.nd_text.proofs.buffered_printing.write_text.Given as goal

-- what was put so far, and what is left
abbrev pub invariant-loop-out : goal.invariant-loop-out
invariant-loop-out g l = (front : List ℕ) × (l.fn.text ≡ front ++ l.rest) × Writes g.W.Write.contents l.fn.out l.out front

-- each turn takes bytes or fails
abbrev pub decreases-loop-out : goal.decreases-loop-out
decreases-loop-out g l = length l.rest + cond (watched_failed l.out) 0 1
