-- Truths of the parts of a pair and of a triple.
pub use Rattle.std.proofs.mem.Facts.{says_two}
use Rattle.nd_region.proofs.SeparationLogicImports.{Bool, true, false, ◌&&◌, T}

pub both : (a b : Bool) → T a → T b → T (a && (b && true))
both true true s t = tt
both true false s t = absurd t
both false b s t = absurd s

pub all_three : (a b c : Bool) → T a → T b → T c → T (a && (b && (c && true)))
all_three true b c s t u = both b c t u
all_three false b c s t u = absurd s
