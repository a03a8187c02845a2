-- What calls of an iterator give that is seen as the list of what is left.
use Rattle.std.proofs.Common.{ap, length}
use Rattle.std.specs.Iterator.{YieldsFirstRef, YieldsLastRef}
use Rattle.std.specs.Iterator.Runs.{YieldsRefsInOrder, YieldsRefsInReverse}
use Rattle.std.proofs.iter.runs.Sources.{from_front, from_back}

module _ {A : Type 0} where
  pub refs_run : YieldsRefsInOrder (YieldsFirstRef {A = A} (λ rest. rest)) (λ rest. rest)
  refs_run = from_front (YieldsFirstRef {A = A} (λ rest. rest)) (λ x. x.now) (λ rest. rest) (λ s t h. ap length h.0) (λ s x t h. h)

  pub refs_run_back : YieldsRefsInReverse (YieldsLastRef {A = A} (λ rest. rest)) (λ rest. rest)
  refs_run_back = from_back (YieldsLastRef {A = A} (λ rest. rest)) (λ x. x.now) (λ rest. rest) (λ s t h. ap length h.0) (λ s x t h. h)
