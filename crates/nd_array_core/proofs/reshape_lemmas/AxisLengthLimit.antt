-- No array has a length of 2 ^ 63 or more.
use Rattle.nd_array_core.proofs.NamesFromOtherCrates.{ℕ, suc, ◌<◌, ◌^◌, List, [], ◌∷◌, arith, slice_index, size_of, HasCheckedSize, length_within, size-le-product}
use Rattle.nd_array_core.specs.ElementsByCoordinates.{AllShort}

pub length_short : (ns : List ℕ) (k : ℕ) → HasCheckedSize ns → slice_index ns k < 2 ^ 63
length_short ns k checked = omega (arith, length_within ns k, checked)

pub all_short : (ns : List ℕ) → HasCheckedSize ns → AllShort ns
all_short ns checked = go ns (λ k. length_short ns k checked)
  where
    go : (ms : List ℕ) → ((k : ℕ) → slice_index ms k < 2 ^ 63) → AllShort ms
    go [] short = tt
    go (m ∷ ms) short = (short 0, go ms (λ k. short (suc k)))

pub size_short : (ns : List ℕ) → HasCheckedSize ns → size_of ns < 2 ^ 63
size_short ns checked = omega (arith, size-le-product ns, checked)
