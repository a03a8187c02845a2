-- What a storage keeps while its elements change.
use Rattle.std.specs.Prelude.{ℕ, List, Bool}
use Rattle.std.specs.Borrow.{GName}

-- The frame of an owned storage is how many elements it has, and for how many it has room without more memory. The
-- frame of a borrowed storage is which borrow its region is of, and which places this has.
pub data StorageFrame : Type 0 where
  Owned : ℕ → ℕ → StorageFrame
  Borrowed : GName × List Bool → StorageFrame
