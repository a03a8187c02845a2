-- What a storage in a region holds once a borrow of the region has ended.
use Rattle.std.specs.Borrow.{Fml, RattleType, MutBor, Lends}
use Rattle.nd_elements.specs.contracts.storage.RegionRepr.{the_row}
use Rattle.nd_elements.specs.declared.storage.RegionRepr.{RegionRepr}

-- Says that the storage behind `s` ends with the last value behind `r` as its region.
abbrev pub lends_region : (R : RattleType) → MutBor (RegionRepr R.Denot) → MutBor R.Denot → Fml
lends_region R s r = Lends (the_row R) R s r (λ x. record { region = x; tie = s.now.tie })
