use Rattle.nd_region.specs.RegionPlaces.{names}
use Rattle.nd_region.proofs.divided_mutable_borrow.Region.split_with.Given as goal

abbrev pub ghost-split_where : goal.ghost-split_where
ghost-split_where g a = names a._offset a._lengths.now a._strides.now
