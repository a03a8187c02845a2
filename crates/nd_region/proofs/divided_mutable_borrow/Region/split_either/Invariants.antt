use Rattle.nd_region.specs.RegionPlaces.{names_either}
use Rattle.nd_region.proofs.divided_mutable_borrow.Region.split_either.Given as goal

abbrev pub ghost-split_where : goal.ghost-split_where
ghost-split_where g a = names_either a._offset a._lengths.now a._strides.now a._from a._sizes.now a._steps.now
