-- What proofs of this crate take from other crates, through one door: a proof names what it uses of it in one line. Declares nothing.
pub use Rattle.core.specs.declared.slots.Slots.{Slots}
pub use Rattle.nd_layout.proofs.DistinctPlaces.{same_index}
pub use Rattle.nd_layout.proofs.Integers.{one-mul, suc-mul, sums, zero-mul}
pub use Rattle.nd_layout.proofs.walk_lemmas.LaneIndexes.{column_index-column_rank, get_or-slow, lane_index, lane_kept, lane_size, length-slow, size_of-slow, slow-set}
pub use Rattle.nd_layout.proofs.walk_lemmas.PlacesCutIntoLanes.{checked-front}
pub use Rattle.nd_layout.proofs.walk_lemmas.LanesLoop.{all_through, go_on, lane_of}
pub use Rattle.nd_layout.proofs.DisplacementChanges.{displacement_of-at}
pub use Rattle.nd_layout.proofs.NthElementInColumnMajor.{column_rank-column_index, in_box-column_index}
pub use Rattle.nd_layout.proofs.order_lemmas.RearrangedPlaces.{rearranged_itself}
pub use Rattle.nd_layout.proofs.AxisRemovedOrInserted.{displacement_of-inserted, in_box-inserted, nonzero_product-removed}
pub use Rattle.nd_layout.proofs.SizesOfChangedAxes.{length-le-product, size-le-product, size_of-set}
pub use Rattle.nd_layout.proofs.walk_lemmas.NextIndexOfWalk.{reaches_usizes}
pub use Rattle.nd_layout.proofs.steps.StepsKeepValidLayouts.{step_some}
pub use Rattle.nd_layout.specs.GrowthAlongAxis.{IsInGrowingOrder, growing_strides}
pub use Rattle.nd_layout.specs.HalvedLayouts.{AreHalved, FollowEachOther, rank_place}
pub use Rattle.nd_layout.specs.NumberedPlacesAndWalks.{AreLanesOf, AreSameLanes, Numbered, along, by_rank, ranked}
pub use Rattle.nd_layout.specs.OrderOfAppendedPlaces.{AreTurned}
pub use Rattle.nd_layout.specs.LayoutStepsOfCalls.{IsRearrangedOf, IsStepOf, KeepsApart, Placement, as_placement, placement_of}
pub use Rattle.nd_layout.specs.ValidMemoryPlaces.{ReachesPlaces, is_place}
pub use Rattle.nd_layout.specs.RanksAndReshapeStrides.{IsStandard, index_in, rank_in, slow_axis_in, slowest_first}
pub use Rattle.nd_layout.specs.ValidLayoutsAndSteps.{IsStep, IsViewStep}
pub use Rattle.nd_layout.specs.RowMajorWalk.{IsLane, IsLastAxis, IsRearranged, IsRejoined, place_at_rank}
pub use Rattle.nd_layout.specs.declared.walk.lane.Lane.{Lane}
pub use Rattle.nd_layout.specs.declared.walk.lanes.Lanes.{Lanes}
pub use Rattle.nd_layout.specs.declared.walk.layout_as_lanes.Places.{Places}
pub use Rattle.nd_region.proofs.PlacesNamedByLayouts.{named_at, named_by}
pub use Rattle.nd_region.proofs.RejoinedRegionMap.{long_there, merged_stored}
pub use Rattle.nd_region.proofs.RegionContentsForCallers.{part_holds, part_stored, stored_at, whole_got, written_other, written_same}
pub use Rattle.nd_region.proofs.SwappedPlaces.{merged_only, names_itself, names_no_other}
pub use Rattle.nd_region.proofs.WrittenRegionMap.{swapped_map, written_map}
pub use Rattle.nd_region.specs.RegionPlaces.{has_place, merged_rows, names, names_not, overwritten_items, run_written, stored_in}
pub use Rattle.nd_region.specs.Region.{HasPlaces, HasRun, IsAsLong, IsPartWhere, IsWhole, borrow_of, region_stored, rejoined_region, with_element, with_items, with_run}
pub use Rattle.nd_region.specs.declared.divided_mutable_borrow.Region.{Region}
pub use Rattle.nd_shape_and_slice.proofs.BoxesByCoordinate.{coordinate_below}
pub use Rattle.nd_shape_and_slice.proofs.ColumnMajor.{column_rank_below}
pub use Rattle.nd_shape_and_slice.proofs.FillLoop.{IsFilledBelow, filled_all, filled_more, filled_none}
pub use Rattle.nd_shape_and_slice.proofs.IndexesWithChangedCoordinates.{in_box-set}
pub use Rattle.nd_shape_and_slice.proofs.ListEdits.{got_before, got_after, got_last, got_still, remove-inserted, set_elsewhere, set_there}
pub use Rattle.nd_shape_and_slice.proofs.RowMajorNumberInverse.{in_box-index_at, index_at-row_rank, row_rank-index_at}
pub use Rattle.nd_shape_and_slice.proofs.RowMajorIndexList.{get_or-indexes_of, length-indexes_of}
pub use Rattle.nd_shape_and_slice.proofs.RowMajor.{length-in_box, nonzero_product-size_of, row_rank_below}
pub use Rattle.nd_shape_and_slice.specs.LayoutIndexMaps.{collapsed_index, collapsed_shape, indexed_index, indexed_shape}
pub use Rattle.nd_shape_and_slice.specs.PlacesAndOverlaps.{IsSeparated, displacement_of, place_of}
pub use Rattle.nd_shape_and_slice.specs.ShapesAndIndexOrders.{HasCheckedSize, in_box, index_at, indexes_of, nonzero_product, row_rank, size_of}
pub use Rattle.nd_shape_and_slice.specs.declared.shape_builder.Order.{Order}
pub use Rattle.nd_shape_and_slice.specs.declared.shape_builder.Order.TheVariants.{ColumnMajor, RowMajor}
pub use Rattle.std.proofs.Common.{Bool, Fits, FitsSigned, List, Some, [], add-one, ap, arith, cond, drop, false, get_or, get_or-take, inl, inr, length, length-append, ltb, map, max, min, nat_eq, nat_lt, negsuc, of_z, pos, refl, replicate, rules, set, slice_set, subst, suc, sym, take, take_all, to_z, true, vec_capacity, vec_len, w64, zero, ℕ, ℤ, ⊎_elim, ◌%◌, ◌&&◌, ◌*ℤ◌, ◌*◌, ◌++◌, ◌+ℤ◌, ◌+◌, ◌-◌, ◌/◌, ◌<◌, ◌^◌, ◌∙◌, ◌∷◌, ◌≡◌, ◌≤◌, ◌⊎◌}
pub use Rattle.std.proofs.Math.Bool.{and-false, and-true}
pub use Rattle.std.proofs.Math.IntN.{pos-*ℤ-pos}
pub use Rattle.std.proofs.Math.ListN.{get_or-append}
pub use Rattle.std.proofs.Math.Nat.{add-zero, div-lt_iff_lt-mul, mul-le-mul_left, mul-le-mul_right, mul_comm}
pub use Rattle.std.proofs.Math.Numerals.{suc-eq-add-one}
pub use Rattle.std.proofs.Math.Path.{fun_ext}
pub use Rattle.std.proofs.Math.Seq.{take-append_seam, take-suc}
pub use Rattle.std.proofs.lemmas.Bool.{and_from, and_parts, cases_eq, cases_lt, eq-eqb, le-ltb, lt-ltb, ne_eqb}
pub use Rattle.std.proofs.lemmas.Bool.Decides.{nat_tests}
pub use Rattle.std.proofs.lemmas.Grind.{flat_map-append}
pub use Rattle.std.proofs.lemmas.Int.{ints, to_z-of_z}
pub use Rattle.std.proofs.lemmas.List.{append-nil, append_assoc, ext_get_or, get_or-set_other, get_or-set_same, get_or_push, length-replicate, length-set, length-take-le, length_push, set-get_or, set-set, take_more_set}
pub use Rattle.std.proofs.lemmas.List.Edits.{get_or-insert_at, length-remove}
pub use Rattle.std.proofs.lemmas.List.Elements.{All-push}
pub use Rattle.std.proofs.lemmas.List.Sums.{fold-append, sum_by-append, sum_by-cons, sum_by_push}
pub use Rattle.std.proofs.lemmas.Nat.{div-add-mod', div-mul-add, mod-mul-add, mod_below, row_fits}
pub use Rattle.std.proofs.lemmas.Option.{get_or_from_slice_get, same_Some, slice_get-get_or, slice_get_past, slice_get_read, slice_get_within}
pub use Rattle.std.proofs.lemmas.Result.{IfOk-weaker, on_err_weaker, on_ok_weaker}
pub use Rattle.std.proofs.lemmas.Slice.Eq.{slice_eq-Decides}
pub use Rattle.std.specs.Borrow.{Bor, MutBor}
pub use Rattle.std.specs.Cmp.{both_ways, first_so, second_so, unsigned_Decides}
pub use Rattle.std.specs.Cmp.Lexicographic.{pointwise}
pub use Rattle.std.specs.Fn.{Called, CalledAtMut, CalledWithState, Mut}
pub use Rattle.std.specs.Hash.{HashWrites}
pub use Rattle.std.specs.List.{All, AllZip, FoldsTo, cons_option, count_by, filter_map, flat_map, fold, insert, remove, sum}
pub use Rattle.std.specs.Mem.Slots.{SamePlaces}
pub use Rattle.std.specs.Option.{option_map, unwrap_or}
pub use Rattle.std.specs.Prelude.{Err, IsTrue, None, Ok, OnErr, OnOk, Option, Result, if◌then◌else◌, is_some, not, slice_get, slice_index_or}
pub use Rattle.std.specs.Result.{IfOk}
pub use native.Mathlib.Nat.{not-suc-le-zero}
