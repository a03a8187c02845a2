-- What proofs of this crate take from other crates, through one door: a proof names what it uses of it in one line. Declares nothing.
pub use Rattle.core.specs.declared.fmt.formatter.FormatSpec.{FormatSpec}
pub use Rattle.nd_elements.proofs.ClosureResultsInOrder.{IsAnsweredTo, answered_all, answered_more, answered_next, answers_seen, answers_settled}
pub use Rattle.nd_elements.proofs.elements_lemmas.AssignedElements.{old_or_same}
pub use Rattle.nd_elements.proofs.along_lemmas.AxisLanes.{lane_in_turn}
pub use Rattle.nd_elements.proofs.elements_lemmas.ElementsHandedToBeWritten.{changed_holds, changes_all, changes_settled, places_changeable, ranks_distinct, stored_same}
pub use Rattle.nd_elements.proofs.elements_lemmas.ElementsCollectedInOrder.{contiguous_has, collected_alike, elements_count, elements_equal_clones, joined_clones, joined_elements, joined_has, meaning_count, meaning_get, ordered_shows}
pub use Rattle.nd_elements.proofs.elements_lemmas.ComparedElements.{equal_everywhere}
pub use Rattle.nd_elements.proofs.elements_lemmas.FoldCallsByIndex.{folds_all, folds_settled, places_foldable, rearranged_numbers}
pub use Rattle.nd_elements.proofs.CallsInFreeOrder.{IsNumbering, done_at_each, listed, listed_all, listed_part}
pub use Rattle.nd_elements.proofs.elements_lemmas.StorageInHalves.{number_is}
pub use Rattle.nd_elements.proofs.along_lemmas.LaneNumbers.{by_lanes, index_of_number, lane_numbers, listed_at, listed_has, number_column, number_next, number_of_index, number_row, numbers_rise}
pub use Rattle.nd_elements.proofs.along_lemmas.PlacesOfLanesByIndex.{lane_found, lanes_differ, lanes_hold, others_stayed}
pub use Rattle.nd_elements.proofs.along_lemmas.LanesFolding.{foldable_alike, folded_alike}
pub use Rattle.nd_elements.proofs.along_lemmas.LanesLentAsParts.{collects_ran, lane_checked, lane_coordinate, line_same, seen_inside}
pub use Rattle.nd_elements.proofs.elements_lemmas.MappedElements.{answers_alike, contiguous_found, element_by, got_item, indexes_answered, indexes_taken, indexes_visited, joined_numbers, joined_shows, joined_there, ok_from_both, on_err_from, rearranged_there, value_by}
pub use Rattle.nd_elements.proofs.IndexesNumberedInOrder.{order_numbers}
pub use Rattle.nd_elements.proofs.elements_lemmas.PairedElements.{element_by_rank, others_stay, zips_settled}
pub use Rattle.nd_elements.proofs.NumberedCalls.{ran_at, ran_listed, ran_weaker}
pub use Rattle.nd_elements.proofs.elements_lemmas.ReplacedElements.{old_or_mapped, ranks_apart, replaced_all, replaced_part, still_holds_all}
pub use Rattle.nd_elements.proofs.along_lemmas.RotatedLanes.{rotated_below, rotated_end}
pub use Rattle.nd_elements.proofs.ElementsThroughIndexMap.{seen_element, seen_holds}
pub use Rattle.nd_elements.proofs.WriteAtOneIndex.{is_index_same, one_index, swapped_element, written_element}
pub use Rattle.nd_elements.proofs.tasks.StoragePartLent.{whole_holds}
pub use Rattle.nd_elements.specs.StorageByLayout.{HoldsEach, shown_at}
pub use Rattle.nd_elements.specs.ElementsByRank.{BuiltShape, found_by_rank}
pub use Rattle.nd_elements.specs.LackOfMemory.{MayLackBelow, MayLackForClone, MayLackForClones}
pub use Rattle.nd_elements.specs.EqualClones.{ClonesAreEqual, ClonesOfAllAreEqual, StoredClonesAreEqual}
pub use Rattle.nd_elements.specs.CollectedElements.{IsFront, collected, stored_along, stored_by_rank}
pub use Rattle.nd_elements.specs.ElementBorrowEnds.{KeepsPlaces}
pub use Rattle.nd_elements.specs.CallsInFreeOrder.{AnswersIndex, AnswersNothing, AnswersThere, HasAnswers, HasAnswersByIndex, ListsBox}
pub use Rattle.nd_elements.specs.ShapeAndElements.{Meaning, inside, row_major_elements}
pub use Rattle.nd_elements.specs.OverwrittenStorageElements.{written_again, written_itself, written_long}
pub use Rattle.nd_elements.specs.ElementsAtNumberedPlaces.{ClonesAreEqualAt, Holds, MayLackAt, PlacesDiffer, elements_at}
pub use Rattle.nd_elements.specs.StoragePlaces.{HoldsAll, ShareNoPlace, kept_at, names_place, place_number, stored_at, written_at}
pub use Rattle.nd_elements.specs.RunBorrowEnds.{HasRunAt, IsOutsideRun, IsRunAt}
pub use Rattle.nd_elements.specs.ScopedStorageCalls.{IsNamedPart, with_named}
pub use Rattle.nd_elements.specs.StorageFrame.{Owned}
pub use Rattle.nd_elements.specs.StorageLaws.{HoldsWrittenRun, KeepsOutsideRun}
pub use Rattle.nd_elements.specs.BorrowedAndOwnedStorages.{held_by, room_of, shown_by, stored_list}
pub use Rattle.nd_elements.specs.WritesByIndex.{OthersStay, is_index, with_element_at}
pub use Rattle.nd_elements.specs.along.AccumulateAlongAxis.{AccumulableAlong, AccumulatesAll, AccumulatesBy, AreAccumulated, AreAccumulatedBy, ChangesAfter, StartsAlong, TakesLanes}
pub use Rattle.nd_elements.specs.along.AxisLanes.{IsPairing, LanePlaces, LieAlong, LieThrough}
pub use Rattle.nd_elements.specs.along.FoldOfLanes.{AreFoldedTo, AreLanesFolded, FoldableLanes, FoldableNumbered, FoldsBetween}
pub use Rattle.nd_elements.specs.along.PlacesOfAxisLanes.{lanes_in}
pub use Rattle.nd_elements.specs.along.LanesWritten.{AnswersHandedLanesBy, AreHandedOut, LeavesLane, LeavesLanesBy, MayBeHandedLane, lane_held, lanes_held}
pub use Rattle.nd_elements.specs.along.RemovedIndex.{AreMovedBy, front_slice, removed_index, removed_shape, rotated, rotated_index}
pub use Rattle.nd_elements.specs.along.CallsRisingAlongLanes.{RisesAlong, next_index}
pub use Rattle.nd_elements.specs.declared.along.lane_mut.LaneMut.{LaneMut}
pub use Rattle.nd_elements.specs.declared.storage.OwnedRepr.{OwnedRepr}
pub use Rattle.nd_elements.specs.elements.ElementChanges.{ChangeableInAnyOrder, ChangesAlike, ChangesAll, ChangesBy, ChangesEach, IsChangedBy, MayChangeEach}
pub use Rattle.nd_elements.specs.elements.ElementFolds.{FoldsEach, MayFoldEach, RanTo}
pub use Rattle.nd_elements.specs.elements.ElementHashes.{FeedsEach}
pub use Rattle.nd_elements.specs.elements.ElementMaps.{AnswersAt, AnswersAfter, AnswersForEach, AnswersElement, AnswersValue, AnswersValues, AskableOfAll, MayBeGiven, MayBeShown, MayGiveEach, MayShowEach, Replaces, ReplacesEach, ReplacesInPart, CallsWithEach, TakesAt, TakesNumbered}
pub use Rattle.nd_elements.specs.elements.ElementMapsMut.{AnswersHandedBy, Collects, HandsEach, LeavesAndAnswers, LeavesBy, MayBeHanded, MayHandEach, TakesCollecting, paired_at}
pub use Rattle.nd_elements.specs.elements.PairsWithOneWritten.{IsOldOrOf, ZippableInAnyOrder, ZipsAll, option_both}
pub use Rattle.nd_layout.proofs.PlacesWithinSpan.{place-in_box, span_of-reaches}
pub use Rattle.nd_layout.proofs.growing_lemmas.LongerBoxes.{in_box-longer}
pub use Rattle.nd_layout.proofs.DistinctPlaces.{same_index}
pub use Rattle.nd_layout.proofs.growing_lemmas.FreshStorageAxisOrder.{fresh_full, fresh_ready, fresh_valid, length-growing_strides, others_there}
pub use Rattle.nd_layout.proofs.growing_lemmas.GrowingStrides.{growing_strides-is, grown_small}
pub use Rattle.nd_layout.proofs.growing_lemmas.GrownLayout.{base_full}
pub use Rattle.nd_layout.proofs.Integers.{abs-mul, add-mul, one-mul, sums, zero-mul}
pub use Rattle.nd_layout.proofs.walk_lemmas.LaneIndexes.{column_index-column_rank, slow_index}
pub use Rattle.nd_layout.proofs.walk_lemmas.PlacesCutIntoLanes.{along_last, cut_last, size_of-front}
pub use Rattle.nd_layout.proofs.order_lemmas.MemoryOrder.{same_placement}
pub use Rattle.nd_layout.proofs.order_lemmas.RunAsOneLane.{from_low, is_number, low_room}
pub use Rattle.nd_layout.proofs.reshape_lemmas.AxesFromFastest.{displacement_of-ordered, in_box-ordered, rank_in-below, rank_in-ordered, size_of-ordered}
pub use Rattle.nd_layout.proofs.PermutedAxes.{axis_below, in_box-unpermuted, length-permuted, length-unpermuted, nonzero-cons, permuted-unpermuted, unpermuted-permuted}
pub use Rattle.nd_layout.proofs.NthElementInColumnMajor.{column_rank-column_index, in_box-column_index}
pub use Rattle.nd_layout.proofs.AxisRemovedOrInserted.{HasCheckedSize-removed, in_box-inserted, size_of-removed}
pub use Rattle.nd_layout.proofs.reshape_lemmas.RunFromSpan.{above_low, above_low-is, above_low-lt, each_above_low}
pub use Rattle.nd_layout.proofs.reshape_lemmas.RunBySpanAndStrides.{run_span, run_strides}
pub use Rattle.nd_layout.proofs.SizesOfChangedAxes.{HasCheckedSize-set, nonzero_product-set, size-le-product, size_of-set, zero_factor}
pub use Rattle.nd_layout.proofs.SlicedAxis.{stepped_from-within, steps_below}
pub use Rattle.nd_layout.proofs.SumsInAnyAxisOrder.{times, times_is}
pub use Rattle.nd_layout.proofs.walk_lemmas.NextIndexOfWalk.{row_rank-origin}
pub use Rattle.nd_layout.proofs.steps.AxisCollapseSplitInvert.{positive}
pub use Rattle.nd_layout.proofs.steps.BroadcastStep.{broadcast_is_seen}
pub use Rattle.nd_layout.proofs.steps.DiagonalStep.{diagonal_is_step, some_length}
pub use Rattle.nd_layout.proofs.steps.SwappedOrReversedAxes.{in_own_order, once_in_range, reverse_is_step, swap_back, swap_is_step}
pub use Rattle.nd_layout.proofs.steps.GivenStrides.{asked_of_some, given_is_valid}
pub use Rattle.nd_layout.proofs.steps.MergeStep.{merged_or_kept}
pub use Rattle.nd_layout.proofs.steps.NewLayoutsInAnOrder.{IsRanked, none_or_some, ordered_is_ranked, ranked_place}
pub use Rattle.nd_layout.proofs.steps.IndexAxisAndInsertAxis.{insert_is_step}
pub use Rattle.nd_layout.proofs.steps.SliceLoop.{coordinate_within}
pub use Rattle.nd_layout.proofs.steps.SlicingOneAxis.{high_within, slice_within, step_moves}
pub use Rattle.nd_layout.proofs.steps.SqueezeStep.{length-stays}
pub use Rattle.nd_layout.proofs.steps.StepsKeepValidLayouts.{seen_reaches, step_seen, step_separated, step_some, step_valid}
pub use Rattle.nd_layout.proofs.steps.PlaceComputedByAxes.{place_below}
pub use Rattle.nd_layout.specs.GivenStrides.{given_place, ordered_strides}
pub use Rattle.nd_layout.specs.GrowthAlongAxis.{After, Empty, Fresh, GrowthCase, Moved, Unchanged, growing_strides, grown_shape, growth_case, must_move, strides_of_appended, strides_in_case}
pub use Rattle.nd_layout.specs.NumberedPlacesAndWalks.{by_rank}
pub use Rattle.nd_layout.specs.OrderOfAppendedPlaces.{FillsStorage, IsFilledAfter, IsGrown, IsTailOrder}
pub use Rattle.nd_layout.specs.MergedAxes.{merged_index, merged_shape}
pub use Rattle.nd_layout.specs.LayoutStepsOfCalls.{KeepsApart, Placement, as_placement, placement_of}
pub use Rattle.nd_layout.specs.ValidMemoryPlaces.{ReachesPlaces, is_place}
pub use Rattle.nd_layout.specs.RanksAndReshapeStrides.{IsRun, IsStandard, Serves, index_in, rank_in}
pub use Rattle.nd_layout.specs.ConstructorRefusals.{elements_asked}
pub use Rattle.nd_layout.specs.ValidLayoutsAndSteps.{IsStep, IsValid, IsViewStep}
pub use Rattle.nd_layout.specs.StridesAfterLayoutCalls.{reach_down, sliced_strides}
pub use Rattle.nd_layout.specs.RowMajorWalk.{IsCutInLanes, IsLastAxis, IsRearranged, IsRejoined, place_at_rank}
pub use Rattle.nd_region.proofs.PlacesNamedByLayouts.{named_at, named_by}
pub use Rattle.nd_region.proofs.RejoinedRegionMap.{merged_stored}
pub use Rattle.nd_region.proofs.LayoutsSplitOff.{named_once}
pub use Rattle.nd_region.proofs.RegionContentsForCallers.{part_holds}
pub use Rattle.nd_region.specs.RegionPlaces.{LayoutsShareNoPlace, kept_where, merged_rows, names, names_either, names_not, stored_in, written_where}
pub use Rattle.nd_region.specs.Region.{IsAsLong, IsPartWhere, IsWhole, borrow_of, region_stored, rejoined_region}
pub use Rattle.nd_region.specs.declared.divided_mutable_borrow.Region.{Region}
pub use Rattle.nd_shape_and_slice.proofs.EachAxisOnceCheck.{and_left, and_right}
pub use Rattle.nd_shape_and_slice.proofs.BoxesByCoordinate.{coordinate_below}
pub use Rattle.nd_shape_and_slice.proofs.IndexesWithChangedCoordinates.{bound_within, in_box-set, in_two_axes, stretched_index-itself, stretches_itself, upper_index-lowered}
pub use Rattle.nd_shape_and_slice.proofs.ListEdits.{first_same, got_before, got_after, got_last, got_still, insert-removed, others_same, remove-inserted, set-inserted, take_next, there_is_some}
pub use Rattle.nd_shape_and_slice.proofs.IndexInSlicesTest.{names_of, range_above}
pub use Rattle.nd_shape_and_slice.proofs.RowMajorNumberInverse.{in_box-index_at, index_at-row_rank, row_rank-index_at}
pub use Rattle.nd_shape_and_slice.proofs.RowMajorIndexList.{get_or-indexes_of, length-indexes_of, positive_at}
pub use Rattle.nd_shape_and_slice.proofs.RowMajor.{displacement_of-origin, in_box-cons, length-in_box, positive-cons, row_rank_below, zeros_in_box}
pub use Rattle.nd_shape_and_slice.proofs.NonzeroProducts.{length_within}
pub use Rattle.nd_shape_and_slice.specs.AxisPermutations.{HasEachAxis, permuted_list, unpermuted_list}
pub use Rattle.nd_shape_and_slice.specs.Broadcast.{axes_added, broadcast_index, broadcasts, stretches}
pub use Rattle.nd_shape_and_slice.specs.SliceEachAxis.{each_sliced_index, each_sliced_shape}
pub use Rattle.nd_shape_and_slice.specs.FirstIndex.{first_index}
pub use Rattle.nd_shape_and_slice.specs.LayoutIndexMaps.{collapsed_index, collapsed_shape, diagonal_index, diagonal_length, indexed_index, indexed_shape, inserted_index, inserted_shape, inverted_index, lower_shape, upper_index, upper_shape}
pub use Rattle.nd_shape_and_slice.specs.IndexesNamedBySlices.{names_index}
pub use Rattle.nd_shape_and_slice.specs.PlacesAndOverlaps.{IsSeparated, displacement_of, place_of, span_of}
pub use Rattle.nd_shape_and_slice.specs.ShapesAndIndexOrders.{HasCheckedSize, column_rank, in_box, index_at, indexes_of, nonzero_product, row_rank, size_of}
pub use Rattle.nd_shape_and_slice.specs.Slice.{bound_on, fits_axis, high_of, low_of, quotient_up, sliced_from, sliced_index, sliced_length, sliced_shape, stepped_from}
pub use Rattle.nd_shape_and_slice.specs.SliceInfo.{axes_kept, coordinate_on, each_fits, fits_shape, index_before, shape_after}
pub use Rattle.nd_shape_and_slice.specs.SlicingInTwoPasses.{collapsed_after, collapsed_before}
pub use Rattle.nd_shape_and_slice.specs.Squeeze.{all_one, isnt_one, kept_of, spread_over, squeezed_index, squeezed_shape, stays}
pub use Rattle.nd_shape_and_slice.specs.DefaultAndFortranStrides.{column_strides_from, row_strides}
pub use Rattle.nd_shape_and_slice.specs.declared.shape_builder.Order.{Order}
pub use Rattle.nd_shape_and_slice.specs.declared.shape_builder.Order.TheVariants.{ColumnMajor, RowMajor}
pub use Rattle.nd_shape_and_slice.specs.declared.errors.ErrorKind.{ErrorKind}
pub use Rattle.nd_shape_and_slice.specs.declared.errors.ErrorKind.TheVariants.{IncompatibleShape}
pub use Rattle.nd_shape_and_slice.specs.declared.fixed_dimensions.Dim.{Dim}
pub use Rattle.nd_shape_and_slice.specs.declared.slice.Slice.{Slice}
pub use Rattle.nd_shape_and_slice.specs.declared.slice_info.SliceInfoElem.{SliceInfoElem}
pub use Rattle.nd_shape_and_slice.specs.declared.slice_info.SliceInfoElem.TheVariants.{Index, NewAxis}
pub use Rattle.std.proofs.Common.{Bool, FitsSigned, IfOk, IfSome, IsOk, List, None, OnErr, OnOk, Option, Result, Some, [], add-one, ap, arith, codes, cond, drop, eqb, false, get_or, if◌then◌else◌, inl, inr, le_antisymm, leb, length, length-append, length-drop, ltb, map, max, nat_abs, neg_ℤ, negsuc, not, of_z, pos, refl, replicate, reverse, rules, set, subst, suc, sym, take, to_z, true, vec_len, w64, zero, ℕ, ℤ, ⊎_elim, ◌%◌, ◌*ℤ◌, ◌*◌, ◌++◌, ◌+ℤ◌, ◌+◌, ◌-◌, ◌/◌, ◌<◌, ◌==◌, ◌^◌, ◌||◌, ◌↔◌, ◌∙◌, ◌∷◌, ◌≡◌, ◌≤◌, ◌⊎◌}
pub use Rattle.std.proofs.Math.Bool.{or-true}
pub use Rattle.std.proofs.Math.Nat.{add-mod_right, div-lt_iff_lt-mul, div-mul-le_self, eq_of_mul-eq-mul_right, lt-div-mul-add, mod-add-mod, mod-eq_of_lt, mod-lt, mul-div_left, mul-le-mul_left, mul-le-mul_right, mul_assoc, zero-add}
pub use Rattle.std.proofs.Math.Path.{fun_ext}
pub use Rattle.std.proofs.Math.Seq.{take-length}
pub use Rattle.std.proofs.Output.{has_written_append, has_written_styled_append}
pub use Rattle.std.proofs.Props.{props}
pub use Rattle.std.proofs.lemmas.Bool.{and_from, and_parts, both_ways, cases_eq, cases_lt, eq-eqb, eqb-true, false_from_ne_true, false≢true, le-leb, le-ltb, lt-ltb, ltb-true, ne_eqb, not-true, not_from_false, or_right, true≢false}
pub use Rattle.std.proofs.lemmas.Bool.Decides.{nat_tests}
pub use Rattle.std.proofs.lemmas.Grind.{flat_map-append}
pub use Rattle.std.proofs.lemmas.Int.{of_z-to_z, to_z-of_z}
pub use Rattle.std.proofs.lemmas.List.{append-nil, append_assoc, drop_all, drop_more, ext_get_or, get_or-map, get_or-replicate, get_or-set_other, get_or-set_same, get_or_past, length-map, length-replicate, length-reverse, length-set, length-take, nil_from_length, reverse-reverse, set-get_or, set-set, take_all}
pub use Rattle.std.proofs.lemmas.List.Concat.{flat_map_single}
pub use Rattle.std.proofs.lemmas.List.Edits.{get_or-insert_at, get_or-remove_above, get_or-remove_below, length-insert, length-remove, length-swap, swapped_from_swap}
pub use Rattle.std.proofs.lemmas.List.Elements.{All-get_or, filter_map-append}
pub use Rattle.std.proofs.lemmas.List.FromFn.{get_or-map-range_with_len, get_or-range_with_len, length-map-range_with_len, length-range_with_len, map-range_with_len_more}
pub use Rattle.std.proofs.lemmas.List.Sorted.{IsPermutation-cons, IsPermutation-refl, IsPermutation-remove, IsPermutation-trans}
pub use Rattle.std.proofs.lemmas.List.Sums.{fold-append, sum_by-append, sum_by-cons, sum_by_more, sum_by_more_le}
pub use Rattle.std.proofs.lemmas.Nat.{div-add-mod', div-mul-add, mod-mul-add, mod_below, pow_pos}
pub use Rattle.std.proofs.lemmas.Option.{get_or_from_slice_get, same_Some, slice_get-get_or, slice_get_cases, slice_get_read, slice_get_within}
pub use Rattle.std.proofs.lemmas.Result.{IfErr-weaker, IfOk-weaker, on_err_weaker, on_ok_weaker}
pub use Rattle.std.specs.Borrow.{Bor, MutBor}
pub use Rattle.std.specs.Cmp.{unsigned_Decides}
pub use Rattle.std.specs.Fmt.{DisplaysOnOk, DisplaysStyledOnOk, HasWritten, HasWrittenStyled, IsFlush, IsPlainFormatter, formatter_spec, option_append}
pub use Rattle.std.specs.Fn.{Mut}
pub use Rattle.std.specs.Int.{Width, cast_signed, cast_unsigned, int_wrapping_add, w128, w16, w32, w8}
pub use Rattle.std.specs.List.{All, cons_option, filter_map, flat_map, fold, insert, position_or_len, range_with_len, remove, repeat, sum_by, swap}
pub use Rattle.std.specs.Option.{option_map, unwrap_or}
pub use Rattle.std.specs.Prelude.{Err, IfErr, IsPermutation, IsSome, IsTrue, Ok, is_some, min, nat_eq, nat_le, nat_lt, slice_get, slice_index, slice_set, vec_capacity, ⊤, ◌&&◌}
pub use Rattle.std.specs.declared.fmt.Error.{Error}
pub use Rattle.std.specs.declared.fmt.Formatter.{Formatter}
pub use Rattle.std.specs.declared.vec.Vec.{Vec}
pub use lib.Dec.{T}
pub use mathlib.Core.HLevel.{is_prop→PathP}
pub use mir.Val.{bits}
