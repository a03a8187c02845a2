-- What proofs of this crate take from other crates, through one door: a proof names what it uses of it in one line. Declares nothing.
pub use Rattle.nd_shape_and_slice.proofs.EachAxisOnceCheck.{pass_range, range_pass}
pub use Rattle.nd_shape_and_slice.proofs.BoxesByCoordinate.{coordinate_below, in_box-drop, in_box-from_coordinates}
pub use Rattle.nd_shape_and_slice.proofs.ColumnMajor.{IsSeparated-column_strides, column_rank_below, displacement_of-column, f_strides-empty, f_strides-full, length-column_strides_from, span_of-column_strides}
pub use Rattle.nd_shape_and_slice.proofs.FillLoop.{IsFilledBelow, filled_all, filled_more, filled_none}
pub use Rattle.nd_shape_and_slice.proofs.IndexesWithChangedCoordinates.{in_box-set, upper_index-lowered}
pub use Rattle.nd_shape_and_slice.proofs.ListEdits.{first_same, insert-removed, remove-inserted, set-inserted}
pub use Rattle.nd_shape_and_slice.proofs.PermuteLoop.{IsPermutedBelow, permuted_all, permuted_more, permuted_none}
pub use Rattle.nd_shape_and_slice.proofs.RowMajorNumberInverse.{in_box-index_at, index_at-row_rank, row_rank-index_at}
pub use Rattle.nd_shape_and_slice.proofs.RowMajorIndexList.{positive_at}
pub use Rattle.nd_shape_and_slice.proofs.RowMajor.{IsSeparated-row_strides, c_strides-empty, c_strides-full, displacement_of-origin, displacement_of-row, in_box-cons, length-in_box, length-row_strides, nonzero_product-size_of, positive-cons, row_rank_below, size_of-drop-le, span_of-row_strides, span_of-zeros, span_within-le, zeros_in_box}
pub use Rattle.nd_shape_and_slice.proofs.NonzeroProducts.{length_within, nonzero_product_positive, size_of-drop}
pub use Rattle.nd_shape_and_slice.specs.AxisPermutations.{HasEachAxis, permuted_list, unpermuted_list}
pub use Rattle.nd_shape_and_slice.specs.Broadcast.{axes_added, broadcast_index, broadcasts, stretched_index, stretches}
pub use Rattle.nd_shape_and_slice.specs.AxisDescriptions.{axes_from}
pub use Rattle.nd_shape_and_slice.specs.SliceEachAxis.{AnswersAre, AnswersFit, each_sliced_index, each_sliced_shape}
pub use Rattle.nd_shape_and_slice.specs.FirstIndex.{first_index}
pub use Rattle.nd_shape_and_slice.specs.LayoutIndexMaps.{collapsed_index, collapsed_shape, diagonal_index, diagonal_length, indexed_index, indexed_shape, inserted_index, inserted_shape, inverted_index, least_of, lower_shape, upper_index, upper_shape}
pub use Rattle.nd_shape_and_slice.specs.PlacesAndOverlaps.{IsSeparated, displacement_of, magnitude_at, place_of, span_of, span_within}
pub use Rattle.nd_shape_and_slice.specs.ShapesAndIndexOrders.{HasCheckedSize, column_rank, in_box, index_at, nonzero_product, row_rank, size_of}
pub use Rattle.nd_shape_and_slice.specs.Slice.{bound_on, end_on, fits_axis, high_of, low_of, quotient_up, sliced_from, sliced_index, sliced_length, sliced_shape, stepped_from}
pub use Rattle.nd_shape_and_slice.specs.SliceInfo.{axes_kept, axes_read, coordinate_on, each_fits, fits_next, index_before, keeps_axis, reads_axis, shape_after}
pub use Rattle.nd_shape_and_slice.specs.SlicingInTwoPasses.{collapsed_after, collapsed_before, index_with, indexed_ones, kept_items, next_axis, put_back, shape_with}
pub use Rattle.nd_shape_and_slice.specs.Squeeze.{all_one, goes_at, index_squeezed_at, isnt_one, kept_of, shape_squeezed_at, spread_over, stays}
pub use Rattle.nd_shape_and_slice.specs.DefaultAndFortranStrides.{c_strides, column_strides_from, f_strides, row_strides}
pub use Rattle.nd_shape_and_slice.specs.declared.shape_builder.Order.{Order}
pub use Rattle.nd_shape_and_slice.specs.declared.shape_builder.Order.TheVariants.{ColumnMajor, RowMajor}
pub use Rattle.nd_shape_and_slice.specs.declared.axis_descriptions.AxisDescription.{AxisDescription}
pub use Rattle.nd_shape_and_slice.specs.declared.errors.ErrorKind.TheVariants.{OutOfBounds, Overflow, Unsupported}
pub use Rattle.nd_shape_and_slice.specs.declared.slice.Slice.{Slice}
pub use Rattle.nd_shape_and_slice.specs.declared.slice_info.SliceInfoElem.{SliceInfoElem}
pub use Rattle.nd_shape_and_slice.specs.declared.slice_info.SliceInfoElem.TheVariants.{Index, NewAxis}
pub use Rattle.std.proofs.Common.{Bool, Fits, FitsSigned, List, MatchOption, None, Option, Some, [], add-one, ap, append_assoc, arith, below_more, cond, drop, drop-cons, eqb, false, get_or, inl, inr, leb, length, ltb, map, max, min, nat_abs, nat_eq, negsuc, not, of_z, pos, refl, replicate, reverse, rules, set, slice_index, slice_index_or, subst, suc, sym, take, take_all, to_z, true, w64, zero, ℕ, ℤ, ⊎_elim, ◌%◌, ◌&&◌, ◌*ℤ◌, ◌*◌, ◌++◌, ◌+ℤ◌, ◌+◌, ◌-ℤ◌, ◌-◌, ◌/◌, ◌<◌, ◌^◌, ◌||◌, ◌↔◌, ◌∙◌, ◌∷◌, ◌≡◌, ◌≢◌, ◌≤◌, ◌⊎◌}
pub use Rattle.std.proofs.Math.Arith.{lt-one}
pub use Rattle.std.proofs.Math.Bool.{and-false}
pub use Rattle.std.proofs.Math.IntN.{+ℤ_assoc, +ℤ_idr, pos-*ℤ-pos}
pub use Rattle.std.proofs.Math.ListN.{drop_of_length-le}
pub use Rattle.std.proofs.Math.Nat.{add-mul-div_left, add-mul-mod_self_left, div-add-mod, div-div-eq-div-mul, div-eq_of_lt, div-lt_iff_lt-mul, div-one, eq-or-lt_of_le, eq_of_mul-eq-mul_left, eq_of_mul-eq-mul_right, le-mul_of_pos_right, le_of_mul-le-mul_left, mod-add-div, mod-eq_of_lt, mod-lt, mod-one, mul-div_cancel_left, mul-div_right, mul-le-mul_left, mul-le-mul_right, mul-lt-mul_of_pos_left, mul-mod_right, mul-pos, mul_assoc, mul_comm, mul_left_comm, zero-add, zero-div, zero-mod}
pub use Rattle.std.proofs.Props.{props}
pub use Rattle.std.proofs.lemmas.Bool.{and_cases, and_from, and_parts, cases_eq, cases_lt, cases_order, eq-eqb, eqb-false, eqb-true, false≢true, le-leb, le-ltb, leb-true, lt-leb, lt-ltb, ltb-false, ltb-true, ne_eqb, or_cases, or_left, or_parts, or_right, true≢false}
pub use Rattle.std.proofs.lemmas.Bool.Decides.{nat_tests}
pub use Rattle.std.proofs.lemmas.Grind.{get_or-set_at}
pub use Rattle.std.proofs.lemmas.Int.{ints, to_z-of_z, to_z_pos, unsigned_abs-mul}
pub use Rattle.std.proofs.lemmas.List.{append-nil, drop-set, drop-set-lt, drop_all, drop_more, ext_get_or, get_or-append_right, get_or-drop, get_or-map, get_or-replicate, get_or-reverse, get_or-set_other, get_or-set_same, get_or_append_left, get_or_default, get_or_past, length-append, length-drop, length-map, length-replicate, length-reverse, length-set, length-take, map-set, reverse-reverse, same_lists, set-get_or, set-set, set_comm, take-append-drop, take-set-le, take_more, take_more_set}
pub use Rattle.std.proofs.lemmas.List.Edits.{get_or-insert_above, get_or-insert_at, get_or-insert_below, get_or-remove_above, get_or-remove_below, length-insert, length-remove, length-swap, swap_is, swapped_from_swap}
pub use Rattle.std.proofs.lemmas.List.FromFn.{get_or-map-range_with_len, get_or-range_with_len, length-map-range_with_len, length-range_with_len}
pub use Rattle.std.proofs.lemmas.List.Sorted.{IsPermutation-reverse, IsPermutation-swap, sum_by-IsPermutation}
pub use Rattle.std.proofs.lemmas.List.Sums.{passes_at_first, sum_by-cons, sum_by-set}
pub use Rattle.std.proofs.lemmas.Nat.{div-add-mod', div-mul-add, mod-mul-add, mod_below}
pub use Rattle.std.specs.Int.RustNames.{int_lt}
pub use Rattle.std.specs.List.{count_by, insert, position_or_len, range_with_len, remove, sum, swap}
pub use Rattle.std.specs.List.Sorted.{IsPermutation}
pub use Rattle.std.specs.Option.{unwrap_or}
pub use Rattle.std.specs.Prelude.{IsTrue, is_some, nat_lt, slice_get}
pub use lib.Arith.{mod-mul}
pub use lib.IntN.{*ℤ-negsuc, *ℤ_comm, +ℤ_idl, neg_ℤ, suc_ℤ-*ℤ, zero-*ℤ}
pub use lib.Signed.{le_z}
pub use mathlib.Core.HLevel.{is_prop→PathP}
pub use mathlib.Core.List.{reverse-cons}
