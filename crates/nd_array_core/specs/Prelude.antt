-- The words that callers' clauses cite most, passed on from one place. This file declares nothing of its own.
-- What an array is: its shape and its elements, and how it lies in memory.
pub use Rattle.nd_array_core.specs.ArrayMeaning.{Meaning, meaning_of, shape_of, element_at, inside, place_at, storage_of, layout_strides, layout_offset}
pub use Rattle.nd_array_core.specs.ArrayInStorage.{element_placed}
pub use Rattle.nd_array_core.specs.ElementsByCoordinates.{element_of_1, element_of_2, element_of_3, HasLength, HasRowsAndColumns, HasCells, HasCellsOf1, HasCellsOf3}
-- Tables and lines, and the steps that make one from another.
pub use Rattle.nd_array_core.specs.MatricesAndVectors.{Table, Line, rows_of, columns_of, table_of, line_of, channel_of, page_of, HasCellsOf, HasRowsBelow, HasMoreRows, ShowsTable, ShowsLine, SameTable}
pub use Rattle.nd_array_core.specs.MatricesAndVectors.{table_of_cells, table_of_list, cropped, every_row, every_column, row_of, column_of, diagonal_of, line_part}
pub use Rattle.nd_array_core.specs.MatricesAndVectors.{turned_half, turned_quarter, flipped, mirrored, transposed, joined_below, joined_right}
pub use Rattle.nd_array_core.specs.MatricesAndVectors.{with_row_below, with_column_right, chosen_rows, chosen_columns, without_row, mapped}
pub use Rattle.nd_array_core.specs.MatricesAndVectors.{with_cell, with_row, with_column, with_rows_exchanged}
pub use Rattle.nd_array_core.specs.MatricesAndVectors.{HasRectangle, HasPatch, MapsRectangle, SameAround, SameAroundPatch, SameOtherRows}
pub use Rattle.nd_array_core.specs.ConcatenationAndSplit.{row_major_elements, concatenated, concatenated_shape}
pub use Rattle.nd_array_core.specs.SumsCountsAndExtrema.{sum_below, max_below, min_below, count_below, value_or_0, is_value, bits_or_0}
pub use Rattle.nd_array_core.specs.EqualityAndHashing.{EqualEverywhere}
pub use Rattle.nd_array_core.specs.LayoutLaws.{NothingOutside}
-- Shapes, slices and orders.
pub use Rattle.nd_shape_and_slice.specs.ShapesAndIndexOrders.{in_box, size_of, row_rank, index_at, HasCheckedSize}
pub use Rattle.nd_shape_and_slice.specs.FirstIndex.{first_index}
pub use Rattle.nd_shape_and_slice.specs.Slice.{fits_axis, sliced_shape, sliced_index}
pub use Rattle.nd_shape_and_slice.specs.SliceInfo.{axes_read, axes_kept, coordinate_on, fits_shape, shape_after, index_before}
pub use Rattle.nd_shape_and_slice.specs.LayoutIndexMaps.{indexed_shape, indexed_index, inverted_index, lower_shape, upper_shape, upper_index}
pub use Rattle.nd_shape_and_slice.specs.Broadcast.{broadcasts}
pub use Rattle.nd_shape_and_slice.specs.declared.slice.Slice.{Slice}
pub use Rattle.nd_shape_and_slice.specs.declared.slice_info.SliceInfoElem.{SliceInfoElem}
pub use Rattle.nd_shape_and_slice.specs.declared.errors.ErrorKind.{ErrorKind}
pub use Rattle.nd_shape_and_slice.specs.declared.shape_builder.Order.TheVariants.{RowMajor, ColumnMajor}
pub use Rattle.nd_shape_and_slice.specs.declared.errors.ErrorKind.TheVariants.{IncompatibleShape, IncompatibleLayout, OutOfBounds, Unsupported, Overflow}
-- Parts of an array, and what a call leaves unchanged outside of one.
pub use Rattle.nd_array_core.specs.PartsOfArrays.{axis_part, sliced_part, coordinate_part, diagonal_part, ShowsPart, ShowsWhole}
pub use Rattle.nd_array_core.specs.layout.MultiSlice.{TwoFit, ThreeFit, FourFit}
pub use Rattle.nd_array_core.specs.layout.ArrayAfterMutableView.{IsRefilled}
pub use Rattle.nd_array_core.specs.scoped.TasksOnParts.{IsFilledWith, KeepsBut, KeepsButTwo, KeepsButSlices, KeepsButThreeSlices, KeepsButFourSlices}
pub use Rattle.nd_array_core.specs.scoped.FilledParts.{FillsNamed, KeepsOtherIndexes}
pub use Rattle.nd_array_core.specs.scoped.AssignedOrChangedParts.{AssignsNamed, FitsPart, IsOldOr, IsShown}
pub use Rattle.nd_array_core.specs.scoped.SlicesLentAsViews.{KeepsUnseen, meant_by, vec_refusal_for}
pub use Rattle.nd_array_core.specs.scoped.ViewTasks.{view_frame, lent_frame, lent_view, view_left, CanBeSeen}
-- Clones, storages, and elements written.
pub use Rattle.nd_array_core.specs.base.NewArrays.{ClonesAreEqual, EachCloneIsEqual, ClonesOfAllAreEqual}
pub use Rattle.nd_elements.specs.LackOfMemory.{MayLackForClone}
pub use Rattle.nd_elements.specs.BorrowedAndOwnedStorages.{stored_list, room_of}
pub use Rattle.nd_array_core.specs.base.ArrayWrites.{KeepsFrame, with_element_at, with_swapped_at}
-- Calls over elements, along an axis, and over two arrays.
pub use Rattle.nd_elements.specs.elements.ElementMaps.{IsMappedBy, IsOldOrMapped}
pub use Rattle.nd_array_core.specs.elements.IndexedChanges.{IsMappedByIndex}
pub use Rattle.nd_array_core.specs.elements.BroadcastPairs.{option_both, broadcast_at, IsOldOrOf}
pub use Rattle.nd_array_core.specs.elements.TripleMaps.{ShowsOfThree, option_of_three}
pub use Rattle.nd_array_core.specs.along.SelectedCoordinates.{selected_shape, AreCoordinates}
pub use Rattle.nd_elements.specs.along.AccumulateAlongAxis.{AreAccumulatedBy}
pub use Rattle.nd_array_core.specs.along.AxisFolds.{lane_elements, AreFoldedBy}
pub use Rattle.nd_array_core.specs.along.AxisMaps.{lanes_of, lane_seen}
pub use Rattle.nd_array_core.specs.along.LanesOfArrayWritten.{lane_held, held_at, IsSameLane, AreLeftBy}
-- Other shapes of the same elements, and arrays that grow.
pub use Rattle.nd_array_core.specs.reshape.ElementsAsSlice.{IsStandardArray, IsRunArray, IsInMemoryOrder, LiesByRank}
pub use Rattle.nd_array_core.specs.reshape.ReshapeByRank.{regrouped_index}
pub use Rattle.nd_array_core.specs.reshape.ServingStrides.{StridesServe}
pub use Rattle.nd_array_core.specs.growth.Append.{FitsAfter}
pub use Rattle.nd_array_core.specs.growth.StorageOfAppend.{GoesOn, IsReadyAlong, IsReadyFor}
pub use Rattle.nd_array_core.specs.growth.AppendEach.{meanings_of, lengths_along, joined_in_turn, ClonesOfEachAreEqual, FitInTurn, JoinsAllAlike}
