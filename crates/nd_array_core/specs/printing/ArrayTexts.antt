-- What is printed of an array: a text made of its shape and its elements, where a function gives the text of an
-- element.
use Rattle.std.specs.Prelude.{◌+◌, ◌-◌, ◌/◌, ◌++◌, ◌==◌, ◌||◌, nat_le, nat_lt, ℕ, zero, suc, Bool, List, [], length, slice_index, Option, Some, None, codes, if◌then◌else◌}
use Rattle.std.specs.List.{repeat}
use Rattle.std.specs.Fmt.{◌++?◌}
use Rattle.nd_shape_and_slice.specs.LayoutIndexMaps.{indexed_shape, indexed_index}
use Rattle.nd_shape_and_slice.specs.ShapesAndIndexOrders.{size_of}
use Rattle.nd_elements.specs.ShapeAndElements.{Meaning, inside}

-- Returns the part of `m` at the coordinate `k` of the first axis, without the axis.
abbrev pub first_at : {A : Type 0} → Meaning A → ℕ → Meaning A
first_at m k = record { shape = indexed_shape m.shape 0; at = λ i. inside (indexed_shape m.shape 0) i (m.at (indexed_index 0 k i)) }

-- Returns up to how many entries of an axis are all shown in a large array, where `inner` axes follow the axis.
abbrev pub limit_of : ℕ → ℕ
limit_of inner = if nat_lt inner 2 then 11 else 6

-- Returns whether all `count` entries of an axis are shown: `whole` asks for it, or there are few enough.
abbrev pub shows_all : Bool → ℕ → ℕ → Bool
shows_all whole inner count = whole || nat_le count (limit_of inner)

-- Returns what stands between two entries, where `around` axes lie around them and `inner` axes within each: a comma
-- and a space between elements, and otherwise a comma, a line break for each axis within, and a space for each open
-- bracket.
abbrev pub separator_text : ℕ → ℕ → List ℕ
separator_text around inner = if inner == 0 then codes ", " else codes "," ++ (repeat inner (codes "\n") ++ repeat around (codes " "))

-- Entries one after the other, where `between` stands between two of them and `entry` gives the text of each by its
-- number.
module _ (between : List ℕ) (entry : ℕ → Option (List ℕ)) where
  -- Returns the text of the entry `k`, after what separates it from the entry before.
  abbrev pub item_text : ℕ → Option (List ℕ)
  item_text k = Some (if k == 0 then [] else between) ++? entry k

  -- Returns the text of a number of entries, from the entry `from` on.
  abbrev pub run_text : ℕ → ℕ → Option (List ℕ)
  run_text from zero = Some []
  run_text from (suc n) = run_text from n ++? item_text (from + n)

  -- Returns the text of the first `edge` and the last `edge` of `count` entries, with three dots between them.
  abbrev pub ends_text : ℕ → ℕ → Option (List ℕ)
  ends_text edge count = run_text 0 edge ++? Some (between ++ codes "...") ++? run_text (count - edge) edge

  -- Returns the text of all `count` entries, or of the first and the last ones where there are more than are shown.
  abbrev pub entries_text : Bool → ℕ → ℕ → Option (List ℕ)
  entries_text whole inner count = if shows_all whole inner count then run_text 0 count else ends_text (limit_of inner / 2) count

module _ {A : Type 0} (shown : A → Option (List ℕ)) where
  abbrev pub element_text : Option A → Option (List ℕ)
  element_text None = None
  element_text (Some x) = shown x

  module _ (whole : Bool) where
    -- Returns the text of an array with elements, where `depth` brackets are open; the second argument is the number of
    -- axes.
    abbrev pub axes_text : ℕ → ℕ → Meaning A → Option (List ℕ)
    axes_text depth zero m = element_text (m.at [])
    axes_text depth (suc inner) m = Some (codes "[")
        ++? entries_text (separator_text (depth + 1) inner) (λ k. axes_text (depth + 1) inner (first_at m k)) whole inner (slice_index m.shape 0)
        ++? Some (codes "]")

  -- Returns the text of an array: without elements, a pair of brackets for each axis; with fewer than 500 elements, or
  -- where `asked` is true, all entries; and otherwise, for each axis, all entries or the first and the last ones.
  abbrev pub array_text : Bool → Meaning A → Option (List ℕ)
  array_text asked m = if size_of m.shape == 0
      then Some (repeat (length m.shape) (codes "[") ++ repeat (length m.shape) (codes "]"))
      else axes_text (asked || nat_lt (size_of m.shape) 500) 0 (length m.shape) m

-- The parts of the text of the array `m` that has at least one axis, where `depth` brackets are open.
module _ {A : Type 0} (shown : A → Option (List ℕ)) (whole : Bool) (depth : ℕ) (m : Meaning A) where
  abbrev pub between_entries : List ℕ
  between_entries = separator_text (depth + 1) (length m.shape - 1)

  abbrev pub entry_of : ℕ → Option (List ℕ)
  entry_of k = axes_text shown whole (depth + 1) (length m.shape - 1) (first_at m k)

  abbrev pub item_of : ℕ → Option (List ℕ)
  item_of = item_text between_entries entry_of

  abbrev pub run_of_entries : ℕ → ℕ → Option (List ℕ)
  run_of_entries = run_text between_entries entry_of

  abbrev pub ends_of : ℕ → ℕ → Option (List ℕ)
  ends_of = ends_text between_entries entry_of

  abbrev pub entries_of : Option (List ℕ)
  entries_of = entries_text between_entries entry_of whole (length m.shape - 1) (slice_index m.shape 0)
