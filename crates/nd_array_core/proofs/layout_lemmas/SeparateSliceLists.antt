-- Several lists of slices of an array whose elements may be written: the layouts that they give, and the views of these.
use Rattle.nd_array_core.proofs.NamesFromOtherCrates.{◌≡◌, ℕ, true, List, ap, sym, subst, ◌∙◌, Option, SliceInfoElem, Placement, placement_of}
use Rattle.nd_shape_and_slice.specs.declared.dimension.Dimension as dimension
use Rattle.nd_shape_and_slice.specs.declared.dimension.AxisCount as axis_count
use Rattle.nd_shape_and_slice.specs.declared.dimension.StrideList as stride_list
use Rattle.nd_elements.specs.declared.storage.Data as data_trait
use Rattle.nd_array_core.specs.declared.base.array.ArrayBase.{ArrayBase}
use Rattle.nd_array_core.specs.ArrayMeaning.{meaning_of, memory_layout_of}
use Rattle.nd_array_core.specs.PartsOfArrays.{sliced_part, ShowsPart}
use Rattle.nd_array_core.specs.layout.MultiSlice.{NameNothingInCommon, ThreeFit, FourFit, HoldsOnceBy, TwoHeld, ThreeHeld, FourHeld, ThreeApart, FourApart, TakenBy}
use Rattle.nd_array_core.specs.layout.ViewsOfStorageParts.{IsListed, LeavesOutside}
use Rattle.nd_array_core.specs.scoped.ViewTasks.{AreApart}
use Rattle.nd_array_core.proofs.layout_lemmas.DisjointSliceLists.{lists_apart}
use Rattle.nd_array_core.proofs.layout_lemmas.TakenAndLeftStorage.{step_held, left_holds, left_element, seen_part}

-- once what one placement names is taken out of a storage, the rest holds and shows those that share no place with it
module _ {A : Type 0} (m rest : ℕ → Option A) (a : Placement) (left : LeavesOutside m rest a) where
  pub outside_held : (b : Placement) → AreApart a b → HoldsOnceBy m b → HoldsOnceBy rest b
  outside_held b apart held = record { holds = left_holds m rest a.offset a.lengths a.strides b.offset b.lengths b.strides apart left held.holds; own_places = held.own_places }

  pub outside_taken : {S D T R : Type 0} {s : data_trait.Ghosts S A} {d : dimension.Ghosts D R} {n : axis_count.Ghosts D} {r : stride_list.Ghosts R} {t : stride_list.Ghosts T} (b : Placement) → AreApart a b → (v : ArrayBase S D T A R s d n r t) → TakenBy rest b v → TakenBy m b v
  outside_taken b apart v taken = (
    record {
      shape_is = taken.0.shape_is;
      strides_are = taken.0.strides_are;
      elements = λ i. taken.0.elements i ∙ left_element m rest a.offset a.lengths a.strides b.offset b.lengths b.strides apart left i;
      places = taken.0.places;
    },
    taken.1,
  )

module _ {S D A T R : Type 0} {s : data_trait.Ghosts S A} {d : dimension.Ghosts D R} {n : axis_count.Ghosts D} {r : stride_list.Ghosts R} {t : stride_list.Ghosts T} (array : ArrayBase S D T A R s d n r t) (alone : s.exclusive ≡ true) where
  abbrev whole : Placement
  whole = placement_of array.layout

  held : {es : List SliceInfoElem} {a : Placement} → IsListed whole es a → HoldsOnceBy (s.stored array.storage) a
  held is = step_held (s.stored array.storage) array.inside (array.separated alone) is.list_step

  pub apart : {es fs : List SliceInfoElem} {a b : Placement} → IsListed whole es a → IsListed whole fs b → NameNothingInCommon whole.lengths es fs → AreApart a b
  apart is is' nothing = lists_apart array alone is.lengths_are is.list_step is'.lengths_are is'.list_step nothing

  pub two_held : {es fs : List SliceInfoElem} {a b : Placement} → IsListed whole es a → IsListed whole fs b → TwoHeld (s.stored array.storage) a b
  two_held is is' = (held is, held is')

  pub three_held : {es fs gs : List SliceInfoElem} {a b c : Placement} → IsListed whole es a → IsListed whole fs b → IsListed whole gs c → ThreeHeld (s.stored array.storage) a b c
  three_held is is' is'' = (held is, two_held is' is'')

  pub four_held : {es fs gs hs : List SliceInfoElem} {a b c d' : Placement} → IsListed whole es a → IsListed whole fs b → IsListed whole gs c → IsListed whole hs d' → FourHeld (s.stored array.storage) a b c d'
  four_held is is' is'' is''' = (held is, three_held is' is'' is''')

  pub three_apart : {es fs gs : List SliceInfoElem} {a b c : Placement} → ThreeFit whole.lengths es fs gs → IsListed whole es a → IsListed whole fs b → IsListed whole gs c → ThreeApart a b c
  three_apart fit is is' is'' = (apart is is' fit.2, apart is is'' fit.3, apart is' is'' fit.1.2)

  pub four_apart : {es fs gs hs : List SliceInfoElem} {a b c d' : Placement} → FourFit whole.lengths es fs gs hs → IsListed whole es a → IsListed whole fs b → IsListed whole gs c → IsListed whole hs d' → FourApart a b c d'
  four_apart fit is is' is'' is''' = (three_apart fit.1 is' is'' is''', apart is is' fit.2, apart is is'' fit.3, apart is is''' fit.4)

  module _ {Z E U X : Type 0} {z : data_trait.Ghosts Z A} {e : dimension.Ghosts E X} {k : axis_count.Ghosts E} {x : stride_list.Ghosts X} {u : stride_list.Ghosts U} (v : ArrayBase Z E U A X z e k x u) where
    -- the view of a list's layout is the part that the list names
    pub listed_part : {es : List SliceInfoElem} {a : Placement} → IsListed whole es a → TakenBy (s.stored array.storage) a v → ShowsPart array (sliced_part array es) v
    unfolding meaning_of memory_layout_of
    listed_part is taken = seen_part (s.stored array.storage) is.lengths_are is.strides_are (λ none. ap (λ (l : Placement). l.offset) taken.1 ∙ is.empty none) is.list_step taken.0

    -- and the list gives the layout of the view itself
    pub view_listed : {es : List SliceInfoElem} {a : Placement} {m : ℕ → Option A} → IsListed whole es a → TakenBy m a v → IsListed whole es (placement_of v.layout)
    view_listed {es = es} is taken = subst (λ (l : Placement). IsListed whole es l) (sym taken.1) is
