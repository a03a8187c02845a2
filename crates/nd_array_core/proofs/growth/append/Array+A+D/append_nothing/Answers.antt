use Rattle.nd_array_core.proofs.NamesFromOtherCrates.{◌≡◌, ◌∙◌, ◌+◌, ◌<◌, ap, get_or, length, replicate, pos, sym, refl, arith, length-set, size_of, slice_get, placement_of}
use Rattle.nd_array_core.specs.ArrayMeaning.{meaning_of, memory_layout_of}
use Rattle.nd_array_core.specs.ConcatenationAndSplit.{concatenated}
use Rattle.nd_array_core.specs.growth.StorageOfAppend.{array_placement}
use Rattle.nd_array_core.proofs.growth_lemmas.AppendInFilledStorage.{fits_none, fits_size, joined_nothing, no_index, nothing_joined, same_none, shown}
use Rattle.nd_array_core.proofs.growth_lemmas.CasesOfAppend.{added_is, goes_empty, goes_same, grown_some, laid_empty, laid_same}
use Rattle.nd_array_core.proofs.growth.append.Array+A+D.append_nothing.Goals as goal
use Rattle.nd_array_core.proofs.base_lemmas.LastIndexes.{some_left}

pub returns-then-not-is_empty : goal.returns-then-not-is_empty
unfolding meaning_of memory_layout_of
returns-then-not-is_empty g c =
    let old = c.args.self.now in
    let items = old.storage.items.items in
    let ns = g.D.Dimension.lengths old.layout.dim in
    let ms = g.D.Dimension.lengths c.args.array.now.layout.dim in
    let axis = c.args.axis.0 in
    let comes = c.requires.comes in
    let some : 0 < size_of ns = some_left c.is_empty.result (size_of ns) c.if-not-is_empty.true c.is_empty.ensures.1 in
    let nothing = fits_none ns ms axis comes.axis_exists comes.other_axes_agree some c.requires.none in
    record {
      joined = sym (joined_nothing axis (meaning_of old) (meaning_of c.args.array.now) comes.axis_exists nothing (λ i outside. rw outside refl));
      laid = laid_same axis (get_or ms axis 0) (array_placement old) (array_placement old) items items refl refl (grown_some ns axis (get_or ms axis 0) comes.axis_exists some) nothing refl;
      becomes_ready = λ more. absurd (let is = added_is ns ms axis comes.axis_exists comes.other_axes_agree in omega (arith, is, more, c.requires.none));
      goes_on = goes_same axis 0 (array_placement old) (array_placement old) items items refl refl refl refl;
      room = λ _. omega arith;
    }

pub without_elements-self-requires-clause-none : goal.without_elements-self-requires-clause-none
unfolding meaning_of
without_elements-self-requires-clause-none g c =
    let ns = g.D.Dimension.lengths c.args.self.now.layout.dim in
    let ms = g.D.Dimension.lengths c.args.array.now.layout.dim in
    let size = fits_size ns ms c.args.axis.0 c.requires.comes.axis_exists c.requires.comes.other_axes_agree in
    let none = c.is_empty.ensures.0 c.if-not-is_empty.false in
    ap size_of c.requires.dim ∙ omega (arith, size, none, c.requires.none)

pub invariant_of-self : goal.invariant_of-self
unfolding meaning_of
invariant_of-self g c =
    let new = c.without_elements-self.result in
    let ns = g.D.Dimension.lengths c.args.self.now.layout.dim in
    let ms = g.D.Dimension.lengths c.args.array.now.layout.dim in
    let size = fits_size ns ms c.args.axis.0 c.requires.comes.axis_exists c.requires.comes.other_axes_agree in
    let no = c.is_empty.ensures.0 c.if-not-is_empty.false in
    let none : size_of (g.D.Dimension.lengths new.dim) ≡ 0 = ap size_of (c.without_elements-self.ensures.lengths ∙ c.requires.dim) ∙ omega (arith, size, no, c.requires.none) in
    record {
      inside = λ i h. absurd (no_index (g.D.Dimension.lengths new.dim) i none h);
      separated = λ _ some. absurd (omega (arith, none, some));
    }

pub returns : goal.returns
unfolding meaning_of memory_layout_of
returns g c =
    let old = c.args.self.now in
    let items = old.storage.items.items in
    let ns = g.D.Dimension.lengths old.layout.dim in
    let ms = g.D.Dimension.lengths c.args.array.now.layout.dim in
    let axis = c.args.axis.0 in
    let comes = c.requires.comes in
    let none = c.is_empty.ensures.0 c.if-not-is_empty.false in
    let size = fits_size ns ms axis comes.axis_exists comes.other_axes_agree in
    let laid = c.without_elements-self in
    let new = placement_of laid.result in
    let shape = laid.ensures.lengths ∙ c.requires.dim in
    let axes : length (g.D.Dimension.lengths c.args.dim) ≡ length ns = ap length c.requires.dim ∙ length-set ns axis (get_or ns axis 0 + get_or ms axis 0) in
    record {
      joined = same_none (shown new (slice_get items)) (concatenated axis (meaning_of old) (meaning_of c.args.array.now)) shape
          (omega (arith, size, none, c.requires.none)) (λ i outside. rw outside refl) (nothing_joined axis (meaning_of old) (meaning_of c.args.array.now));
      laid = laid_empty axis (get_or ms axis 0) (array_placement old) new items items refl laid.ensures.offset (omega (arith, size, none, c.requires.none))
          (laid.ensures.strides ∙ ap (λ n. replicate n (pos 0)) axes);
      becomes_ready = λ more. absurd (let is = added_is ns ms axis comes.axis_exists comes.other_axes_agree in omega (arith, is, more, c.requires.none));
      goes_on = goes_empty axis 0 (array_placement old) new items items refl laid.ensures.offset none (ap size_of shape ∙ omega (arith, size, none, c.requires.none));
      room = λ _. omega arith;
    }
