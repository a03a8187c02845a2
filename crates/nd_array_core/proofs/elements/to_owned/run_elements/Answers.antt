use Rattle.nd_array_core.proofs.NamesFromOtherCrates.{◌≡◌, ◌∙◌, ◌+◌, ◌-◌, ◌<◌, ap, sym, subst, get_or, rules, Some, is_some, reach_down}
use Rattle.nd_array_core.specs.ArrayMeaning.{meaning_of, memory_layout_of}
use Rattle.nd_array_core.proofs.reshape_lemmas.MemoryOrder.{run_has, run_lies, run_shifted}
use Rattle.nd_array_core.proofs.elements.to_owned.run_elements.Goals as goal

pub run-requires : goal.run-requires
unfolding meaning_of memory_layout_of
run-requires g c k below =
    let array = c.args.array.now in
    let ns = g.D.Dimension.lengths array.layout.dim in
    let ss = g.D.Strides.StrideList.strides_of array.layout.strides in
    let down : c.reach_below-below.result ≡ reach_down ns ss = rw (c.slice.ensures.lengths, c.slice-2.ensures) at c.reach_below-below.ensures in
    let low : c.saturating_sub-first.result ≡ array.layout.offset - reach_down ns ss = c.saturating_sub-first.ensures ∙ ap (λ b. array.layout.offset - b) down in
    ap is_some (c.borrowed.ensures (c.saturating_sub-first.result + k))
    ∙ ap (λ p. is_some (g.S.Data.stored array.storage (p + k))) low
    ∙ run_has (g.S.Data.stored array.storage) array.layout.offset ns ss array.layout.as_many array.inside c.requires k (subst (λ n. k < n) c.size.ensures below)

pub returns : goal.returns
unfolding meaning_of memory_layout_of
returns g c =
    let array = c.args.array.now in
    let ns = g.D.Dimension.lengths array.layout.dim in
    let ss = g.D.Strides.StrideList.strides_of array.layout.strides in
    let stored = g.S.Data.stored array.storage in
    let down : c.reach_below-below.result ≡ reach_down ns ss = rw (c.slice.ensures.lengths, c.slice-2.ensures) at c.reach_below-below.ensures in
    let low : c.saturating_sub-first.result ≡ array.layout.offset - reach_down ns ss = c.saturating_sub-first.ensures ∙ ap (λ b. array.layout.offset - b) down in
    record {
      order = run_lies stored array.layout.offset ns ss array.layout.as_many array.inside c.requires c.run.result.now (c.run.ensures.count ∙ c.size.ensures)
          (λ k d below. subst (λ p. stored (p + k) ≡ Some (get_or c.run.result.now k d)) low
          (sym (c.borrowed.ensures (c.saturating_sub-first.result + k)) ∙ c.run.ensures.elements k d (subst (λ n. k < n) (sym c.size.ensures) below)));
      count = search rules;
      shifted = run_shifted stored array.layout.offset ns ss array.layout.as_many array.inside c.requires c.run.result.now (c.run.ensures.count ∙ c.size.ensures)
          (λ k d below. subst (λ p. stored (p + k) ≡ Some (get_or c.run.result.now k d)) low
          (sym (c.borrowed.ensures (c.saturating_sub-first.result + k)) ∙ c.run.ensures.elements k d (subst (λ n. k < n) (sym c.size.ensures) below)));
    }
