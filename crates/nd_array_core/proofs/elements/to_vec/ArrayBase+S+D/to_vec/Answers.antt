use Rattle.nd_array_core.proofs.NamesFromOtherCrates.{◌≡◌, ◌∙◌, ◌<◌, ℕ, ℤ, List, ap, sym, subst, length, arith, IfOk, rules, OnErr, vec_len, false≢true, size_of, row_rank_below, IsStandard, positive, StoredClonesAreEqual, elements_equal_clones, elements_count, on_err_from}
use Rattle.nd_array_core.specs.ArrayMeaning.{meaning_of, shape_of, layout_strides}
use Rattle.nd_array_core.proofs.elements.to_vec.ArrayBase+S+D.to_vec.Goals as goal

pub clones_of_slice-requires : goal.clones_of_slice-requires
clones_of_slice-requires g c =
    subst (StoredClonesAreEqual g.S.Elem.Clone.is_clone) (sym c.in-Some.ensures.elements)
    (elements_equal_clones g.S.Elem.Clone.is_clone (meaning_of c.args.self.now) c.requires.clones)

pub returns-in-Some : goal.returns-in-Some
unfolding meaning_of
returns-in-Some g c =
    let array = c.args.self.now in
    record {
      items = search rules;
      count = subst (λ n. IfOk c.clones_of_slice.result (λ v. vec_len v ≡ n))
          (ap length c.in-Some.ensures.elements ∙ elements_count (g.S.Data.stored array.storage) array.layout.offset (g.D.Dimension.lengths array.layout.dim) (g.D.Strides.StrideList.strides_of array.layout.strides) array.inside)
          c.clones_of_slice.ensures.count;
      refused = subst (λ n. OnErr c.clones_of_slice.result (0 < n))
          (ap length c.in-Some.ensures.elements ∙ elements_count (g.S.Data.stored array.storage) array.layout.offset (g.D.Dimension.lengths array.layout.dim) (g.D.Strides.StrideList.strides_of array.layout.strides) array.inside)
          c.clones_of_slice.ensures.refused;
    }

-- there is an element where the layout isn't standard
some_scattered : (ns : List ℕ) (ss : List ℤ) → (IsStandard ns ss → ⊥) → 0 < size_of ns
some_scattered ns ss scattered = positive (size_of ns) (λ none. scattered (λ i inside. absurd (let below = row_rank_below ns i inside in omega (arith, below, none))))

pub returns-in-None-clause-refused : goal.returns-in-None-clause-refused
returns-in-None-clause-refused g c =
    let array = c.args.self.now in
    on_err_from _ c.listed_by_lanes.result (some_scattered (shape_of array) (layout_strides array) (λ standard. false≢true (c.in-None.ensures.some.1 standard)))
