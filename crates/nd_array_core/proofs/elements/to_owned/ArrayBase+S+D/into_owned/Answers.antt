use Rattle.nd_array_core.proofs.NamesFromOtherCrates.{◌≡◌, ◌-◌, ◌∙◌, ◌⊎◌, ◌<◌, refl, sym, subst, IfOk, rules, true≢false, OnErr, IfOk-weaker, size_of, RowMajor, IsRun, reach_down}
use Rattle.nd_array_core.specs.ArrayMeaning.{shape_of, layout_strides}
use Rattle.nd_array_core.specs.base.NewArrays.{OwnsInOrder}
use Rattle.nd_array_core.proofs.reshape_lemmas.MemoryOrder.{lies_alike}
use Rattle.nd_array_core.proofs.elements.to_owned.ArrayBase+S+D.into_owned.Goals as goal

pub to_owned-requires : goal.to_owned-requires
to_owned-requires g c = record { clones = λ i x is. c.requires.clones (sym c.in-Err.ensures.owned) i x (sym (c.in-Err.ensures.kept.0.2 i) ∙ is) }

pub returns-in-Ok : goal.returns-in-Ok
returns-in-Ok g c =
    record {
      shape = c.in-Ok.ensures.whole.0;
      elements = c.in-Ok.ensures.whole.2;
      owned = λ owned. refl;
      whole = λ owned. c.in-Ok.ensures.whole;
      items = λ owned. c.in-Ok.ensures.stored;
      room = λ owned. c.in-Ok.ensures.room;
      run = λ lent. absurd (true≢false (c.in-Ok.ensures.owned ∙ lent));
      owns = λ lent. absurd (true≢false (c.in-Ok.ensures.owned ∙ lent));
      refused = search rules;
    }

pub returns-in-Err : goal.returns-in-Err
returns-in-Err g c =
    let whole = c.in-Err.ensures.kept.0 in
    record {
      shape = IfOk-weaker c.to_owned.result _ _ (λ a same. same ∙ c.in-Err.ensures.kept.0.0) c.to_owned.ensures.shape;
      elements = IfOk-weaker c.to_owned.result _ _ (λ a same i. same i ∙ c.in-Err.ensures.kept.0.2 i) c.to_owned.ensures.elements;
      owned = λ owned. absurd (true≢false (sym owned ∙ sym c.in-Err.ensures.owned));
      whole = λ owned. absurd (true≢false (sym owned ∙ sym c.in-Err.ensures.owned));
      items = λ owned. absurd (true≢false (sym owned ∙ sym c.in-Err.ensures.owned));
      room = λ owned. absurd (true≢false (sym owned ∙ sym c.in-Err.ensures.owned));
      run = λ _ run. let run_left : (size_of (shape_of c.in-Err.array) ≡ 0) ⊎ IsRun (shape_of c.in-Err.array) (layout_strides c.in-Err.array) = rw (whole.0, whole.1) run in
          IfOk-weaker c.to_owned.result _ _ (λ a copies. (copies.0 ∙ whole.1, copies.1 ∙ (λ k. reach_down (whole.0 k) (whole.1 k)), lies_alike whole.0 (λ k. whole.4 k - reach_down (whole.0 k) (whole.1 k)) whole.3 whole.2 copies.2)) (c.to_owned.ensures.run run_left);
      owns = λ _ scattered. let scattered_left = λ (run : (size_of (shape_of c.in-Err.array) ≡ 0) ⊎ IsRun (shape_of c.in-Err.array) (layout_strides c.in-Err.array)). scattered (rw (sym whole.0, sym whole.1) run) in
          subst (λ ns. IfOk c.to_owned.result (OwnsInOrder (ns, RowMajor))) whole.0 (c.to_owned.ensures.owns scattered_left);
      refused = subst (λ ns. OnErr c.to_owned.result (0 < size_of ns)) c.in-Err.ensures.kept.0.0 c.to_owned.ensures.refused;
    }
