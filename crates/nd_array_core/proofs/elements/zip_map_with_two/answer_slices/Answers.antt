use Rattle.nd_elements.proofs.NamesFromOtherCrates.{◌<◌, ◌∙◌, arith, sym, subst}
use Rattle.nd_elements.proofs.elements_lemmas.MappedElements.{got_there, after_ran, after_more}
use Rattle.nd_array_core.specs.elements.TripleMaps.{AnswersTriple, items_show}
use Rattle.nd_array_core.proofs.elements_lemmas.ClosuresOnTriples.{triple_is}
use Rattle.nd_array_core.proofs.elements.zip_map_with_two.answer_slices.Goals as goal

pub f-requires : goal.f-requires
f-requires g c =
    let xs = c.args.xs.now in
    let ys = c.args.ys.now in
    let zs = c.args.zs.now in
    let nth = c.loop-nth.nth in
    c.requires.callable nth c.loop-nth.f c.loop-nth-test.true
    (after_ran (AnswersTriple g.F.FnMut) (items_show xs ys zs) nth c.args.items.now.items c.loop-nth.items.items c.args.f c.loop-nth.f c.loop-nth.invariant.0)
    _ _ _
    (triple_is (got_there xs nth c.index-xs-nth.result c.loop-nth-test.true c.index-xs-nth.is) (got_there ys nth c.index-ys-nth.result (subst (λ n. nth < n) (sym c.requires.two) c.loop-nth-test.true) c.index-ys-nth.is)
    (got_there zs nth c.index-zs-nth.result (subst (λ n. nth < n) (sym c.requires.three) c.loop-nth-test.true) c.index-zs-nth.is))

pub loop-nth-preserved : goal.loop-nth-preserved
loop-nth-preserved g c =
    let xs = c.args.xs.now in
    let ys = c.args.ys.now in
    let zs = c.args.zs.now in
    let nth = c.loop-nth.nth in (
      after_more (AnswersTriple g.F.FnMut) (items_show xs ys zs) nth c.args.items.now.items c.loop-nth.items.items c.push_reserved.new.self.items c.args.f c.loop-nth.f c.f.new.self c.f.result c.push_reserved.ensures.items (
        _,
        _,
        _,
        triple_is (got_there xs nth c.index-xs-nth.result c.loop-nth-test.true c.index-xs-nth.is) (got_there ys nth c.index-ys-nth.result (subst (λ n. nth < n) (sym c.requires.two) c.loop-nth-test.true) c.index-ys-nth.is)
            (got_there zs nth c.index-zs-nth.result (subst (λ n. nth < n) (sym c.requires.three) c.loop-nth-test.true) c.index-zs-nth.is),
        c.f.ensures,
      )
          c.loop-nth.invariant.0,
      (let len = c.loop-nth.invariant.1 in let more = c.push_reserved.ensures.len in omega (arith, len, more)),
      c.push_reserved.ensures.capacity ∙ c.loop-nth.invariant.2,
    )
