use Rattle.nd_elements.proofs.NamesFromOtherCrates.{◌≡◌, ◌∙◌, ◌+◌, ap, sym, is_some, pointwise}
use Rattle.nd_elements.specs.CollectedElements.{collected, stored_along}
use Rattle.nd_elements.proofs.elements_lemmas.ElementsCollectedInOrder.{contiguous_has, run_collected}
use Rattle.nd_elements.proofs.elements.eq.equal_contiguous.Goals as goal

pub run-xs-requires : goal.run-xs-requires
run-xs-requires g c k below =
    let ours = c.args.ours in
    ap is_some (c.borrowed.ensures (ours.place + k))
    ∙ contiguous_has (g.S.Data.stored c.args.a.now) ours.place ours.count ours.stride c.requires.steps.0 c.requires.ours k below

pub run-ys-requires : goal.run-ys-requires
run-ys-requires g c k below =
    let theirs = c.args.theirs in
    ap is_some (c.borrowed-2.ensures (theirs.place + k))
    ∙ contiguous_has (g.S.Data.stored c.args.b.now) theirs.place theirs.count theirs.stride c.requires.steps.1 c.requires.theirs k below

pub returns : goal.returns
returns g c =
    let ours = c.args.ours in
    let theirs = c.args.theirs in
    let a = g.S.Data.stored c.args.a.now in
    let b = g.S.Data.stored c.args.b.now in
    let one : c.run-xs.result.now ≡ collected (stored_along a ours.place ours.stride) ours.count = run_collected a ours.place ours.count ours.stride c.requires.steps.0 c.run-xs.result.now c.run-xs.ensures.count (λ k d below. sym (c.borrowed.ensures (ours.place + k)) ∙ c.run-xs.ensures.elements k d below) in
    let two : c.run-ys.result.now ≡ collected (stored_along b theirs.place theirs.stride) theirs.count = run_collected b theirs.place theirs.count theirs.stride c.requires.steps.1 c.run-ys.result.now c.run-ys.ensures.count (λ k d below. sym (c.borrowed-2.ensures (theirs.place + k)) ∙ c.run-ys.ensures.elements k d below) in
    let two_as_long : c.run-ys.result.now ≡ collected (stored_along b theirs.place theirs.stride) ours.count = two ∙ ap (collected (stored_along b theirs.place theirs.stride)) c.requires.as_long in
    c.equal_slice.ensures ∙ (λ i. pointwise g.S.Elem.PartialEq.eq (one i) (two_as_long i))
