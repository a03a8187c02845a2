use Rattle.std.proofs.Common.{◌≡◌, ◌∙◌, ◌+◌, ◌<◌, ◌^◌, ℕ, Bool, true, false, List, [], ◌∷◌, length, ap, arith, refl, sym}
use Rattle.nd_numeric.specs.IndexOfLeastAndGreatest.{beaten_before, beats_by}
use Rattle.nd_numeric.proofs.index_of_least_and_greatest.count_beaten.Goals as goal

module _ {A : Type 0} (beats : A → A → Bool) (r x : A) (count whole : ℕ) (left rest : List A) (steps : left ≡ x ∷ rest) where
  shorter : count + length left < 2 ^ 63 → (count + 1) + length rest < 2 ^ 63
  shorter few = let long : length left ≡ length rest + 1 = ap length steps ∙ omega arith in omega (arith, few, long)

  one_more : beats r x ≡ true → count + beaten_before beats r left ≡ whole → (count + 1) + beaten_before beats r rest ≡ whole
  one_more more so =
      let next : beaten_before beats r left ≡ beaten_before beats r rest + 1 = ap (beaten_before beats r) steps ∙ rw more refl in
      omega (arith, so, next)

  no_more : beats r x ≡ false → count + beaten_before beats r left ≡ whole → count ≡ whole
  no_more none so =
      let next : beaten_before beats r left ≡ 0 = ap (beaten_before beats r) steps ∙ rw none refl in
      omega (arith, so, next)

module _ {A : Type 0} (beats : A → A → Bool) (r : A) (count whole : ℕ) (left : List A) where
  none_left : left ≡ [] → count + beaten_before beats r left ≡ whole → count ≡ whole
  none_left none so = let next : beaten_before beats r left ≡ 0 = ap (beaten_before beats r) none in omega (arith, so, next)

pub loop-x-preserved : goal.loop-x-preserved
loop-x-preserved g c =
    let beats = beats_by g.A.Ordered.order c.args.greatest in (
      tt,
      tt,
      shorter beats c.args.best c.in-Some.x.now c.loop-x.count 0 c.loop-x.x-iterator c.next.new.self c.in-Some.ensures.steps c.loop-x.invariant.2,
      one_more beats c.args.best c.in-Some.x.now c.loop-x.count _ c.loop-x.x-iterator c.next.new.self c.in-Some.ensures.steps (sym c.if-not-beats.ensures) c.loop-x.invariant.3,
    )

pub returns-then-not-beats : goal.returns-then-not-beats
returns-then-not-beats g c =
    no_more (beats_by g.A.Ordered.order c.args.greatest) c.args.best c.in-Some.x.now c.loop-x.count _ c.loop-x.x-iterator c.next.new.self c.in-Some.ensures.steps (sym c.if-not-beats.ensures) c.loop-x.invariant.3

pub returns : goal.returns
returns g c = none_left (beats_by g.A.Ordered.order c.args.greatest) c.args.best c.loop-x.count _ c.loop-x.x-iterator c.in-None.ensures.steps.0 c.loop-x.invariant.3
