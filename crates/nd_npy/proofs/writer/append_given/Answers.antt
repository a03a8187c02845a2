use Rattle.std.proofs.Common.{rules, ◌≡◌, refl, sym, subst}
use Rattle.std.specs.Iterator.{IsFinite}
use Rattle.nd_npy.proofs.WrittenElementBytes.{StillToWrite, one_written, all_written}
use Rattle.nd_npy.proofs.writer.append_given.Goals as goal

pub loop-item-init : goal.loop-item-init
loop-item-init g c =
    let same : c.into_iter-item-iterator.result ≡ c.args.items = search rules in
    record {
      can = subst g.I.Iterator.can_next (sym same) c.requires.can;
      ends = subst (λ it. IsFinite (g.I.Iterator.remaining it)) (sym same) c.requires.finite;
      still = subst (λ it. StillToWrite g.A.NpyItem c.args.order g.I.Iterator.next_gives c.args.items c.args.bytes.now.items it c.args.bytes.now.items) (sym same) (λ rest steps. (refl, λ all. all));
    }

pub loop-item-preserved : goal.loop-item-preserved
loop-item-preserved g c =
    let kept = c.loop-item.invariant in
    let step = c.in-Some.ensures in
    record {
      can = step.goes.keeps;
      ends = (step.goes.on kept.ends).1;
      still = one_written g.A.NpyItem c.args.order g.I.Iterator.next_gives c.args.items c.args.bytes.now.items c.loop-item.item-iterator c.next.new.self c.in-Some.item c.loop-item.bytes.items c.append_to.new.bytes.items step.steps c.in_ok-append_to.ensures.written c.in_ok-append_to.ensures.fits kept.still;
    }

pub returns : goal.returns
returns g c = all_written g.A.NpyItem c.args.order g.I.Iterator.next_gives c.args.items c.args.bytes.now.items c.loop-item.item-iterator c.next.new.self c.loop-item.bytes.items c.in-None.ensures.steps c.loop-item.invariant.still
