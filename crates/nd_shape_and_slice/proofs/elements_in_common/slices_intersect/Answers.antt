use Rattle.nd_shape_and_slice.proofs.NamesFromOtherCrates.{◌<◌, length, refl, arith, None, pos, false≢true}
use Rattle.nd_shape_and_slice.specs.declared.slice_info.SliceInfoElem.{SliceInfoElem}
use Rattle.nd_shape_and_slice.specs.declared.slice_info.SliceInfoElem.TheVariants.{Slice as Part}
use Rattle.nd_shape_and_slice.proofs.CommonElements.{first_at, second_at, met_more, met_not}
use Rattle.nd_shape_and_slice.proofs.elements_in_common.slices_intersect.Goals as goal

-- what stands past the end of a list of slices
abbrev past : SliceInfoElem
past = Part (pos 0) None (pos 0)

pub bounds-a-in_a : goal.bounds-a-in_a
bounds-a-in_a c =
    let axis : c.loop-len.len-index < length c.args.shape.now = omega arith in
    let at = first_at c.args.shape.now c.args.a.now c.args.b.now c.loop-len.len-index c.loop-len.in_a c.loop-len.in_b c.next_reader-in_a.result past axis c.loop-len.invariant c.next_reader-in_a.ensures.rest in
    at.within

pub spaced_by-requires : goal.spaced_by-requires
spaced_by-requires c =
    let axis : c.loop-len.len-index < length c.args.shape.now = omega arith in
    let at = first_at c.args.shape.now c.args.a.now c.args.b.now c.loop-len.len-index c.loop-len.in_a c.loop-len.in_b c.next_reader-in_a.result past axis c.loop-len.invariant c.next_reader-in_a.ensures.rest in
    at.fits

pub bounds-b-in_b : goal.bounds-b-in_b
bounds-b-in_b c =
    let axis : c.loop-len.len-index < length c.args.shape.now = omega arith in
    let at = second_at c.args.shape.now c.args.a.now c.args.b.now c.loop-len.len-index c.loop-len.in_a c.loop-len.in_b c.next_reader-in_b.result past axis c.loop-len.invariant c.next_reader-in_b.ensures.rest in
    at.within

pub spaced_by-requires-in-loop-len : goal.spaced_by-requires-in-loop-len
spaced_by-requires-in-loop-len c =
    let axis : c.loop-len.len-index < length c.args.shape.now = omega arith in
    let at = second_at c.args.shape.now c.args.a.now c.args.b.now c.loop-len.len-index c.loop-len.in_a c.loop-len.in_b c.next_reader-in_b.result past axis c.loop-len.invariant c.next_reader-in_b.ensures.rest in
    at.fits

pub returns-then-not-spaced_meet : goal.returns-then-not-spaced_meet
returns-then-not-spaced_meet c =
    let axis : c.loop-len.len-index < length c.args.shape.now = omega arith in
    let first = c.spaced_by.result in
    let second = c.spaced_by-in-loop-len.result in
    (λ h. absurd (false≢true h), λ whole. absurd (met_not c.args.shape.now c.args.a.now c.args.b.now c.loop-len.len-index c.loop-len.in_a c.loop-len.in_b c.next_reader-in_a.result c.next_reader-in_b.result past past first.low first.distance first.count second.low second.distance second.count axis c.loop-len.invariant c.next_reader-in_a.ensures.rest c.next_reader-in_b.ensures.rest c.spaced_by.ensures c.spaced_by-in-loop-len.ensures (λ s. false≢true (c.if-not-spaced_meet.ensures.1 s)) whole))

pub loop-len-preserved : goal.loop-len-preserved
loop-len-preserved c =
    let axis : c.loop-len.len-index < length c.args.shape.now = omega arith in
    let first = c.spaced_by.result in
    let second = c.spaced_by-in-loop-len.result in
    met_more c.args.shape.now c.args.a.now c.args.b.now c.loop-len.len-index c.loop-len.in_a c.loop-len.in_b c.next_reader-in_a.result c.next_reader-in_b.result past past first.low first.distance first.count second.low second.distance second.count axis c.loop-len.invariant c.next_reader-in_a.ensures.rest c.next_reader-in_b.ensures.rest c.spaced_by.ensures c.spaced_by-in-loop-len.ensures (c.if-not-spaced_meet.ensures.0 refl)
