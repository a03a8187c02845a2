use Rattle.std.proofs.Common.{◌<◌, arith}
use Rattle.nd_text.proofs.FirstNumberOfLine.{room_left, below_more, digit_more}
use Rattle.nd_text.proofs.number_reading.with_fitting_digits.Goals as goal

pub overflow_mul-number : goal.overflow_mul-number
overflow_mul-number c =
    let room = room_left c.loop-nth.number c.loop-nth.nth (omega arith) c.loop-nth.invariant.below in
    omega (arith, room)

pub overflow_add-number : goal.overflow_add-number
overflow_add-number c =
    let room = room_left c.loop-nth.number c.loop-nth.nth (omega arith) c.loop-nth.invariant.below in
    omega (arith, room)

pub loop-nth-preserved : goal.loop-nth-preserved
loop-nth-preserved c =
    let i = c.loop-nth.nth in
    let n = c.loop-nth.number in
    let d = c.digit_value-digit.result in
    let digit : d < 10 = omega arith in
    let room = room_left n i (omega arith) c.loop-nth.invariant.below in
    record {
      read = digit_more c.args.line.now n d i _ (omega arith) (c.digit_value-digit.ensures.digit.1 digit) (c.digit_value-digit.ensures.value digit) (omega (arith, room, digit)) c.loop-nth.invariant.read;
      below = below_more n d i digit c.loop-nth.invariant.below;
    }
