use Rattle.std.proofs.Common.{◌<◌, true, sym, arith}
use Rattle.nd_npy_text.specs.HeaderReading.{lengths_in}
use Rattle.nd_npy_text.specs.DictEntries.{listed}
use Rattle.nd_npy_text.proofs.LengthListReading.{lengths_on, lengths_stop, lengths_many, lengths_end, lengths_unclosed, listed_few}
use Rattle.nd_npy_text.proofs.shape_lengths.lengths_in.Goals as goal

pub loop-shape-preserved : goal.loop-shape-preserved
loop-shape-preserved c =
    let l = c.loop-shape in
    let some : 0 < l.left = omega (arith, c.if-left-eq0.false) in
    record {
      read = rw c.add.ensures.listed (lengths_on l.first l.left (listed l.shape) l.rest.now (lengths_in true 32 c.args.text.now) l.invariant.read c.in-Ok.length c.in-Ok.after.now (sym c.loop-shape-test.ensures) some (sym c.in-Ok.ensures));
      count = omega (arith, c.add.ensures.count, l.invariant.count);
    }

pub returns-in-Err-clause-value : goal.returns-in-Err-clause-value
returns-in-Err-clause-value c =
    let l = c.loop-shape in
    let some : 0 < l.left = omega (arith, c.if-left-eq0.false) in
    sym (lengths_stop l.first l.left (listed l.shape) l.rest.now (lengths_in true 32 c.args.text.now) l.invariant.read c.in-Err.stop (sym c.loop-shape-test.ensures) some (sym c.in-Err.ensures))

pub returns-then-left-eq0-clause-value : goal.returns-then-left-eq0-clause-value
returns-then-left-eq0-clause-value c =
    let l = c.loop-shape in
    sym (lengths_many l.first l.left (listed l.shape) l.rest.now (lengths_in true 32 c.args.text.now) l.invariant.read c.one_too_many.result (sym c.loop-shape-test.ensures) c.if-left-eq0.true c.one_too_many.ensures)

pub returns-in-Ok-after_mark-clause-value : goal.returns-in-Ok-after_mark-clause-value
returns-in-Ok-after_mark-clause-value c =
    let l = c.loop-shape in
    sym (lengths_end l.first l.left (listed l.shape) l.rest.now (lengths_in true 32 c.args.text.now) l.invariant.read c.in-Ok-after_mark.after.now (sym c.loop-shape-test.ensures) (sym c.in-Ok-after_mark.ensures))

pub returns-in-Ok-after_mark-clause-axes : goal.returns-in-Ok-after_mark-clause-axes
returns-in-Ok-after_mark-clause-axes c = listed_few c.loop-shape.shape (omega (arith, c.loop-shape.invariant.count))

pub returns-in-Err-after_mark-clause-value : goal.returns-in-Err-after_mark-clause-value
returns-in-Err-after_mark-clause-value c =
    let l = c.loop-shape in
    sym (lengths_unclosed l.first l.left (listed l.shape) l.rest.now (lengths_in true 32 c.args.text.now) l.invariant.read c.in-Err-after_mark.stop (sym c.loop-shape-test.ensures) (sym c.in-Err-after_mark.ensures))
