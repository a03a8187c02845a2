use Rattle.std.proofs.Common.{◌+◌, ◌*◌, ◌≤◌, arith, ◌∙◌}
use Rattle.std.proofs.Math.Nat.{add-mul, mul-le-mul_right}
use Rattle.nd_array_core.specs.growth.AppendEach.{lengths_along, meanings_of}
use Rattle.nd_stacking.proofs.ConcatenationByRuns.{woven_more}
use Rattle.nd_stacking.proofs.concatenate_by_runs.woven.Goals as goal

pub with_row-requires-clause-runs : goal.with_row-requires-clause-runs
with_row-requires-clause-runs g c = c.requires.runs c.loop-row.row c.loop-row-test.true

pub with_row-requires-clause-room : goal.with_row-requires-clause-room
with_row-requires-clause-room g c =
    let width = lengths_along c.args.axis (meanings_of c.args.arrays.now) * c.args.after in
    let test = c.loop-row-test.true in
    let more : c.loop-row.row + 1 ≤ c.args.rows = omega (arith, test) in
    let within : (c.loop-row.row + 1) * width ≤ c.args.rows * width = mul-le-mul_right width more in
    let split = add-mul c.loop-row.row 1 width in
    let long = c.loop-row.invariant.len in
    let room = c.loop-row.invariant.room in
    let count = c.requires.count in
    omega (arith, within, split, long, room, count)

pub loop-row-preserved : goal.loop-row-preserved
loop-row-preserved g c =
    let ms = meanings_of c.args.arrays.now in
    let width = lengths_along c.args.axis ms * c.args.after in
    let before = c.loop-row.invariant in
    let row = c.in_ok-items-2.ensures {u = tt} in
    let split = add-mul c.loop-row.row 1 width in
    let long = before.len in
    let longer = row.len in record {
      items = woven_more c.args.axis c.args.after c.loop-row.row ms _ _ before.items row.items;
      len = omega (arith, split, long, longer);
      room = row.room ∙ before.room;
    }
