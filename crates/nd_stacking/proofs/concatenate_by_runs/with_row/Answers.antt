use Rattle.std.proofs.Common.{◌≡◌, ◌+◌, ◌*◌, ◌≤◌, length, get_or, take, refl, ap, ◌∙◌, arith}
use Rattle.std.proofs.Math.Nat.{add-mul, mul-le-mul_right}
use Rattle.std.proofs.lemmas.Option.{slice_get_read}
use Rattle.nd_shape_and_slice.proofs.ListEdits.{got_mapped}
use Rattle.nd_array_core.specs.ArrayMeaning.{meaning_of}
use Rattle.nd_array_core.specs.growth.AppendEach.{lengths_along, meanings_of}
use Rattle.nd_stacking.proofs.ConcatenationShapeChecks.{lengths_more, lengths_within}
use Rattle.nd_stacking.proofs.ConcatenationByRuns.{row_more}
use Rattle.nd_stacking.proofs.concatenate_by_runs.with_row.Goals as goal

pub run_of-requires : goal.run_of-requires
run_of-requires g c =
    let x = c.index-arrays-nth.result in
    record {
      standard = let arrays = c.args.arrays.now in
          c.requires.standard c.loop-nth.nth x (slice_get_read arrays (length arrays) c.loop-nth.nth x refl c.loop-nth-test.true c.index-arrays-nth.is);
      within = c.requires.runs c.loop-nth.nth (meaning_of x) (got_mapped (λ a. meaning_of a) c.args.arrays.now c.loop-nth.nth x c.loop-nth-test.true c.index-arrays-nth.is);
    }

pub with_clones-requires : goal.with_clones-requires
with_clones-requires g c =
    let x = c.index-arrays-nth.result in
    let at = got_mapped (λ a. meaning_of a) c.args.arrays.now c.loop-nth.nth x c.loop-nth-test.true c.index-arrays-nth.is in
    record {
      clones = λ place y there copy made. let from = c.run_of.ensures.elements place y there in
          c.requires.clones c.loop-nth.nth (meaning_of x) at from.0 y from.1 copy made;
      room = let axis = c.args.axis in
          let ms = meanings_of c.args.arrays.now in
          let so_far = lengths_along axis (take c.loop-nth.nth ms) in
          let len = get_or (meaning_of x).shape axis 0 in
          let within : (so_far + len) * c.args.after ≤ lengths_along axis ms * c.args.after = mul-le-mul_right c.args.after (lengths_within axis ms c.loop-nth.nth (meaning_of x) at) in
          let split : (so_far + len) * c.args.after ≡ so_far * c.args.after + len * c.args.after = add-mul so_far len c.args.after in
          let run : length c.run_of.result.now ≡ len * c.args.after = c.run_of.ensures.len in
          let long = c.loop-nth.invariant.len in
          let kept = c.loop-nth.invariant.room in
          let room = c.requires.room in
          omega (arith, within, split, run, long, kept, room);
    }

pub loop-nth-preserved : goal.loop-nth-preserved
loop-nth-preserved g c =
    let x = c.index-arrays-nth.result in
    let axis = c.args.axis in
    let ms = meanings_of c.args.arrays.now in
    let nth = c.loop-nth.nth in
    let so_far = lengths_along axis (take nth ms) in
    let len = get_or (meaning_of x).shape axis 0 in
    let at = got_mapped (λ a. meaning_of a) c.args.arrays.now nth x c.loop-nth-test.true c.index-arrays-nth.is in
    let before = c.loop-nth.invariant in
    let made = c.in_ok-longer.ensures {u = tt} in
    let split : (so_far + len) * c.args.after ≡ so_far * c.args.after + len * c.args.after = add-mul so_far len c.args.after in
    let total : lengths_along axis (take (nth + 1) ms) * c.args.after ≡ (so_far + len) * c.args.after = ap (λ n. n * c.args.after) (lengths_more axis ms nth (meaning_of x) at) in
    let run : length c.run_of.result.now ≡ len * c.args.after = c.run_of.ensures.len in
    let long = before.len in
    let longer = made.len in record {
      items = row_more axis c.args.after c.args.row ms nth (meaning_of x) c.args.items.items c.loop-nth.longer.items c.in_ok-longer.longer.items c.run_of.result.now at before.items made.items c.run_of.ensures.items;
      len = omega (arith, split, total, run, long, longer);
      room = made.room ∙ before.room;
    }
