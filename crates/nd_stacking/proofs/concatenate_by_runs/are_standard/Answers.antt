use Rattle.std.proofs.Common.{length, refl, arith}
use Rattle.std.proofs.lemmas.List.{length-map}
use Rattle.std.proofs.lemmas.Option.{slice_get_read}
use Rattle.nd_shape_and_slice.proofs.ListEdits.{got_mapped}
use Rattle.nd_array_core.specs.ArrayMeaning.{meaning_of}
use Rattle.nd_array_core.specs.growth.AppendEach.{meanings_of}
use Rattle.nd_array_core.specs.reshape.ElementsAsSlice.{IsStandardArray}
use Rattle.nd_stacking.specs.ConcatenationByRuns.{IsByRank}
use Rattle.nd_stacking.proofs.ConcatenationShapeChecks.{next_below}
use Rattle.nd_stacking.proofs.IndexNumberByAxisParts.{all_below}
use Rattle.nd_stacking.proofs.concatenate_by_runs.are_standard.Goals as goal

pub loop-nth-preserved : goal.loop-nth-preserved
loop-nth-preserved g c =
    let arrays = c.args.arrays.now in
    let nth = c.loop-nth.nth in
    let x = c.index-arrays-nth.result in
    let y = c.index-arrays-nth-in-loop-nth.result in
    let test = c.loop-nth-test.true in record {
      standard = next_below (λ a. IsStandardArray a) arrays nth y (slice_get_read arrays (length arrays) nth y refl test c.index-arrays-nth-in-loop-nth.is) (c.is_standard_layout.ensures.0 c.if-not-is_standard_layout.false) c.loop-nth.invariant.standard;
      ranks = next_below IsByRank (meanings_of arrays) nth (meaning_of x) (got_mapped (λ a. meaning_of a) arrays nth x test c.index-arrays-nth.is) (c.elements_by_rank.ensures.count, c.elements_by_rank.ensures.each) c.loop-nth.invariant.ranks;
    }

pub returns : goal.returns
returns g c =
    let past = c.loop-nth-test.false in
    record {
      standard = λ t. all_below (λ a. IsStandardArray a) c.args.arrays.now c.loop-nth.nth past c.loop-nth.invariant.standard;
      ranks = λ t. let long = length-map c.args.arrays.now (λ a. meaning_of a) in
          all_below IsByRank (meanings_of c.args.arrays.now) c.loop-nth.nth (omega (arith, past, long)) c.loop-nth.invariant.ranks;
    }
