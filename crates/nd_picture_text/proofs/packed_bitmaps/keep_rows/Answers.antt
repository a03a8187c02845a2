use Rattle.nd_picture_text.proofs.PackedBitmapPixels.{kept_count, kept_light}
use Rattle.nd_picture_text.proofs.PackedBitmapLoops.{all_pixels, rows_on, rows_long}
use Rattle.nd_picture_text.proofs.packed_bitmaps.keep_rows.Goals as goal

pub loop-missing-preserved : goal.loop-missing-preserved
loop-missing-preserved c =
    let were = c.loop-missing.samples.items in
    let rest = c.loop-missing.rest.now in
    let after = c.split_at.result.1.now in
    record {
      read = rows_on were c.args.width c.row_size-size.result c.loop-missing.missing rest c.split_at.result.0.now after c.keep_row.new.samples.items _ c.row_size-size.ensures c.split_at.ensures.front c.split_at.ensures.back c.loop-missing-test.true c.in_ok-keep_row.ensures.kept c.loop-missing.invariant.read;
      long = rows_long c.args.width c.row_size-size.result c.loop-missing.missing rest after c.row_size-size.ensures c.loop-missing-test.true c.split_at.ensures.back c.loop-missing.invariant.long;
    }

pub returns-clause-count : goal.returns-clause-count
returns-clause-count c =
    let all = all_pixels c.args.width c.loop-missing.missing c.loop-missing.samples.items c.loop-missing.rest.now _ c.loop-missing-test.false c.loop-missing.invariant.read in
    kept_count c.args.width c.args.height c.loop-missing.samples.items c.args.raster.now all c.requires.size

pub returns-clause-within : goal.returns-clause-within
returns-clause-within c =
    let all = all_pixels c.args.width c.loop-missing.missing c.loop-missing.samples.items c.loop-missing.rest.now _ c.loop-missing-test.false c.loop-missing.invariant.read in
    kept_light c.args.width c.args.height c.loop-missing.samples.items c.args.raster.now all
