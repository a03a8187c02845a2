use Rattle.nd_array_core.proofs.NamesFromOtherCrates.{length, refl, on_ok_weaker}
use Rattle.nd_array_core.specs.ArrayMeaning.{meaning_of, shape_of}
use Rattle.nd_array_core.proofs.growth_lemmas.PushedArrays.{column_after, two_axes}
use Rattle.nd_array_core.proofs.growth.push.Array+A+Ix2.push_column.Goals as goal

pub returns : goal.returns
unfolding meaning_of
returns g c =
    record {
      refused = c.push.ensures.refused;
      fits = c.push.ensures.fits;
      column = let axes = two_axes (length (shape_of c.args.self.now)) c.ndim-axes.result c.ndim-axes.ensures.value c.ndim-axes.ensures.number in
          on_ok_weaker c.push.result (column_after (meaning_of c.args.self.now) (meaning_of c.args.column) (meaning_of c.push.new.self) axes (λ i outside. rw outside refl)) c.push.ensures.plain;
      joined = c.push.ensures.joined;
      kept = c.push.ensures.kept;
      laid = c.push.ensures.laid;
      ready = c.push.ensures.ready;
      goes_on = c.push.ensures.goes_on;
      left = c.push.ensures.left;
      room = c.push.ensures.room;
      room_left = c.push.ensures.room_left;
      room_kept = c.push.ensures.room_kept;
      enough = c.push.ensures.enough;
    }
