use Rattle.std.proofs.Common.{◌∙◌, ◌-◌, ◌++◌, [], ◌∷◌, take, length, ap, arith}
use Rattle.nd_npy.specs.ItemBytes.{values_in}
use Rattle.nd_npy.proofs.ItemValues.{values_more, left_over}
use Rattle.nd_npy.proofs.item_values.push_values.Goals as goal

pub loop-left-preserved : goal.loop-left-preserved
loop-left-preserved g c =
    let next = c.take_value-rest.ensures in
    let kept = c.loop-left.invariant in
    let some = c.loop-left-test.true in
    let value = g.A.NpyItem.value_of c.args.order in
    let size = c.args.size in
    let left = c.loop-left.left in
    let items = c.loop-left.values.items in
    let rest = c.loop-left.rest.now in
    record {
      values =
          ap (λ xs. xs ++ values_in value size (left - 1) c.take_value-rest.result.now) next.values
          ∙ ap (λ l. (items ++ value (take size rest) ∷ []) ++ values_in value size (left - 1) l) next.rest
          ∙ values_more value size left rest items _ some kept.values;
      bytes = ap length next.rest ∙ left_over value size left rest some kept.bytes;
      len = omega (arith, next.len, kept.len, some);
      room = next.room ∙ kept.room;
    }
