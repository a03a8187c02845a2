use Rattle.std.proofs.Common.{◌≡◌, ◌∙◌, ◌-◌, ◌+◌, ◌*◌, ◌/◌, ◌++◌, min, take, length, length-take-le, vec_len, sym, ap, arith}
use Rattle.nd_npy.specs.ItemBytes.{values_in}
use Rattle.nd_npy.proofs.ItemsInPieces.{items_taken, taken_fits}
use Rattle.nd_npy.proofs.elements_piece_by_piece.take_items.Goals as goal

pub overflow_mul-taken : goal.overflow_mul-taken
overflow_mul-taken g c =
    let within = taken_fits (g.A.NpyItem.value_of c.args.order) c.args.size c.len.result (c.args.count - c.len-2.result) c.min-wanted.result c.min-wanted.ensures in
    omega (arith, within, c.len.type_inv)

pub slice_bounds-push_values-end : goal.slice_bounds-push_values-end
slice_bounds-push_values-end g c =
    let within = taken_fits (g.A.NpyItem.value_of c.args.order) c.args.size c.len.result (c.args.count - c.len-2.result) c.min-wanted.result c.min-wanted.ensures in
    sym (length-take-le (c.min-wanted.result * c.args.size) c.deref.result.now (omega (arith, within, c.len.ensures, c.deref.ensures.len)))

pub push_values-requires-clause-whole : goal.push_values-requires-clause-whole
push_values-requires-clause-whole g c =
    let within = taken_fits (g.A.NpyItem.value_of c.args.order) c.args.size c.len.result (c.args.count - c.len-2.result) c.min-wanted.result c.min-wanted.ensures in
    length-take-le (c.min-wanted.result * c.args.size) c.deref.result.now (omega (arith, within, c.len.ensures, c.deref.ensures.len))

pub drop_front-requires : goal.drop_front-requires
drop_front-requires g c =
    let within = taken_fits (g.A.NpyItem.value_of c.args.order) c.args.size c.len.result (c.args.count - c.len-2.result) c.min-wanted.result c.min-wanted.ensures in
    omega (arith, within, c.len.ensures)

pub returns-in-Ok : goal.returns-in-Ok
returns-in-Ok g c =
    let value = g.A.NpyItem.value_of c.args.order in
    let size = c.args.size in
    let count = c.args.count in
    let bytes = c.args.pending.now.items in
    let old = c.args.values.now in
    let k = c.min-wanted.result in
    let room = c.in-Ok.ensures in
    let added = c.push_values.ensures in
    let least : k ≡ min (length bytes / size) (count - vec_len old) =
    c.min-wanted.ensures
    ∙ ap (λ n. min (n / size) (count - c.len-2.result)) (c.len.ensures ∙ c.args.pending.now.ok.0)
    ∙ ap (λ n. min (length bytes / size) (count - n)) c.len-2.ensures in
    let values : c.push_values.new.values.items ≡ old.items ++ values_in value size k (take (k * size) bytes) =
    added.values
    ∙ ap (λ l. l ++ values_in value size k (take (k * size) c.deref.result.now)) room.items
    ∙ ap (λ l. old.items ++ values_in value size k (take (k * size) l)) c.deref.ensures.value in
    let counted : vec_len c.push_values.new.values ≡ vec_len old + k = omega (arith, added.len, room.len) in
    items_taken value size count (vec_len old) (vec_len c.push_values.new.values) k old.items c.push_values.new.values.items bytes c.drop_front.new.bytes.items c.requires.some c.requires.few least values counted c.drop_front.ensures.bytes
