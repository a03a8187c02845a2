use Rattle.std.proofs.Common.{◌-◌, ◌∙◌, ap}
use Rattle.nd_npy.proofs.ItemsInPieces.{front_dropped}
use Rattle.nd_npy.proofs.elements_piece_by_piece.drop_front.Goals as goal

pub returns-clause-bytes : goal.returns-clause-bytes
returns-clause-bytes c =
    let bytes = c.args.bytes.now in
    front_dropped bytes.items c.rotate_left.new.self.items c.truncate.new.self.items c.args.count _ (ap (λ n. n - c.args.count) (c.len.ensures ∙ bytes.ok.0)) c.rotate_left.ensures.items c.truncate.ensures.items
